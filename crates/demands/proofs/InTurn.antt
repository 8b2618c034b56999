-- The calls in turn: where the checks and the load answer 0, the load was ready, and the run reads the words that it wrote.
use mathlib.Core.Bool.{Bool, true, false}
use mathlib.Core.List.{List, [], append-nil}
use mathlib.Core.Logic.{inl, inr}
use mathlib.Core.Path.{◌≡◌, ◌∙◌, refl, sym, ap}
use Prim.Native.Nat.{ℕ, zero, suc}
use native.Mathlib.Omega.{arith}
use lib.Dec.{eqb}
use lib.ListN.{length, drop, drop_of_length-le}
use borrow.Author.Tests.{eqb-true, eqb-false, eq-eqb}
use Rattle.header.specs.Header.{code_of}
use Rattle.module_set.specs.Members.{Members, single}
use Rattle.relocation.specs.Relocation.{set_number}
use Rattle.registers.specs.declared.Registers.{Registers}
use Rattle.registers.specs.State.{state, registers_in}
use Rattle.load.specs.Loaded.{Loaded}
use Rattle.std.specs.Prelude.{Err, Ok}
use Rattle.load.specs.Load.{Loading, set_load, load_of}
use Rattle.load.proofs.Modules.{set-some}
use Rattle.verifier.specs.Exact.{AllBytes}
use Rattle.verifier.proofs.Exactly.{accepts-exactly}
use Rattle.run.specs.Run.{set_run}
use Rattle.safety.specs.Demand3.{AllAccepted}
use Rattle.joined.proofs.Alone.{load-alone, run_alone, copy-left}
use Rattle.icode.specs.Bench.{record_state, record_outcome, set_state, set_outcome, record_taken, set_taken, placed_state, member_in, bench_load, bench_run, run_reply}
use Rattle.guarantees.specs.Answers.{UpTo}
use Rattle.guarantees.proofs.Numbers.{load-numbers}
use Rattle.demands.specs.Calls.{SetInTurn, RecordInTurn}

-- What a load through C that answers 0 was.
record Was (words : ℕ) (S : Members) (ps copy m s u : List ℕ) : Type 0 where
  registers : Registers
  sound : set_number S ≡ 0
  ready : (set_load S ps copy m s).answer ≡ Ok registers
  copied : (bench_load words S ps copy m s u).copy ≡ (set_load S ps copy m s).copy
  memory : (bench_load words S ps copy m s u).memory ≡ (set_load S ps copy m s).memory
  words_left : (bench_load words S ps copy m s u).state ≡ placed_state words registers 0

-- States have as many words as are written.
abbrev Whole : ℕ → Type 0
Whole words = (q : Registers) → length (placed_state words q 0) ≡ words

not-zero : (n : ℕ) → UpTo 8 n → n ≡ 0 → ⊥
not-zero n (inl (some, most)) e = omega arith
not-zero n (inr (inl e)) f = omega arith
not-zero n (inr (inr e)) f = omega arith

module _ (words : ℕ) (whole : Whole words) (S : Members) (ps copy m s u : List ℕ) where
  was-loaded : set_number S ≡ 0 → eqb (length u) words ≡ true → (l : Loaded) → (set_load S ps copy m s).answer ≡ l
      → (bench_load words S ps copy m s u).answer ≡ 0 → Was words S ps copy m s u
  unfolding bench_load
  was-loaded sound fits (Err n) e answered =
      let none : n ≡ 0 = rw (sound, fits, e) at answered in
      absurd (not-zero n (load-numbers S ps copy m s n e) none)
  was-loaded sound fits (Ok q) e answered =
      let behind : drop (length (placed_state words q 0)) u ≡ [] =
      drop_of_length-le u {i = length (placed_state words q 0)} (omega (arith, whole q, eqb-true (length u) words fits)) in
      record {
        registers = q;
        sound = sound;
        ready = e;
        copied = rw (sound, fits);
        memory = rw (sound, fits);
        words_left = rw (sound, fits, e, behind) (append-nil (placed_state words q 0));
      }

  was : (sound fits : Bool) → eqb (set_number S) 0 ≡ sound → eqb (length u) words ≡ fits
      → (bench_load words S ps copy m s u).answer ≡ 0 → Was words S ps copy m s u
  unfolding bench_load
  was true true e f answered = was-loaded (eqb-true (set_number S) 0 e) f (set_load S ps copy m s).answer refl answered
  was true false e f answered = let none : ◌≡◌ {A = ℕ} 8 0 = rw (e, f) at answered in absurd (omega (arith, none))
  was false fits e f answered =
      let none : set_number S ≡ 0 = rw e at answered in
      absurd (eqb-false (set_number S) 0 e none)

-- A run whose state words are those of registers in the main module.
run-in-turn : (words places : ℕ) (taken : Bool) (M : Members) (copy : List ℕ) (budget : ℕ) (m s w o : List ℕ) (q : Registers) → set_number M ≡ 0
    → length w ≡ words → taken ≡ true → registers_in w ≡ q → member_in w ≡ 0
    → let a = set_run M copy budget 0 (state q m s) in
    bench_run words places taken M copy budget m s w o ≡ run_reply words places a.answer a.state.memory a.state.stack w o
unfolding bench_run
run-in-turn words places taken M copy budget m s w o q sound long room same main =
    rw (sound, eq-eqb (length w) words long, room, same, main)

set-whole : Whole set_state
set-whole q = refl

record-whole : Whole record_state
record-whole q = refl

set_back : (q : Registers) → (registers_in (placed_state set_state q 0) ≡ q) × (member_in (placed_state set_state q 0) ≡ 0)
unfolding registers_in
set_back q = (refl, refl)

record-back : (q : Registers) → (registers_in (placed_state record_state q 0) ≡ q) × (member_in (placed_state record_state q 0) ≡ 0)
unfolding registers_in
record-back q = (refl, refl)

pub set_in_turn : SetInTurn
set_in_turn S spaces ps copy m s u bytes accepted answered =
    let W = was set_state set-whole S ps copy m s u (eqb (set_number S) 0) (eqb (length u) set_state) refl refl answered in
    let q = W.registers in
    let back = set_back q in (
      record {
        members = S;
        spaces = spaces;
        parameters = ps;
        copy = copy;
        memory = m;
        stack = s;
        registers = q;
        are_bytes = bytes;
        accepted = accepted;
        loaded = W.ready;
        ruled = ((accepts-exactly S 0 (spaces 0) bytes).0 (accepted 0 (set-some S W.sound))).1;
      },
      record {
        members = refl;
        workspaces = refl;
        parameter_words = refl;
        lent_copy = refl;
        lent_memory = refl;
        stack = refl;
        left_copy = W.copied;
        memory = W.memory;
        state = W.words_left;
        run = λ budget o room.
            rw (W.copied, W.memory, W.words_left)
            (run-in-turn set_state set_outcome (set_taken o) S (set_load S ps copy m s).copy budget (set_load S ps copy m s).memory s
            (placed_state set_state q 0) o q W.sound (set-whole q) room back.0 back.1);
      },
    )

pub record_in_turn : RecordInTurn
record_in_turn r results w ps m s u b c answered =
    let One = single r [] in
    let W = was record_state record-whole One ps (code_of r) m s u (eqb (set_number One) 0) (eqb (length u) record_state) refl refl answered in
    let q = W.registers in
    let back = record-back q in
    let same = load-alone r results ps (code_of r) m s in
    let L : Loading = set_load (single r results) ps (code_of r) m s in
    let copied : L.copy ≡ code_of r = ap (λ (l : Loading). l.copy) same ∙ copy-left r ps m s q W.ready in
    let memory : (load_of r ps m s).memory ≡ L.memory = ap (λ (l : Loading). l.memory) (sym same) in (
      record {
        members = single r results;
        spaces = λ k. w;
        parameters = ps;
        copy = code_of r;
        memory = m;
        stack = s;
        registers = q;
        are_bytes = bytes;
        accepted = accepted;
        loaded = ap (λ (l : Loading). l.answer) same ∙ W.ready;
        ruled = ((accepts-exactly (single r results) 0 w bytes).0 c).1;
      },
      record {
        members = refl;
        workspaces = refl;
        parameter_words = refl;
        lent_copy = refl;
        lent_memory = refl;
        stack = refl;
        left_copy = sym copied;
        memory = W.memory ∙ memory;
        state = W.words_left;
        run = λ budget o room.
            rw (copied, W.words_left, run_alone r results (code_of r) budget 0 (state q L.memory s), W.memory ∙ memory)
            (run-in-turn record_state record_outcome (record_taken o) One (code_of r) budget L.memory s (placed_state record_state q 0) o q W.sound
            (record-whole q) room back.0 back.1);
      },
    )
  where
    bytes : AllBytes (single r results)
    bytes zero = b
    bytes (suc k) = λ i. omega arith

    accepted : AllAccepted (single r results) (λ k. w)
    accepted zero h = c
    accepted (suc k) h = absurd (omega arith)
