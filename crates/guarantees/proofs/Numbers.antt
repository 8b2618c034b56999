-- Which numbers are handed back: a call's tests have no others, and a step traps on code in decoding, for want of words, of a callee
-- or of a library, or at the next place, else on data.
use mathlib.Core.Bool.{true, not}
use mathlib.Core.List.{List}
use mathlib.Core.Logic.{◌⊎◌, inl, inr}
use mathlib.Core.Option.{Option, none, some}
use mathlib.Core.Path.{◌≡◌, refl, subst}
use Prim.Native.Nat.{ℕ, zero, suc, ◌+◌, ◌-◌, ◌≤◌}
use native.Mathlib.Omega.{arith}
use lib.Dec.{eqb, leb, ltb}
use lib.ListN.{length}
use borrow.Author.Tests.{leb-true, eqb-false}
use Rattle.words.specs.Refusal.{refusal}
use Rattle.words.proofs.Refusal.{most as at_most}
use Rattle.words.proofs.Tests.{either, by-test}
use Rattle.record.specs.Number.{Reading}
use Rattle.record.specs.Number.{record_number, reading_number, reading_of}
use Rattle.record.proofs.Sound.{record-range}
use Rattle.module_set.specs.Members.{Members, member_at}
use Rattle.relocation.specs.Relocation.{set_number}
use Rattle.opcode.specs.Decode.{decode_at}
use Rattle.opcode.specs.Decode.{Decoded}
use Rattle.opcode.specs.declared.DecodeError.TheVariants.{Unserved, Past}
use Rattle.std.specs.Prelude.{Err, Ok}
use Rattle.opcode.specs.declared.instruction.Instruction.{Instruction}
use Rattle.shape.specs.declared.Shape.{Shape}
use Rattle.shape.specs.Shape.{needed}
use Rattle.operate.specs.Traps.{DataTrap}
use Rattle.operate.proofs.Traps.{data-number}
use Rattle.effect.specs.declared.effect.Effect.{Effect}
use Rattle.effect.specs.declared.effect.Effect.TheVariants.{Trap, Finish, Go}
use Rattle.effect.specs.Data.{pushes}
use Rattle.registers.specs.Program.{Program}
use Rattle.registers.specs.State.{State}
use Rattle.execute.specs.Execute.{finding, executed}
use Rattle.execute.proofs.Acts.{Acts, acts, traps, no-library, passes, resizes, stores, drops, jumps, branches, keeps-boolean}
use Rattle.execute.proofs.Acts.{pops-boolean, skips-loop, enters-loop, leaves_loop, leaves-by-sum, repeats-loop, switches}
use Rattle.execute.proofs.Acts.{leaves-switch, no-callee, calls, no-external-callee, calls-external, enters, finishes, returns}
use Rattle.step.specs.declared.Outcome.{Outcome}
use Rattle.step.specs.declared.Outcome.TheVariants.{Went, Finished, Trapped}
use Rattle.step.specs.Step.{After, code_after, apply, perform, step_of}
use Rattle.std.specs.Prelude.{Err}
use Rattle.load.specs.Modules.{modules_of}
use Rattle.load.specs.Load.{Loading, load_tests, set_load_number, set_load}
use Rattle.std.specs.Prelude.{Err, Ok}
use Rattle.run.specs.Run.{Result, run_from, fits_in, set_run_number, set_run}
use Rattle.layout.specs.Cut.{Cut, bad, cut, cut_of}
use Rattle.stackmap.specs.Walk.{States, walk_of}
use Rattle.verifier.specs.Check.{libraries_of, subject_of, walked, verdict_of, concluded, judged, set_check}
use Rattle.verifier.specs.Exact.{code_at}
use Rattle.verifier.proofs.Ranges.{set-by, list-by, codes-range, cut_range}
use Rattle.verifier.proofs.Accepting.{Answers, early, late, answers, Judged, faulty, sound-codes, judgement}
use Rattle.guarantees.specs.Answers.{UpTo, CodeTrap, ReadingNumbers, CheckNumbers, LoadNumbers, RunNumbers, StepTraps}
use Rattle.guarantees.proofs.Refusals.{counted}
use Rattle.numbers.specs.TrapNumber.{trap_number}

pub reading-numbers : ReadingNumbers
unfolding reading_of
reading-numbers r =
    by-test (λ (a : Reading). reading_number a ≤ 7) (eqb (record_number r) 0) _ _ (λ e. omega arith) (λ e. record-range r)

-- A number up to `most`, 17 or 18, or none.
abbrev Given : (most : ℕ) → ℕ → Type 0
Given most n = (n ≡ 0) ⊎ UpTo most n

few : (most n : ℕ) → n ≤ most → Given most n
few most zero h = inl refl
few most (suc n) h = let some : 1 ≤ suc n = omega arith in inr (inl (some, h))

given : (most n : ℕ) → (n ≡ 0 → ⊥) → Given most n → UpTo most n
given most n h (inl e) = absurd (h e)
given most n h (inr u) = u

set_given : (most : ℕ) → 7 ≤ most → (S : Members) → Given most (set_number S)
set_given most h = set-by (Given most) (λ n l. few most n (omega arith)) (inr (inr (inl refl))) (inr (inr (inr refl)))

-- The walk gives 15 or none, the cut before it 10 or 11.
walk-number : (size : ℕ) (w : List ℕ) (o : Option States) → Given 15 (concluded size w (walked o)).number
walk-number size w none = few 15 15 (omega arith)
walk-number size w (some σ) = inl refl

pub check-numbers : CheckNumbers
check-numbers S own w = by (answers S own w)
  where
    cuts : (c : Cut) → cut_of (code_at S own) ≡ c
        → Given 15 (concluded (length (code_at S own)) w
        (judged (code_at S own) (libraries_of S (member_at S own).bytes) (member_at S own).results c)).number
    cuts (bad n) c = few 15 n (omega (arith, (cut_range (code_at S own) n c).1))
    cuts (cut marks) c =
        walk-number (length (code_at S own)) w
        (walk_of (subject_of (code_at S own) (libraries_of S (member_at S own).bytes) (member_at S own).results marks))

    verdict : Judged S own → Given 15 (concluded (length (code_at S own)) w (verdict_of S own)).number
    verdict (faulty n e v) = rw v (few 15 (suc n) (omega (arith, e, codes-range S)))
    verdict (sound-codes e v) = rw v (cuts (cut_of (code_at S own)) refl)

    by : Answers S own w → Given 15 (set_check S own w).number
    by (early n f g) =
        rw (g, ← f) (list-by (Given 15) (λ k h. few 15 k (omega arith)) (inr (inr (inl refl))) (inr (inr (inr refl)))
        S own (length w))
    by (late L g) = rw g (verdict (judgement S own))

load_given : (S : Members) (parameters copy m s : List ℕ) → Given 8 (set_load_number S parameters copy m s)
unfolding set_load_number
load_given S parameters copy m s =
    either (Given 8) (eqb (set_number S) 0) (refusal (load_tests S parameters copy m s)) (set_number S)
    (few 8 (refusal (load_tests S parameters copy m s)) (at_most 8 (load_tests S parameters copy m s) refl))
    (set_given 8 (omega arith) S)

pub load-numbers : LoadNumbers
unfolding set_load
load-numbers S parameters copy m s n =
    let k = set_load_number S parameters copy m s in
    by-test (λ (x : Loading). x.answer ≡ Err n → UpTo 8 n) (eqb k 0) _ _
    (λ t e. let z : ◌≡◌ {A = ℕ} 0 1 = cc in absurd (omega arith))
    (λ t e.
    let same : n ≡ set_load_number S parameters copy m s = cc in
    rw same (given 8 k (eqb-false k 0 t) (load_given S parameters copy m s)))

-- A number of a code trap that is written out.
code-number : (n : ℕ) → leb 20 n ≡ true → leb n 23 ≡ true → CodeTrap n
code-number n l r = record { lowest = leb-true 20 n l; highest = leb-true n 23 r }

abbrev Named : ℕ → Type 0
Named n = CodeTrap n ⊎ DataTrap n

abbrev EffectNamed : Effect → Type 0
EffectNamed (Trap t) = Named (trap_number t)
EffectNamed Finish = Unit {0}
EffectNamed (Go pops push write q) = Unit {0}

abbrev OutcomeNamed : Outcome → Type 0
OutcomeNamed Went = Unit {0}
OutcomeNamed Finished = Unit {0}
OutcomeNamed (Trapped t) = Named (trap_number t)

acts-named : {P : Program} {T : State} {next : ℕ} {i : Instruction} {s : Shape} {e : Effect} → Acts P T next i s e
    → EffectNamed e
acts-named (traps d) = inr d
acts-named (no-library l) = inl (code-number 23 refl refl)
acts-named (passes p) = tt
acts-named (resizes p f r) = tt
acts-named (stores a x y mode p) = tt
acts-named drops = tt
acts-named jumps = tt
acts-named (branches b) = tt
acts-named keeps-boolean = tt
acts-named pops-boolean = tt
acts-named skips-loop = tt
acts-named (enters-loop a x p) = tt
acts-named (leaves_loop a x p) = tt
acts-named leaves-by-sum = tt
acts-named (repeats-loop a x p) = tt
acts-named (switches x) = tt
acts-named leaves-switch = tt
acts-named (no-callee e) = inl (code-number 23 refl refl)
acts-named (calls c r) = tt
acts-named (no-external-callee e) = inl (code-number 23 refl refl)
acts-named (calls-external l c r) = tt
acts-named (enters mp l r) = tt
acts-named finishes = tt
acts-named (returns c) = tt

module _ (P : Program) (T : State) where
  abbrev Fine : After → Type 0
  Fine a = OutcomeNamed a.outcome

  apply-named : (e : Effect) → EffectNamed e → Fine (apply P T e)
  unfolding apply
  apply-named (Trap t) h = h
  apply-named Finish h = tt
  apply-named (Go pops push write q) h =
      either Fine (ltb (length T.stack) (T.registers.height - pops + pushes push)) _ _ (inr (data-number 36 refl refl))
      (either Fine (ltb q.pc (length (code_after P q.gp))) _ _ tt (inl (code-number 21 refl refl)))

  perform-named : (d : Decoded) → Fine (perform P T d)
  unfolding perform
  perform-named (Err Unserved) = inl (code-number 20 refl refl)
  perform-named (Err Past) = inl (code-number 21 refl refl)
  perform-named (Ok (i, next)) =
      either Fine (ltb T.registers.height (needed i)) _ _ (inl (code-number 22 refl refl))
      (apply-named (executed P T next i) (acts-named (acts P (finding (needed i) T) next i)))

pub step-traps : StepTraps
unfolding step_of
step-traps P T t e = subst OutcomeNamed e (perform-named P T (decode_at P.code (length P.code) T.registers.pc))

-- A run's number, if it is one.
abbrev Runs : ℕ → Type 0
Runs n = UpTo 7 n ⊎ (n ≡ 24)

run-given : (S : Members) (copy : List ℕ) (k : ℕ) (T : State) → (set_run_number S copy k T ≡ 0) ⊎ Runs (set_run_number S copy k T)
unfolding set_run_number
run-given S copy k T =
    either (λ (n : ℕ). (n ≡ 0) ⊎ Runs n) (eqb (set_number S) 0) _ (set_number S)
    (either (λ (n : ℕ). (n ≡ 0) ⊎ Runs n) (not (fits_in S copy k T)) 24 0 (inr (inr refl)) (inl refl))
    (low (set_number S) (set_given 7 (omega arith) S))
  where
    low : (n : ℕ) → Given 7 n → (n ≡ 0) ⊎ Runs n
    low n (inl e) = inl e
    low n (inr u) = inr (inl u)

-- What was not refused ended.
pub run-numbers : RunNumbers
unfolding set_run
run-numbers S copy budget k T n =
    let Ms = modules_of S in
    let number = set_run_number S copy k T in
    by-test (λ (x : Result). x.answer ≡ Err n → UpTo 7 n ⊎ (n ≡ 24)) (eqb number 0) _ _
    (λ t e.
    let ended : (run_from Ms budget 0 T).answer ≡ Ok (counted Ms budget 0 T).ending = (counted Ms budget 0 T).is in
    let z : ◌≡◌ {A = ℕ} 0 1 = cc in absurd (omega arith))
    (λ t e.
    let same : n ≡ set_run_number S copy k T = cc in
    rw same (refuses number (eqb-false number 0 t) (run-given S copy k T)))
  where
    refuses : (j : ℕ) → (j ≡ 0 → ⊥) → (j ≡ 0) ⊎ Runs j → Runs j
    refuses j h (inl e) = absurd (h e)
    refuses j h (inr u) = u
