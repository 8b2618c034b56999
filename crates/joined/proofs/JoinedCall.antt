-- The joined call ends properly, by demand 3 for the set of the one record that the check accepted; refused, it leaves memory and
-- stack, for after an accepted check only the load refuses.
use mathlib.Core.List.{List, []}
use mathlib.Core.Logic.{◌⊎◌, inl, inr}
use mathlib.Core.Path.{◌≡◌, refl, sym, ap, subst, ◌∙◌}
use Prim.Native.Nat.{ℕ, zero, suc}
use native.Mathlib.Omega.{arith}
use lib.Dec.{eqb-suc-zero}
use Rattle.words.specs.Bytes.{Bytes}
use Rattle.header.specs.Header.{code_of}
use Rattle.module_set.specs.Members.{Members, single}
use Rattle.registers.specs.declared.Registers.{Registers}
use Rattle.registers.specs.State.{state}
use Rattle.workspace.specs.Checking.{Checking, checking}
use Rattle.verifier.specs.Check.{check_of}
use Rattle.verifier.specs.Exact.{AllBytes}
use Rattle.verifier.proofs.Exactly.{accepts-exactly}
use Rattle.load.specs.Loaded.{Loaded}
use Rattle.std.specs.Prelude.{Err, Ok}
use Rattle.load.specs.Load.{Loading, set_load, load_of}
use Rattle.load.proofs.Loading.{refused-memory}
use Rattle.run.specs.Answer.{Answer}
use Rattle.std.specs.Prelude.{Err, Ok}
use Rattle.run.specs.declared.Ended.{Ended as Ending}
use Rattle.run.specs.Run.{Result, ran, set_run, run_of}
use Rattle.safety.specs.Demand3.{Proper, AllAccepted}
use Rattle.safety.proofs.Ends.{loaded-ends}
use Rattle.guarantees.specs.Answers.{UpTo}
use Rattle.guarantees.proofs.Numbers.{check-numbers, load-numbers}
use Rattle.joined.specs.Joined.{Joined, joined_of, ProperAnswer, RefusedJoined}
use Rattle.joined.proofs.Alone.{load-alone, run_alone, copy-left}

wider : (n : ℕ) → UpTo 8 n → UpTo 15 n
wider n (inl (some, most)) = inl (some, omega arith)
wider n (inr other) = inr other

pub not-loaded : (r ps m s : List ℕ) {l : Loaded} → l ≡ (load_of r ps m s).answer → {n : ℕ} → l ≡ Err n
    → ProperAnswer (Err n)
not-loaded r ps m s e {n} f = wider n (load-numbers (single r []) ps (code_of r) m s n (sym e ∙ f))

pub not-accepted : (r results w : List ℕ) {n : ℕ} {w' : List ℕ} → checking n w' ≡ check_of r results w → (n ≡ 0 → ⊥)
    → ProperAnswer (Err n)
not-accepted r results w {n} e f =
    let same : (check_of r results w).number ≡ n = ap (λ (k : Checking). k.number) (sym e) in
    by (subst (λ (k : ℕ). (k ≡ 0) ⊎ UpTo 15 k) same (check-numbers (single r results) 0 w))
  where
    by : (n ≡ 0) ⊎ UpTo 15 n → UpTo 15 n
    by (inl none) = absurd (f none)
    by (inr some) = some

module _ (r results w ps : List ℕ) (budget : ℕ) (m s : List ℕ) (b : Bytes r) where
  abbrev S : Members
  S = single r results

  bytes : AllBytes S
  bytes zero = b
  bytes (suc k) = λ i. omega arith

  -- A run after an accepted check and a load.
  module _ (q : Registers) (c : (check_of r results w).number ≡ 0) (l : (load_of r ps m s).answer ≡ Ok q) where
    accepted : AllAccepted S (λ k. w)
    accepted zero h = c
    accepted (suc k) h = absurd (omega arith)

    ready : (set_load S ps (code_of r) m s).answer ≡ Ok q
    ready = ap (λ (x : Loading). x.answer) (load-alone r results ps (code_of r) m s) ∙ l

    same-run : set_run S (set_load S ps (code_of r) m s).copy budget 0 (state q (set_load S ps (code_of r) m s).memory s)
        ≡ run_of r budget (state q (load_of r ps m s).memory s)
    same-run =
        let L = load_of r ps m s in
        rw (load-alone r results ps (code_of r) m s, copy-left r ps m s q l)
        (run_alone r results (code_of r) budget 0 (state q L.memory s))

    pub ended-well : (e : Ending) × ((run_of r budget (state q (load_of r ps m s).memory s)).answer ≡ Ok e) × Proper e.ending
    ended-well =
        let E = loaded-ends S (λ k. w) ps (code_of r) m s q bytes accepted ready ((accepts-exactly S 0 w bytes).0 c).1 budget in
        (_, ap (λ (x : Result). x.answer) (sym same-run ∙ E.ends), E.proper)

  -- From what the three calls promise.
  pub answered-well : {n : ℕ} {w' : List ℕ} → checking n w' ≡ check_of r results w → n ≡ 0 → {l : Loaded}
      → l ≡ (load_of r ps m s).answer → {m' : List ℕ} → m' ≡ (load_of r ps m s).memory → {q : Registers} → l ≡ Ok q → {a : Answer}
      {m'' s'' : List ℕ} → ran q a m'' s'' ≡ run_of r budget (state q m' s) → ProperAnswer a
  answered-well c z {l} f {m'} g {q} h {a} e =
      let number : (check_of r results w).number ≡ 0 = ap (λ (k : Checking). k.number) (sym c) ∙ z in
      let W = ended-well q number (sym f ∙ h) in
      let same : a ≡ Ok W.0 =
      ap (λ (k : Result). k.answer) e ∙ (ap (λ (k : List ℕ). (run_of r budget (state q k s)).answer) g ∙ W.1) in
      subst ProperAnswer (sym same) W.2

ended-not : {a : Answer} {e : Ending} {n : ℕ} → a ≡ Ok e → a ≡ Err n → ⊥
ended-not g h = let z : ◌≡◌ {A = ℕ} 0 1 = cc in omega arith

pub refused-joined : RefusedJoined
unfolding joined_of
refused-joined r results w ps budget m s n b e = checks (check_of r results w).number refl
  where
    j : Joined
    j = joined_of r results w ps budget m s

    l : Loading
    l = load_of r ps m s

    loaded : (check_of r results w).number ≡ 0 → (x : Loaded) → l.answer ≡ x → (j.memory ≡ m) × (j.stack ≡ s)
    loaded c (Err k) g = rw (c, g) (refused-memory (single r []) ps (code_of r) m s k g, refl)
    loaded c (Ok q) g =
        let h : (run_of r budget (state q l.memory s)).answer ≡ Err n = rw (c, g) at e in
        absurd (ended-not (ended-well r results w ps budget m s b q c g).1 h)

    checks : (k : ℕ) → (check_of r results w).number ≡ k → (j.memory ≡ m) × (j.stack ≡ s)
    checks zero c = loaded c l.answer refl
    checks (suc k) c = rw (c, eqb-suc-zero k) (refl, refl)
