-- Load and run for the bench by cases: a length that is not taken, and what load and run answer, the set's number too. One word
-- written behind those that are laid is one more that is laid.
use mathlib.Core.Bool.{Bool, true, false, cond, ◌&&◌}
use mathlib.Core.List.{List, [], ◌∷◌, ◌++◌}
use mathlib.Core.Path.{◌≡◌, ◌∙◌, refl, sym, ap}
use Prim.Native.Nat.{ℕ, ◌<◌}
use native.Mathlib.Omega.{arith}
use lib.Dec.{eqb}
use lib.ListN.{length, set}
use borrow.Author.Tests.{eq-eqb, ne_eqb, eqb-false}
use Rattle.words.specs.Refusal.{◌when◌}
use Rattle.module_set.specs.Members.{Members}
use Rattle.relocation.specs.Relocation.{set_number, after_set}
use Rattle.registers.specs.declared.Registers.{Registers}
use Rattle.registers.specs.State.{state, registers_in}
use Rattle.load.specs.Loaded.{Loaded}
use Rattle.std.specs.Prelude.{Err}
use Rattle.load.specs.Load.{Loading, loading, set_load}
use Rattle.load.proofs.Loading.{load-refused}
use Rattle.run.specs.Answer.{Answer}
use Rattle.run.specs.Run.{Result, ran, refused, set_run}
use Rattle.run.proofs.Taking.{run-refused}
use Rattle.icode.specs.Interface.{laid}
use Rattle.icode.specs.Bench.{member_in, BenchLoaded, loaded_as, load_reply, bench_load, ran_as, run_reply, bench_run}

pub laid_more : (values out : List ℕ) (x : ℕ) → length values < length out
    → set (laid values out) (length values) x ≡ laid (values ++ (x ∷ [])) out
laid_more [] [] x h = absurd (omega arith)
laid_more [] (y ∷ out) x h = refl
laid_more (v ∷ values) [] x h = absurd (omega arith)
laid_more (v ∷ values) (y ∷ out) x h = ap (λ (l : List ℕ). v ∷ l) (laid_more values out x (omega arith))

module _ (words : ℕ) (S : Members) (ps copy m s w : List ℕ) where
  pub load-misfit : (n : ℕ) → n ≡ after_set S (8 when true ∷ []) → (length w ≡ words → ⊥)
      → loaded_as n copy m w ≡ bench_load words S ps copy m s w
  unfolding bench_load
  load-misfit n e other = rw (e, ne_eqb (length w) words other) (by (eqb (set_number S) 0))
    where
      by : (t : Bool) → loaded_as (cond t 8 (set_number S)) copy m w
          ≡ cond t (loaded_as 8 copy m w) (loaded_as (set_number S) copy m w)
      by true = refl
      by false = refl

  -- Load answers the set's number too.
  reply-is : length w ≡ words → (L : Loading) → L ≡ set_load S ps copy m s
      → load_reply words L.answer L.copy L.memory w ≡ bench_load words S ps copy m s w
  unfolding bench_load
  reply-is long L e = by (eqb (set_number S) 0) refl
    where
      by : (t : Bool) → eqb (set_number S) 0 ≡ t
          → load_reply words L.answer L.copy L.memory w ≡ bench_load words S ps copy m s w
      by true t = rw (t, eq-eqb (length w) words long, ← e)
      by false t =
          let none : L ≡ loading (Err (set_number S)) copy m =
          e ∙ sym (load-refused S ps copy m s (set_number S) refl (eqb-false (set_number S) 0 t)) in
          rw (t, none)

  pub load-replied : length w ≡ words → (a : Loaded) (copy' m' : List ℕ)
      → loading a copy' m' ≡ set_load S ps copy m s → load_reply words a copy' m' w ≡ bench_load words S ps copy m s w
  load-replied long a copy' m' e = reply-is long (loading a copy' m') e

  -- Without the copy.
  pub load-parts : (n : ℕ) (copy' m' w' : List ℕ) → loaded_as n copy' m' w' ≡ bench_load words S ps copy m s w
      → let L = bench_load words S ps copy m s w in (n ≡ L.answer) × (m' ≡ L.memory) × (w' ≡ L.state)
  load-parts n copy' m' w' e =
      (ap (λ (l : BenchLoaded). l.answer) e, ap (λ (l : BenchLoaded). l.memory) e, ap (λ (l : BenchLoaded). l.state) e)

  pub load_told : length w ≡ words → (a : Loaded) (m' : List ℕ) → a ≡ (set_load S ps copy m s).answer
      → m' ≡ (set_load S ps copy m s).memory
      → load_reply words a (set_load S ps copy m s).copy m' w ≡ bench_load words S ps copy m s w
  load_told long a m' e f = load-replied long a (set_load S ps copy m s).copy m' (rw (e, f))

module _ (words places : ℕ) (taken : Bool) (S : Members) (copy : List ℕ) (budget : ℕ) (m s w o : List ℕ) where
  -- Either length is not taken.
  run_short : (n : ℕ) → n ≡ after_set S (24 when true ∷ []) → (eqb (length w) words && taken) ≡ false
      → ran_as n m s w o ≡ bench_run words places taken S copy budget m s w o
  unfolding bench_run
  run_short n e none = rw (e, none) (by (eqb (set_number S) 0))
    where
      by : (t : Bool) → ran_as (cond t 24 (set_number S)) m s w o ≡ cond t (ran_as 24 m s w o) (ran_as (set_number S) m s w o)
      by true = refl
      by false = refl

  pub run-misfit : (n : ℕ) → n ≡ after_set S (24 when true ∷ []) → (length w ≡ words → ⊥)
      → ran_as n m s w o ≡ bench_run words places taken S copy budget m s w o
  run-misfit n e other = run_short n e (rw (ne_eqb (length w) words other))

  pub run-untaken : (n : ℕ) → n ≡ after_set S (24 when true ∷ []) → length w ≡ words → taken ≡ false
      → ran_as n m s w o ≡ bench_run words places taken S copy budget m s w o
  run-untaken n e long none = run_short n e (rw (eq-eqb (length w) words long, none))

  -- Run answers the set's number too.
  answer-is : length w ≡ words → taken ≡ true → (R : Result) → R ≡ set_run S copy budget (member_in w) (state (registers_in w) m s)
      → run_reply words places R.answer R.state.memory R.state.stack w o
      ≡ bench_run words places taken S copy budget m s w o
  unfolding bench_run
  answer-is long fits R e = by (eqb (set_number S) 0) refl
    where
      by : (t : Bool) → eqb (set_number S) 0 ≡ t
          → run_reply words places R.answer R.state.memory R.state.stack w o
          ≡ bench_run words places taken S copy budget m s w o
      by true t = rw (t, eq-eqb (length w) words long, fits, ← e)
      by false t =
          let T = state (registers_in w) m s in
          let none : R ≡ refused (set_number S) T =
          e ∙ sym (run-refused S copy (member_in w) T budget (set_number S) refl (eqb-false (set_number S) 0 t)) in
          rw (t, none)

  pub run-replied : length w ≡ words → taken ≡ true → (q : Registers) → q ≡ registers_in w → (k : ℕ) → k ≡ member_in w
      → (a : Answer) (m' s' : List ℕ) → ran q a m' s' ≡ set_run S copy budget k (state q m s)
      → run_reply words places a m' s' w o ≡ bench_run words places taken S copy budget m s w o
  run-replied long fits q e k f a m' s' g = answer-is long fits (ran q a m' s') (g ∙ rw (e, f))
