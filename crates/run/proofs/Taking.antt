-- Which runs are taken: a state that fits module k is one where GP's module is ready, since GP is that module's first global and
-- first globals and module numbers tell each other. A run without a number is its steps, one with a number changes nothing.
use mathlib.Core.Bool.{Bool, true, false, cond, not, ◌&&◌, and-eq-true_iff}
use mathlib.Core.List.{List, [], ◌∷◌}
use mathlib.Core.Path.{◌≡◌, ◌∙◌, refl, sym, ap}
use Prim.Native.Nat.{ℕ, zero, suc, ◌+◌, ◌*◌, ◌<◌, ◌≤◌}
use native.Mathlib.Omega.{arith}
use lib.Dec.{eqb, ltb}
use lib.ListN.{length}
use lib.Seq.{take-length}
use borrow.Author.Tests.{eqb-true, ltb-true, le-ltb, lt-ltb, eq-eqb, ne_eqb, not-false}
use Rattle.words.specs.Refusal.{◌when◌}
use Rattle.words.proofs.Tests.{by-test}
use Rattle.header.specs.Header.{header_of, code_of}
use Rattle.module_set.specs.Members.{Members, member_at, single}
use Rattle.relocation.specs.Relocation.{copy_of, begins, set_number}
use Rattle.relocation.proofs.Copying.{takes-begins}
use Rattle.relocation.proofs.Sound.{set_sound, set-cleared}
use Rattle.relocation.proofs.Alone.{copy-alone}
use Rattle.registers.specs.declared.Registers.{Registers}
use Rattle.registers.specs.Modules.{Modules, globals_start, data_end, frames_start, number_at}
use Rattle.registers.specs.Program.{program_at, running}
use Rattle.registers.specs.State.{State}
use Rattle.registers.proofs.Bases.{number-of-base, base_there, base-below}
use Rattle.state.specs.Fits.{fits}
use Rattle.state.proofs.Fitting.{fit_parts}
use Rattle.load.specs.Modules.{modules_from, modules_of}
use Rattle.load.proofs.Modules.{modules-length, member-sizes, codes-short, set-some}
use Rattle.step.specs.declared.Outcome.{Outcome}
use Rattle.step.specs.declared.Outcome.TheVariants.{Went, Finished, Trapped}
use Rattle.step.specs.Step.{step_in}
use Rattle.step.specs.Ready.{Short, Ready}
use Rattle.run.specs.Answer.{Answer}
use Rattle.run.specs.Run.{answer_number, Result, ran, proceed, run_from, fits_in, set_run_number, refused, set_run}

-- A state that fits module k, among modules whose codes are short.
module _ (Ms : Modules) (k : ℕ) (T : State) (h : k < length Ms) (f : fits (program_at Ms k) T ≡ true) where
  pub gp-of-module : T.registers.gp ≡ globals_start Ms k
  gp-of-module = (fit_parts (program_at Ms k) T f).own.global

  pub number-of-gp : number_at Ms T.registers.gp ≡ k
  number-of-gp = rw gp-of-module (number-of-base Ms k h)

  pub runs-module : running Ms T.registers.gp ≡ program_at Ms k
  runs-module = ap (program_at Ms) number-of-gp

  pub ready-taken : Short Ms → Ready (running Ms T.registers.gp) T
  ready-taken short =
      record {
        base = rw gp-of-module (base_there Ms k h);
        is_running = refl;
        short = short;
        fit = rw number-of-gp f;
      }

-- A run ends with the number 0.
module _ (Ms : Modules) where
  ends-after : (go : State → Result) → ((S : State) → answer_number (go S).answer ≡ 0) → (count : ℕ) (o : Outcome) (S : State)
      → answer_number (proceed Ms go count o S).answer ≡ 0
  ends-after go g count Went S = g S
  ends-after go g count Finished S = refl
  ends-after go g count (Trapped t) S = refl

  pub run_ends : (left count : ℕ) (S : State) → answer_number (run_from Ms left count S).answer ≡ 0
  run_ends zero count S = refl
  run_ends (suc left) count S =
      let a = step_in Ms S in
      ends-after (run_from Ms left (count + 1)) (run_ends left (count + 1)) count a.outcome a.state

-- What no number says of a run.
pub record Taken (S : Members) (copy : List ℕ) (k : ℕ) (T : State) : Type 0 where
  pub sound : set_number S ≡ 0
  pub copied : begins (copy_of S) copy ≡ true
  pub there : k < length (modules_of S)
  pub fit : fits (program_at (modules_of S) k) T ≡ true

module _ (S : Members) (copy : List ℕ) (k : ℕ) (T : State) where
  number-taken : (t : Bool) → set_number S ≡ 0 → fits_in S copy k T ≡ t → set_run_number S copy k T ≡ cond t 0 24
  unfolding set_run_number
  number-taken true none e = rw (eq-eqb (set_number S) 0 none, e)
  number-taken false none e = rw (eq-eqb (set_number S) 0 none, e)

  pub taken-parts : set_run_number S copy k T ≡ 0 → Taken S copy k T
  unfolding set_run_number
  taken-parts e =
      let Ms = modules_of S in
      let c = set-cleared S (24 when not (fits_in S copy k T) ∷ []) refl e in
      let own = ltb k (length Ms) && fits (program_at Ms k) T in
      let a = (and-eq-true_iff (begins (copy_of S) copy) own).0 (not-false (fits_in S copy k T) c.1.0) in
      let b = (and-eq-true_iff (ltb k (length Ms)) (fits (program_at Ms k) T)).0 a.1 in
      record { sound = c.0; copied = a.0; there = ltb-true k (length Ms) b.0; fit = b.1 }

  pub taken-whole : Taken S copy k T → set_run_number S copy k T ≡ 0
  taken-whole t = number-taken true t.sound (rw (t.copied, lt-ltb k (length (modules_of S)) t.there) t.fit)

  -- GP's module is ready.
  pub taken-ready : set_run_number S copy k T ≡ 0 → Ready (running (modules_of S) T.registers.gp) T
  taken-ready e =
      let t = taken-parts e in
      ready-taken (modules_of S) k T t.there t.fit (codes-short S t.sound)

  module _ (budget : ℕ) where
    pub runs : set_run_number S copy k T ≡ 0 → run_from (modules_of S) budget 0 T ≡ set_run S copy budget k T
    unfolding set_run
    runs e = rw (eq-eqb (set_run_number S copy k T) 0 e)

    pub refuses : (n : ℕ) → set_run_number S copy k T ≡ n → (n ≡ 0 → ⊥) → refused n T ≡ set_run S copy budget k T
    unfolding set_run
    refuses n e some = rw (e, ne_eqb n 0 some)

    -- What is answered has the number of the tests.
    pub with_number : (q : Registers) (a : Answer) (m s : List ℕ) → ran q a m s ≡ set_run S copy budget k T →
        (ran q a m s ≡ set_run S copy budget k T) × (answer_number a ≡ set_run_number S copy k T)
    unfolding set_run
    with_number q a m s e = (
      e,
      ap (λ (r : Result). answer_number r.answer) e
          ∙ by-test (λ (r : Result). answer_number r.answer ≡ set_run_number S copy k T) (eqb (set_run_number S copy k T) 0) _ _
          (λ t. run_ends (modules_of S) budget 0 T ∙ sym (eqb-true (set_run_number S copy k T) 0 t)) (λ t. refl),
    )

    -- The set's number; 24 by the copy, by the module, and by the state.
    pub run-refused : (n : ℕ) → n ≡ set_number S → (n ≡ 0 → ⊥) → refused n T ≡ set_run S copy budget k T
    unfolding set_run_number
    run-refused n e some = refuses n (rw (← e, ne_eqb n 0 some)) some

    run-unfit : set_number S ≡ 0 → fits_in S copy k T ≡ false → refused 24 T ≡ set_run S copy budget k T
    run-unfit none e = refuses 24 (number-taken false none e) (λ z. omega arith)

    pub run-uncopied : set_number S ≡ 0 → begins (copy_of S) copy ≡ false → refused 24 T ≡ set_run S copy budget k T
    run-uncopied none e = run-unfit none (rw e)

    module _ (none : set_number S ≡ 0) (copied : begins (copy_of S) copy ≡ true) where
      pub run-outside : length (modules_of S) ≤ k → refused 24 T ≡ set_run S copy budget k T
      run-outside h = run-unfit none (rw (copied, le-ltb k (length (modules_of S)) h))

      pub run-decided : k < length (modules_of S) →
          cond (fits (program_at (modules_of S) k) T) (run_from (modules_of S) budget 0 T) (refused 24 T) ≡ set_run S copy budget k T
      run-decided h =
          let f = fits (program_at (modules_of S) k) T in
          let same : fits_in S copy k T ≡ f = rw (copied, lt-ltb k (length (modules_of S)) h) in
          by-test (λ (r : Result). r ≡ set_run S copy budget k T) f _ _
          (λ t. runs (number-taken true none (same ∙ t))) (λ t. run-unfit none (same ∙ t))

-- And back: where GP's module is ready and the copy is the set's, its run is taken.
pub ready-back : (S : Members) (copy : List ℕ) (T : State) → set_number S ≡ 0 → begins (copy_of S) copy ≡ true
    → Ready (running (modules_of S) T.registers.gp) T → set_run_number S copy (number_at (modules_of S) T.registers.gp) T ≡ 0
ready-back S copy T none copied R =
    taken-whole S copy (number_at (modules_of S) T.registers.gp) T
    (record { sound = none; copied = copied; there = base-below (modules_of S) T.registers.gp R.base; fit = R.fit })

-- The data frames of a set that no number refuses are short.
frames-most : (S U : Members) (start : ℕ)
    → ((j : ℕ) → j < length U
    → ((header_of (member_at U j).bytes).globals ≤ 1024) × ((header_of (member_at U j).bytes).constants ≤ 1024))
    → data_end start (modules_from S U) ≤ start + 2051 * length U
frames-most S [] start h = omega arith
frames-most S (M ∷ U) start h =
    let own = h 0 (omega arith) in
    let next = start + (3 + (header_of M.bytes).globals + (header_of M.bytes).constants) in
    omega (arith, own.0, own.1, frames-most S U next (λ j l. h (suc j) (omega arith)))

module _ (S : Members) (none : set_number S ≡ 0) where
  sizes : (j : ℕ) → j < length S
      → ((header_of (member_at S j).bytes).globals ≤ 1024) × ((header_of (member_at S j).bytes).constants ≤ 1024)
  sizes j l = let s = member-sizes S none j l in (s.globals, s.constants)

  pub frames_small : frames_start (modules_of S) ≤ 65536
  unfolding modules_of
  frames_small = omega (arith, frames-most S S 0 sizes, (set_sound S none).few)

  pub rows_few : 5 * length S ≤ 80
  rows_few = omega (arith, (set_sound S none).few)

  pub main-there : 0 < length (modules_of S)
  main-there = omega (arith, modules-length S, set-some S none)

-- The code of a record by itself is its copy.
pub alone-copied : (r : List ℕ) → set_number (single r []) ≡ 0 → begins (copy_of (single r [])) (code_of r) ≡ true
alone-copied r e = rw (copy-alone r [] e) (takes-begins (code_of r) (code_of r) (take-length (code_of r)))
