-- A run unrolled step by step: what is left of the budget, from where the steps have come, decides what the whole run answers.
use Prim.Native.Nat.{ℕ, zero, suc, ◌+◌, ◌-◌, ◌≤◌, ◌<◌}
use mathlib.Core.Path.{◌≡◌, ◌∙◌, refl, sym, ap, subst}
use mathlib.Core.List.{List}
use native.Mathlib.Omega.{arith}
use lib.ListN.{length}
use Rattle.words.proofs.Left.{one_left}
use Rattle.registers.specs.declared.Attributes.{Attributes}
use Rattle.registers.specs.Modules.{Modules, module_at, frames_start, number_at}
use Rattle.registers.specs.Program.{Program, program, running, attributes_at}
use Rattle.registers.specs.State.{State}
use Rattle.step.specs.declared.Outcome.TheVariants.{Went, Finished, Trapped}
use Rattle.step.specs.Step.{After, step_in, step_of}
use Rattle.step.specs.Ready.{Ready}
use Rattle.step.proofs.Preservation.{Holds, step-holds}
use Rattle.step.proofs.Running.{ready-bounds}
use Rattle.fast.specs.Fast.{Steps, none, more, Ahead}
use Rattle.run.specs.declared.End.TheVariants.{Finished as finish, Spent, Trapped as stop}
use Rattle.run.specs.Run.{ended, proceed, run_from}
use Rattle.numbers.specs.declared.Trap.{Trap}

-- So many steps have come from S₀, where `done` were made before, to S.
pub record Running (Ms : Modules) (budget done : ℕ) (S₀ S : State) (steps : ℕ) : Type 0 where
  pub count : steps ≤ budget
  pub same : run_from Ms (budget - done) done S₀ ≡ run_from Ms (budget - steps) steps S
  pub memory : length S.memory ≡ length S₀.memory
  pub stack : length S.stack ≡ length S₀.stack

pub running-start : (Ms : Modules) (budget done : ℕ) (S : State) → done ≤ budget → Running Ms budget done S S done
running-start Ms budget done S l = record { count = l; same = refl; memory = refl; stack = refl }

-- The program that is ready is the running one.
module _ (code : List ℕ) (A : Attributes) (Ms : Modules) where
  abbrev P : Program
  P = program code A Ms

  step_is : (S : State) → Ready P S → step_in Ms S ≡ step_of P S
  step_is S R = ap (λ X. step_of X S) (sym R.is_running)

  ready_at : (S : State) {n : ℕ} {S' : State} → Ready P S → Steps P S n S' → Ready P S'
  ready_at S R none = R
  ready_at S R (more t e r) = r

  unrolled : (S : State) (left count : ℕ) {n : ℕ} {S' : State} → Ready P S → Steps P S n S'
      → run_from Ms (n + left) count S ≡ run_from Ms left (n + count) S'
  unrolled S left count R none =
      let a : 0 + left ≡ left = omega arith in
      let b : 0 + count ≡ count = omega arith in
      rw (a, b)
  unrolled S left count R (more {n} {S'} t e r) =
      let a : suc n + left ≡ n + suc left = omega arith in
      let b : n + count + 1 ≡ suc n + count = omega arith in
      rw a (unrolled S (suc left) count R t ∙ rw (step_is S' (ready_at S R t), e, b))

  -- What was done at once is steps of the run.
  pub ahead-same : (budget steps most left : ℕ) (S S' : State) → Ready P S → steps ≤ budget → most ≤ budget - steps
      → Ahead P S most left S'
      → run_from Ms (budget - steps) steps S ≡ run_from Ms (budget - (steps + (most - left))) (steps + (most - left)) S'
  ahead-same budget steps most left S S' R l k a =
      let n = most - left in
      let x : n + (budget - (steps + n)) ≡ budget - steps = omega (arith, a.most) in
      let y : n + steps ≡ steps + n = omega arith in
      rw y at (rw x at (unrolled S (budget - (steps + n)) steps R a.steps))

  pub first-same : (budget most left : ℕ) (S S' : State) → Ready P S → most ≤ budget → Ahead P S most left S'
      → run_from Ms (budget - (most - left)) (most - left) S' ≡ run_from Ms budget 0 S
  first-same budget most left S S' R k a =
      let x : budget - 0 ≡ budget = omega arith in
      let y : 0 + (most - left) ≡ most - left = omega arith in
      sym (rw y at (rw x at (ahead-same budget 0 most left S S' R (omega arith) (rw x k) a)))

  -- Its code and its attributes are those of the module that GP points at.
  module _ (S : State) (R : Ready P S) where
    here : P ≡ running Ms A.globals
    here = R.is_running ∙ ap (λ gp. running Ms gp) (ready-bounds P S R).global

    pub code-known : code ≡ (module_at Ms (number_at Ms A.globals)).code
    code-known = ap (λ X. X.code) here

    pub attributes-known : A ≡ attributes_at Ms (number_at Ms A.globals)
    attributes-known = ap (λ X. X.attributes) here

module _ (Ms : Modules) (budget done : ℕ) (S₀ S : State) (steps : ℕ) (R : Running Ms budget done S₀ S steps) where
  pub spent : budget ≤ steps → ended Ms Spent steps S ≡ run_from Ms (budget - done) done S₀
  spent h =
      let none_left : budget - steps ≡ zero = omega arith in
      sym (R.same ∙ rw none_left)

  module _ (code : List ℕ) (A : Attributes) (ready : Ready (program code A Ms) S) (a : After) (h : steps < budget)
      (e : a ≡ step_of (program code A Ms) S) where
    turn : run_from Ms (budget - done) done S₀
        ≡ proceed Ms (run_from Ms (budget - (steps + 1)) (steps + 1)) steps a.outcome a.state
    turn = R.same ∙ rw (one_left steps budget h, step_is code A Ms S ready, ← e)

    pub finished : a.outcome ≡ Finished → ended Ms finish (steps + 1) a.state ≡ run_from Ms (budget - done) done S₀
    finished o = sym (turn ∙ rw o)

    pub trapped : (t : Trap) → a.outcome ≡ Trapped t → ended Ms (stop t) steps a.state ≡ run_from Ms (budget - done) done S₀
    trapped t o = sym (turn ∙ rw o)

    pub still-ready : Ready (running Ms a.state.registers.gp) a.state
    still-ready = let H : Holds Ms S a = rw e (step-holds (program code A Ms) S ready) in H.ready

    pub went : a.outcome ≡ Went → (part : List ℕ) (B : Attributes) (most left : ℕ) (S' : State)
        → Ready (program part B Ms) a.state → most ≤ budget - (steps + 1) → Ahead (program part B Ms) a.state most left S'
        → length S'.memory ≡ length S.memory → length S'.stack ≡ length S.stack
        → Running Ms budget done S₀ S' (budget - (budget - (steps + 1) - (most - left)))
    went o part B most left S' again j b k l =
        let f : budget - (budget - (steps + 1) - (most - left)) ≡ steps + 1 + (most - left) = omega (arith, b.most) in
        rw f (record {
          count = omega arith;
          same = turn ∙ (rw o (ahead-same part B Ms budget (steps + 1) most left a.state S' again (omega arith) j b));
          memory = k ∙ R.memory;
          stack = l ∙ R.stack;
        })

-- What the loop carries beside: GP, and the code and the attributes of its module.
pub record Turning (Ms : Modules) (budget done : ℕ) (S₀ S : State) (steps gp : ℕ) (code : List ℕ) (A : Attributes) : Type 0 where
  pub run : Running Ms budget done S₀ S steps
  pub ready : Ready (running Ms S.registers.gp) S
  pub gp-is : gp ≡ S.registers.gp
  pub code_is : code ≡ (running Ms gp).code
  pub attributes-is : A ≡ (running Ms gp).attributes

module _ (Ms : Modules) (budget done : ℕ) (S₀ S : State) (steps gp : ℕ) (code : List ℕ) (A : Attributes)
    (K : Turning Ms budget done S₀ S steps gp code A) where
  carried : running Ms S.registers.gp ≡ program code A Ms
  carried = rw (K.code_is, K.attributes-is, K.gp-is)

  pub turning-ready : Ready (program code A Ms) S
  turning-ready = subst (λ (X : Program). Ready X S) carried K.ready

  pub turning-short : length code ≤ 4096
  turning-short = rw K.code_is (K.ready.short (number_at Ms gp))

  pub turning-frames : frames_start Ms ≤ 16384
  turning-frames =
      let F = ready-bounds (running Ms S.registers.gp) S K.ready in
      omega (arith, F.attributes, F.room)

-- The code and the attributes of the module that GP points at make the program that runs.
pub taken-anew : (Ms : Modules) (S : State) (code : List ℕ) (A : Attributes) → Ready (running Ms S.registers.gp) S
    → code ≡ (running Ms S.registers.gp).code → A ≡ (running Ms S.registers.gp).attributes → Ready (program code A Ms) S
taken-anew Ms S code A R c a =
    let same : running Ms S.registers.gp ≡ program code A Ms = rw (c, a) in
    subst (λ (X : Program). Ready X S) same R

pub still-running : (Ms : Modules) (S : State) (code : List ℕ) (A : Attributes) → Ready (program code A Ms) S
    → Ready (running Ms S.registers.gp) S
still-running Ms S code A R = subst (λ (X : Program). Ready X S) R.is_running R

-- What was done at once keeps GP, so the loop carries them on.
pub turned : (Ms : Modules) (budget done : ℕ) (S₀ S S' : State) (steps : ℕ) (code : List ℕ) (A : Attributes)
    → Ready (program code A Ms) S → Ready (program code A Ms) S' → Running Ms budget done S₀ S' steps
    → code ≡ (running Ms S.registers.gp).code → A ≡ (running Ms S.registers.gp).attributes
    → Turning Ms budget done S₀ S' steps S.registers.gp code A
turned Ms budget done S₀ S S' steps code A R R' run c a =
    let P : Program = program code A Ms in
    record {
      run = run;
      ready = still-running Ms S' code A R';
      gp-is = (ready-bounds P S R).global ∙ sym (ready-bounds P S' R').global;
      code_is = c;
      attributes-is = a;
    }
