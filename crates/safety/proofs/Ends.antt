-- How a run of accepted modules ends: in a configuration that it visits, finished, spent or in a data trap, within its budget. A
-- step that does not go on leaves everything as it was, and where it traps it is on data.
use mathlib.Core.List.{List}
use mathlib.Core.Path.{◌≡◌, refl, subst}
use Prim.Native.Nat.{ℕ, zero, suc, ◌+◌, ◌<◌}
use native.Mathlib.Omega.{arith}
use lib.ListN.{length}
use Rattle.entries.specs.Entries.{entry_count}
use Rattle.shape.specs.Shape.{shape_of}
use Rattle.shape.specs.Linkage.{linkage_of}
use Rattle.module_set.specs.Members.{Members}
use Rattle.registers.specs.declared.Registers.{Registers}
use Rattle.registers.specs.Modules.{Modules}
use Rattle.registers.specs.Program.{running}
use Rattle.operate.specs.Traps.{DataTrap}
use Rattle.stackmap.specs.Ways.{parameters_in}
use Rattle.verifier.specs.Exact.{Ruled, subject, AllBytes}
use Rattle.run.specs.declared.End.TheVariants.{Finished as finish, Spent, Trapped as stop}
use Rattle.step.specs.declared.Outcome.{Outcome}
use Rattle.step.specs.declared.Outcome.TheVariants.{Went, Finished, Trapped}
use Rattle.step.proofs.Outcomes.{step-stops}
use Rattle.std.specs.Prelude.{Ok}
use Rattle.load.specs.Modules.{modules_of}
use Rattle.load.specs.Load.{set_load}
use Rattle.run.specs.Run.{Result, ended, proceed, run_from, set_run}
use Rattle.invariant.specs.Active.{Subjects, Configuration, Visits, at_first, one_more, step_on, advance}
use Rattle.invariant.proofs.Invariant.{Inv, Steps}
use Rattle.invariant.proofs.Places.{Together}
use Rattle.invariant.proofs.Advance.{U, E, at_place, steps}
use Rattle.safety.specs.Demand3.{loaded_configuration, Ends, AllAccepted, Claim}
use Rattle.safety.proofs.Copies.{copies}
use Rattle.safety.proofs.LoadedState.{L, run-taken}
use Rattle.safety.proofs.Safety.{keeps, S0, as-copies, at_load, same-parameters, run-safe}
use Rattle.numbers.specs.declared.Trap.{Trap}
use Rattle.numbers.specs.TrapNumber.{trap_number}

-- Us are the records, and Vs the copies, which run.
module _ (Ms : Modules) (Us Vs : Subjects)
    (alike : (k p : ℕ) → k < length Ms → p < entry_count (Vs k).code → parameters_in (Vs k).code p ≡ parameters_in (Us k).code p)
    (G : Together Ms Vs) (first : Configuration) (I : Inv Ms Vs first) (budget : ℕ) where
  abbrev EndsSo : Result → Type 0
  EndsSo R = Ends Ms Us first budget R

  -- Goes by the three ends, each a law of its own, for each has its count of steps.
  spent-at : {n : ℕ} {c : Configuration} → Visits Ms Us first n c → n ≡ budget → EndsSo (ended Ms Spent n c.state)
  spent-at {n = n} {c = c} v l = record { steps = n; last = c; visited = v; ending = Spent; proper = tt; within = l; ends = refl }

  module _ {n : ℕ} {c : Configuration} (v : Visits Ms Us first n c) (l : n < budget) where
    finished-at : (step_on Ms c).outcome ≡ Finished → EndsSo (ended Ms finish (n + 1) (step_on Ms c).state)
    finished-at e =
        let T = step-stops (running Ms c.state.registers.gp) c.state (λ w. let z : ◌≡◌ {A = ℕ} 0 1 = cc in omega arith) in
        record { steps = n; last = c; visited = v; ending = finish; proper = tt; within = l; ends = rw T }

    trapped-at : (t : Trap) → (step_on Ms c).outcome ≡ Trapped t → DataTrap (trap_number t)
        → EndsSo (ended Ms (stop t) n (step_on Ms c).state)
    trapped-at t e d =
        let T = step-stops (running Ms c.state.registers.gp) c.state (λ w. let z : ◌≡◌ {A = ℕ} 0 1 = cc in omega arith) in
        record { steps = n; last = c; visited = v; ending = stop t; proper = d; within = l; ends = rw T }

    ended_at : (left : ℕ) → Inv Ms Vs c → (o : Outcome) → (step_on Ms c).outcome ≡ o
        → ((step_on Ms c).outcome ≡ Went → EndsSo (run_from Ms left (suc n) (advance Ms Us c).state))
        → EndsSo (proceed Ms (run_from Ms left (n + 1)) n o (step_on Ms c).state)
    ended_at left J Went e later = let z : n + 1 ≡ suc n = omega arith in rw z (later e)
    ended_at left J Finished e later = finished-at e
    ended_at left J (Trapped t) e later =
        let now = at_place Ms Vs G c J in
        trapped-at t e
        (subst (λ (x : Outcome). Steps (U Ms Vs G c J) (E Ms Vs G c J) c now.out (linkage_of (shape_of now.instruction)) x) e
        (steps Ms Vs G c J))

  pub run_ends : (left : ℕ) {n : ℕ} {c : Configuration} → Visits Ms Us first n c → n + left ≡ budget
      → EndsSo (run_from Ms left n c.state)
  run_ends zero v l = spent-at v (omega arith)
  run_ends (suc left) {c = c} v l =
      ended_at v (omega arith) left (keeps Ms Us Vs alike G first I v).inv (step_on Ms c).outcome refl
      (λ w. run_ends left (one_more v w) (omega arith))

module _ (S : Members) (spaces : ℕ → List ℕ) (parameters copy m s : List ℕ) (q : Registers) (bytes : AllBytes S)
    (accepted : AllAccepted S spaces) (ready : (set_load S parameters copy m s).answer ≡ Ok q) (R : Ruled S) where
  -- Stands apart from `claim`, for a joined call needs no more to know that its run is not refused.
  pub loaded-ends : (budget : ℕ)
      → Ends (modules_of S) (subject S R) (loaded_configuration (S0 S spaces parameters copy m s q bytes accepted ready R)) budget
      (set_run S (L S parameters copy m s q ready).copy budget 0 (S0 S spaces parameters copy m s q bytes accepted ready R))
  unfolding set_run
  loaded-ends budget =
      rw (run-taken S parameters copy m s q ready)
      (run_ends (modules_of S) (subject S R) (copies S R) (same-parameters S spaces parameters copy m s q bytes accepted ready R)
      (as-copies S spaces parameters copy m s q bytes accepted ready R)
      (loaded_configuration (S0 S spaces parameters copy m s q bytes accepted ready R))
      (at_load S spaces parameters copy m s q bytes accepted ready R) budget budget at_first (omega arith))

pub claim : Claim
claim S spaces parameters copy m s q bytes accepted ready R =
    record {
      runs = loaded-ends S spaces parameters copy m s q bytes accepted ready R;
      safe = run-safe S spaces parameters copy m s q bytes accepted ready R;
    }
