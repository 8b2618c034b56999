-- A refused load or run is the case of its definition that hands everything back; a run's count grows by one a step, it is spent
-- where none is left, and every end names GP's module.
use mathlib.Core.Path.{◌≡◌, refl}
use mathlib.Core.Bool.{Bool, true, false, cond}
use mathlib.Core.List.{List}
use Prim.Native.Nat.{ℕ, zero, suc, ◌+◌, ◌≤◌}
use native.Mathlib.Omega.{arith}
use lib.Dec.{eqb}
use Rattle.module_set.specs.Members.{Members}
use Rattle.registers.specs.Modules.{Modules, number_at}
use Rattle.registers.specs.State.{State}
use Rattle.load.specs.Modules.{modules_of}
use Rattle.load.proofs.Loading.{refused-copy, refused-memory}
use Rattle.step.specs.declared.Outcome.{Outcome}
use Rattle.step.specs.declared.Outcome.TheVariants.{Went, Finished, Trapped}
use Rattle.step.specs.Step.{step_in}
use Rattle.run.specs.Answer.{Answer}
use Rattle.std.specs.Prelude.{Err, Ok}
use Rattle.run.specs.declared.Ended.{Ended as Ending}
use Rattle.run.specs.declared.End.TheVariants.{Finished as finish, Spent, Trapped as stop}
use Rattle.run.specs.Run.{Result, ended_at, proceed, run_from, set_run_number, refused, set_run}
use Rattle.guarantees.specs.Guarantees.{RefusedLoad, RefusedRun, CountWithinBudget, SpendsBudget}

-- The answer of a run is an end, with at most so many steps, as many where it is spent, and with GP's module.
pub record Counted (Ms : Modules) (a : Answer) (most : ℕ) : Type 0 where
  pub ending : Ending
  pub is : a ≡ Ok ending
  pub few : ending.steps ≤ most
  pub all : ending.ending ≡ Spent → ending.steps ≡ most
  pub named : ending.member ≡ number_at Ms ending.registers.gp

module _ (Ms : Modules) where
  pub counted : (left count : ℕ) (T : State) → Counted Ms (run_from Ms left count T).answer (count + left)
  counted zero count T =
      record {
        ending = ended_at Spent count (number_at Ms T.registers.gp) T.registers;
        is = refl;
        few = omega arith;
        all = λ e. omega arith;
        named = refl;
      }
  counted (suc left) count T = by (step_in Ms T).outcome (step_in Ms T).state (counted left (count + 1) (step_in Ms T).state)
    where
      by : (o : Outcome) (T' : State) → Counted Ms (run_from Ms left (count + 1) T').answer (count + 1 + left)
          → Counted Ms (proceed Ms (run_from Ms left (count + 1)) count o T').answer (count + suc left)
      by Went T' c =
          record {
            ending = c.ending;
            is = c.is;
            few = omega (arith, c.few);
            all = λ e. omega (arith, c.all e);
            named = c.named;
          }
      by Finished T' c =
          record {
            ending = ended_at finish (count + 1) (number_at Ms T'.registers.gp) T'.registers;
            is = refl;
            few = omega arith;
            all = λ e. let z : ◌≡◌ {A = ℕ} 0 1 = cc in absurd (omega arith);
            named = refl;
          }
      by (Trapped t) T' c =
          record {
            ending = ended_at (stop t) count (number_at Ms T'.registers.gp) T'.registers;
            is = refl;
            few = omega arith;
            all = λ e. let z : ◌≡◌ {A = ℕ} 0 1 = cc in absurd (omega arith);
            named = refl;
          }

pub refused_load : RefusedLoad
refused_load S parameters copy m s n e = (refused-copy S parameters copy m s n e, refused-memory S parameters copy m s n e)

-- What is taken up ended, and what is not is refused.
module _ (Ms : Modules) (R : Result) (most k : ℕ) (T : State) (c : Counted Ms R.answer most) where
  pick_run : (t : Bool) (n : ℕ) → (cond t R (refused k T)).answer ≡ Err n → (cond t R (refused k T)).state ≡ T
  pick_run true n e = let i : R.answer ≡ Ok c.ending = c.is in cc
  pick_run false n e = refl

  pick_end : (t : Bool) (e : Ending) → (cond t R (refused k T)).answer ≡ Ok e → c.ending ≡ e
  pick_end true e h = let i : R.answer ≡ Ok c.ending = c.is in cc
  pick_end false e h = let z : ◌≡◌ {A = ℕ} 0 1 = cc in absurd (omega arith)

module _ (S : Members) (copy : List ℕ) (budget k : ℕ) (T : State) where
  run : Counted (modules_of S) (run_from (modules_of S) budget 0 T).answer (0 + budget)
  run = counted (modules_of S) budget 0 T

  run_end : (e : Ending) → (set_run S copy budget k T).answer ≡ Ok e → run.ending ≡ e
  unfolding set_run
  run_end e h =
      pick_end (modules_of S) (run_from (modules_of S) budget 0 T) (0 + budget) (set_run_number S copy k T) T run
      (eqb (set_run_number S copy k T) 0) e h

pub refused_run : RefusedRun
unfolding set_run
refused_run S copy budget k T n e =
    pick_run (modules_of S) (run_from (modules_of S) budget 0 T) (0 + budget) (set_run_number S copy k T) T (run S copy budget k T)
    (eqb (set_run_number S copy k T) 0) n e

pub count-within-budget : CountWithinBudget
count-within-budget S copy budget k T e h =
    let few : e.steps ≤ 0 + budget = rw (run_end S copy budget k T e h) at (run S copy budget k T).few in
    let most : e.steps ≤ budget = omega arith in
    most

pub spends-budget : SpendsBudget
spends-budget S copy budget k T e h spent =
    let all : e.ending ≡ Spent → e.steps ≡ 0 + budget = rw (run_end S copy budget k T e h) at (run S copy budget k T).all in
    let just : e.steps ≡ budget = omega (arith, all spent) in
    just

pub end-named : (S : Members) (copy : List ℕ) (budget k : ℕ) (T : State) (e : Ending) → (set_run S copy budget k T).answer ≡ Ok e
    → e.member ≡ number_at (modules_of S) e.registers.gp
end-named S copy budget k T e h = rw (run_end S copy budget k T e h) at (run S copy budget k T).named
