-- `demands::check_load_run` meets its contract: the call is safety's, and the demands are collected.
use mathlib.Core.List.{List}
use mathlib.Core.Path.{◌≡◌}
use Prim.Native.Nat.{ℕ}
use Rattle.numbers.specs.Number.{numbered}
use Rattle.joined.specs.Joined.{Joined, joined, joined_of}
use Rattle.demands.proofs.Collected.{demands}
use Rattle.demands.proofs.check_load_run.Goals.{After-check_load_run}
use Rattle.demands.proofs.check_load_run.Goals as goal

abbrev Left : (c : After-check_load_run) → Joined
Left c =
    let last = c.check_load_run.new in
    joined (numbered c.check_load_run.result) last.workspace last.memory last.stack

-- The results are handed on, whatever budget is; and the budget, whatever results are.
results-told : (c : After-check_load_run) →
    let a = c.args in
    (budget : ℕ) × (Left c
    ≡ joined_of a.r.now a.results.now a.workspace.now a.parameters.now budget a.memory.now a.stack.now)
results-told c = (_, c.check_load_run.ensures.0)

budget-told : (c : After-check_load_run) →
    let a = c.args in
    (results : List ℕ) × (Left c
    ≡ joined_of a.r.now results a.workspace.now a.parameters.now a.budget a.memory.now a.stack.now)
budget-told c = (_, c.check_load_run.ensures.0)

pub returns : goal.returns
returns c =
    let call = c.check_load_run in
    (call.ensures.0, demands)
