-- Every branch of the table: `all` over their numbers, and the definition over their places.
use mathlib.Core.Path.{◌∙◌}
use native.Mathlib.Omega.{arith}
use Rattle.std.proofs.Common.{rules, tests}
use Rattle.std.proofs.lemmas.Iterator.{YieldsList-from_range}
use Rattle.std.proofs.lemmas.Iterator.Search.{all_from_yields_List}
use Rattle.layout.specs.Cut.{starts_in}
use Rattle.successors.specs.Successors.{table_target}
use Rattle.faults.specs.OnePass.{marks_of}
use Rattle.faults.proofs.Heads.{list_all-series}
use Rattle.faults.proofs.Place.table_starts.Goals as goal

pub returns : goal.returns
returns c =
    let s = c.args.self in
    let n = c.table_size.result in
    let starts = starts_in (marks_of s) s.p in
    let target = table_target s.code.now s.at c.args.table in
    rw (← c.table_size.ensures)
    (all_from_yields_List (λ k. starts (target k)) _ _ _ c.all.ensures.ran (YieldsList-from_range 0 n n (cc) (omega arith)) (λ x b q k. search (rules, tests))
    ∙ list_all-series starts target 0 n)
