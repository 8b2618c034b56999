-- The list is looked over by `all`.
use Rattle.std.proofs.Common.{rules, tests}
use lib.Dec.{leb}
use Rattle.std.proofs.lemmas.Iterator.{YieldsList-from_slice}
use Rattle.std.proofs.lemmas.Iterator.Search.{all_from_yields_List}
use Rattle.verifier.specs.Check.{results_sound}
use Rattle.verifier.proofs.Chains.{list_all-every}
use Rattle.verifier.proofs.results.results_sound.Goals.{then-results-entry_count, else-results-entry_count}
use Rattle.verifier.proofs.results.results_sound.Goals as goal

pub returns-then-byte_at-eq0 : goal.returns-then-byte_at-eq0
unfolding results_sound
returns-then-byte_at-eq0 c =
    let xs = c.args.results.now in
    let all = all_from_yields_List (λ x. leb x 2) _ _ c.all.result c.all.ensures.ran (YieldsList-from_slice xs (cc)) (λ x b q k. search (rules, tests)) in
    let every = list_all-every (λ x. leb x 2) xs in
    elim c.if-results-entry_count.branch [
      | then-results-entry_count w ↦ search rules
      | else-results-entry_count w ↦ search rules
    ]
