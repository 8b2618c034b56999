-- `crate::access::negated` meets its contract: what adds up with the word to 0 round 2^32 is its negation.
use Rattle.registers.proofs.Signs.{negation}
use Rattle.registers.proofs.access.negated.Goals as goal

pub returns : goal.returns
returns c = negation _ _ c.ranges.x.fits c.wrapping_neg.type_inv c.wrapping_neg.ensures
