-- `operand::extend_halfword` meets its contract: a signed halfword and the signed word that holds it are one number.
use Rattle.std.proofs.Common.{rules}
use Rattle.operand.specs.Operand.{extended}
use Rattle.operand.proofs.extend_halfword.Goals as goal

pub returns : goal.returns
unfolding extended
returns c = search rules
