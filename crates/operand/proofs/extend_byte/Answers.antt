-- `operand::extend_byte` meets its contract: a signed byte and the signed word that holds it are one number.
use Rattle.std.proofs.Common.{rules}
use Rattle.operand.specs.Operand.{extended}
use Rattle.operand.proofs.extend_byte.Goals as goal

pub returns : goal.returns
unfolding extended
returns c = search rules
