-- `number::is_external_code` meets its contract: the rows of the four codes are external, and no other is.
use Rattle.std.proofs.Common.{rules, sym}
use Rattle.relocation.proofs.Plain.{external-codes, other-code}
use Rattle.relocation.proofs.number.is_external_code.Goals as goal

pub returns-in-137 : goal.returns-in-137
returns-in-137 c = external-codes c.args.byte c.in-137.is

pub returns-in_default : goal.returns-in_default
returns-in_default c = sym (other-code c.args.byte (search rules))
