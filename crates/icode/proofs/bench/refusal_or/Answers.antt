-- `bench::refusal_or` meets its contract: the refusal that there is, or the other one.
use mathlib.Core.List.{[]}
use Rattle.numbers.proofs.Refusing.{refuses}
use Rattle.icode.proofs.bench.refusal_or.Goals as goal

pub returns-in-Ok : goal.returns-in-Ok
returns-in-Ok c = rw (← c.single_number.ensures [], c.in-Ok.is)

pub returns-in-Err : goal.returns-in-Err
returns-in-Err c = rw (← c.single_number.ensures [], c.in-Err.is, refuses c.in-Err.refusal)
