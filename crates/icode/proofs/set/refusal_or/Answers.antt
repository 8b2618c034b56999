-- `set::refusal_or` meets its contract: the refusal that there is, or the other one.
use Rattle.numbers.proofs.Refusing.{refuses}
use Rattle.icode.proofs.set.refusal_or.Goals as goal

pub returns-in-Ok : goal.returns-in-Ok
returns-in-Ok c = λ lists. rw (← c.set_number.ensures lists, c.in-Ok.is)

pub returns-in-Err : goal.returns-in-Err
returns-in-Err c = λ lists. rw (← c.set_number.ensures lists, c.in-Err.is, refuses c.in-Err.refusal)
