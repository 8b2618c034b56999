-- `effect::data::operate_effect` meets its contract: the operation's word, or its trap.
use Rattle.effect.proofs.data.operate_effect.Goals as goal

pub returns-in-Ok : goal.returns-in-Ok
returns-in-Ok c = rw (c.push_effect.ensures, c.operand_words.ensures, ← c.operation_value.ensures, c.in-Ok.is)

pub returns-in-Err : goal.returns-in-Err
returns-in-Err c = rw (← c.operation_value.ensures, c.in-Err.is)
