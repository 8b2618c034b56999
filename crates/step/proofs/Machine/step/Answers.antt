-- `step::Machine::step` meets its contract: decoding, the stack words, and what the instruction does.
use mathlib.Core.Path.{◌∙◌, sym}
use native.Mathlib.Omega.{arith}
use lib.ListN.{length}
use borrow.Author.Tests.{lt-ltb, le-ltb}
use Rattle.opcode.proofs.Found.{ends}
use Rattle.registers.specs.State.{state}
use Rattle.shape.specs.Shape.{needed}
use Rattle.state.proofs.Fitting.{fitting}
use Rattle.step.specs.Step.{perform, step_of}
use Rattle.step.proofs.Decoding.{undecoded}
use Rattle.step.proofs.Machine.step.Goals as goal

pub returns-then-q-needed_words : goal.returns-then-q-needed_words
unfolding step_of perform
returns-then-q-needed_words c =
    let trapped3 = c.trapped-then-q-needed_words in
    let if1 = c.if-q-needed_words in
    let needed-words = c.needed_words in
    let decode = c.decode in
    let a = c.args in
    rw (
      ← decode.ensures,
      c.in-Ok.is,
      ← needed-words.ensures,
      lt-ltb a.self.registers.height needed-words.result if1.true,
      trapped3.ensures,
    )

pub overflow_cast-next : goal.overflow_cast-next
overflow_cast-next c =
    let decode = c.decode in
    let a = c.args in
    let pre = c.requires in
    let a = a in
    let within = ends a.code.now (length a.code.now) a.self.registers.pc (sym decode.ensures ∙ c.in-Ok.is) in
    record { fits = omega (arith, pre.code_len_bound, within.1) }

pub execute-e-requires : goal.execute-e-requires
execute-e-requires c =
    let if1 = c.if-q-needed_words in
    let needed-words = c.needed_words in
    let a = c.args in
    let pre = c.requires in
    let a = a in
    let F = fitting a.attributes (state a.self.registers a.memory.now a.stack.now) pre.stack_value in
    record {
      table_len_bound = pre.table_len_bound;
      calls_value = F.links;
      copy_bound = pre.copy_bound;
      m_len_bound = F.room;
      i_bound = omega (arith, needed-words.ensures, if1.false);
    }

pub apply-requires : goal.apply-requires
apply-requires c =
    let a = c.args in
    let pre = c.requires in
    let a = a in
    let F = fitting a.attributes (state a.self.registers a.memory.now a.stack.now) pre.stack_value in
    record {
      table_len_bound = pre.table_len_bound;
      stack_len_bound = F.deep;
    }

pub returns-in-Err : goal.returns-in-Err
unfolding step_of
returns-in-Err c = rw (← c.decode.ensures, c.in-Err.is, c.trapped.ensures) (undecoded _ _ c.in-Err.error _ c.from.ensures)

pub returns-else-q-needed_words : goal.returns-else-q-needed_words
unfolding step_of perform
returns-else-q-needed_words c =
    let apply = c.apply in
    let execute = c.execute-e in
    let if1 = c.if-q-needed_words in
    let needed-words = c.needed_words in
    let decode = c.decode in
    let a = c.args in
    let a = a in
    rw (
      ← decode.ensures,
      c.in-Ok.is,
      le-ltb a.self.registers.height (needed c.in-Ok.i) (omega (arith, needed-words.ensures, if1.false)),
      ← execute.ensures,
    ) apply.ensures
