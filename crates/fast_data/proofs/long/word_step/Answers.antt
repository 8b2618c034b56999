-- `fast_data::long::word_step` meets its contract: a word is its own extension.
use mathlib.Core.Path.{◌≡◌, refl}
use native.Mathlib.Omega.{arith}
use Prim.Native.Nat.{◌+◌}
use Rattle.words.specs.Bytes.{halfword_at, word_at}
use Rattle.operand.specs.Operand.{signed, w as word}
use Rattle.operand.proofs.Extend.{extended-word}
use Rattle.opcode.specs.Table.{normal, row_of}
use Rattle.opcode.specs.declared.instruction.Mode.TheVariants.{Normal}
use Rattle.fast.specs.Fast.{spot}
use Rattle.fast_double.proofs.Forms.{started, long-form}
use Rattle.fast_data.proofs.Arms.{constant-arm}
use Rattle.fast_data.proofs.long.word_step.Goals as goal

pub returns : goal.returns
unfolding row_of word_at halfword_at
returns c =
    let push = c.push in
    let join = c.join in
    let pair2 = c.pair-low in
    let pair = c.pair-high in
    let if1 = c.if-code-here in
    let a = c.args in
    let pre = c.requires in
    let same : join.result ≡ word_at a.code.now (a.pc.now + 1) = rw (join.ensures, pair.ensures, pair2.ensures) refl in
    constant-arm a.code.now a.attributes a.q a.pc.now a.height.now a.memory.now a.stack.now
    push.result (spot push.new.pc push.new.height a.memory.now push.new.stack)
    (a.pc.now + 5) (omega (arith, if1.false)) join.result
    (long-form a.code.now a.pc.now (signed word) normal _ Normal _ _ 0x84 _
    (started a.code.now a.pc.now 0x84 pre.pc_value refl)
    pre.pc_value refl refl (rw (← same) (extended-word join.result join.type_inv))
    (omega arith) (omega arith) (omega (arith, if1.false)))
    (push.ensures a.memory.now)
