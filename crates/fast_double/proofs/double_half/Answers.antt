-- `fast_double::double_half` meets its contract: each arm is its instruction's step.
use mathlib.Core.Path.{◌∙◌, refl, sym}
use Prim.Native.Nat.{◌+◌}
use Rattle.words.specs.Bytes.{halfword_at}
use Rattle.opcode.specs.Table.{both, row_of}
use Rattle.opcode.specs.declared.instruction.Mode.TheVariants.{Double}
use Rattle.state.proofs.Fitting.{fitting}
use Rattle.fast.specs.Fast.{spot, state_at}
use Rattle.fast_double.proofs.Forms.{behind, half-form}
use Rattle.fast.proofs.Small.{small-constant}
use Rattle.fast_double.proofs.Arms.{load-two-constant-arm, load-two-popped-arm, store-two-popped-arm}
use Rattle.fast_double.proofs.Arms.{reaches}
use Rattle.fast_double.proofs.double_half.Goals as goal

pub load_two-requires : goal.load_two-requires
load_two-requires c =
    let pair = c.pair-n in
    let a = c.args in
    let pre = c.requires in
    let F = fitting a.attributes (state_at a.q (spot a.pc.now a.height.now a.memory.now a.stack.now))
    pre.stack_value in record {
      mp_in_bounds = F.within;
      a_bound = small-constant a.attributes a.q
          (spot a.pc.now a.height.now a.memory.now a.stack.now) pre.stack_value pair.result pair.type_inv;
    }

pub returns-in-129 : goal.returns-in-129
unfolding row_of halfword_at
returns-in-129 c =
    let load-two = c.load_two in
    let pair = c.pair-n in
    let if1 = c.if-code-at in
    let a = c.args in
    let pre = c.requires in
    load-two-constant-arm a.code.now a.attributes a.q a.pc.now a.height.now a.memory.now a.stack.now
    load-two.result (spot load-two.new.pc load-two.new.height a.memory.now load-two.new.stack)
    (a.pc.now + 1 + 3) if1.false pair.result
    (half-form a.code.now a.pc.now both _ Double _ 0x81 _
    (behind pre.pc_value)
    (sym pre.b_value ∙ c.in-129.is) refl refl pair.ensures if1.false)
    load-two.ensures

pub load_two_popped-requires : goal.load_two_popped-requires
load_two_popped-requires c =
    let pair = c.pair-n in
    let a = c.args in
    let pre = c.requires in
    let F = fitting a.attributes (state_at a.q (spot a.pc.now a.height.now a.memory.now a.stack.now))
    pre.stack_value in
    record {
      mp_in_bounds = F.within;
      height_in_bounds = F.height;
      offset_bound = pair.type_inv;
    }

pub returns-in-136 : goal.returns-in-136
unfolding row_of halfword_at
returns-in-136 c =
    let load-two-popped = c.load_two_popped in
    let pair = c.pair-n in
    let if1 = c.if-code-at in
    let a = c.args in
    let pre = c.requires in
    load-two-popped-arm a.code.now a.attributes a.q a.pc.now a.height.now a.memory.now a.stack.now
    load-two-popped.result (spot load-two-popped.new.pc load-two-popped.new.height a.memory.now
    load-two-popped.new.stack)
    (a.pc.now + 1 + 3) if1.false pair.result
    (half-form a.code.now a.pc.now both _ Double _ 0x88 _
    (behind pre.pc_value)
    (sym pre.b_value ∙ c.in-136.is) refl refl pair.ensures if1.false)
    load-two-popped.ensures

pub returns-in-151 : goal.returns-in-151
unfolding row_of halfword_at
returns-in-151 c =
    let store-two-popped = c.store_two_popped in
    let pair = c.pair-n in
    let if1 = c.if-code-at in
    let a = c.args in
    let pre = c.requires in
    store-two-popped-arm a.code.now a.attributes a.q a.pc.now a.height.now a.memory.now a.stack.now
    store-two-popped.result (spot store-two-popped.new.pc store-two-popped.new.height
    store-two-popped.new.memory a.stack.now)
    (a.pc.now + 1 + 3) if1.false pair.result
    (half-form a.code.now a.pc.now both _ Double _ 0x97 _
    (behind pre.pc_value)
    (sym pre.b_value ∙ c.in-151.is) refl refl pair.ensures if1.false)
    store-two-popped.ensures

pub store_two_popped-requires : goal.store_two_popped-requires
store_two_popped-requires c =
    let pair = c.pair-n in
    let a = c.args in
    let pre = c.requires in
    let r = reaches a.attributes a.q (spot a.pc.now a.height.now a.memory.now a.stack.now) pre.stack_value
    pair.result pair.type_inv in
    record {
      mp_in_bounds = r.0;
      height_in_bounds = r.1.0;
      offset_bound = r.1.1.0;
      calls_value = r.1.1.1.0;
      fp_in_bounds = r.1.1.1.1;
    }
