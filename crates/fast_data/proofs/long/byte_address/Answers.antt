-- `fast_data::long::byte_address` meets its contract: each arm is its instruction's step.
use mathlib.Core.Path.{◌∙◌, refl, sym}
use Prim.Native.Nat.{◌+◌}
use Rattle.opcode.specs.Table.{normal, row_of}
use Rattle.opcode.specs.declared.instruction.Mode.TheVariants.{Normal}
use Rattle.state.proofs.Fitting.{fitting}
use Rattle.fast.specs.Fast.{spot, state_at}
use Rattle.fast.proofs.Small.{byte_small, small-constant, small-global, small-local}
use Rattle.fast_double.proofs.Forms.{started, byte-form}
use Rattle.fast_data.proofs.Arms.{address-local-arm, address-global-arm, address-popped-arm, address-constant-arm}
use Rattle.fast_data.proofs.long.byte_address.Goals as goal

pub overflow_cast-q-in-141 : goal.overflow_cast-q-in-141
overflow_cast-q-in-141 c =
    let byte_at = c.byte_at-n in
    let a = c.args in
    let pre = c.requires in
    record {
      fits = small-local a.attributes a.q (spot a.pc.now a.height.now a.memory.now a.stack.now)
          pre.stack_value byte_at.result (byte_small byte_at.result byte_at.type_inv);
    }

pub returns-in-141 : goal.returns-in-141
unfolding row_of
returns-in-141 c =
    let push = c.push in
    let byte_at = c.byte_at-n in
    let if1 = c.if-code-here in
    let a = c.args in
    let pre = c.requires in
    address-local-arm a.code.now a.attributes a.q a.pc.now a.height.now a.memory.now a.stack.now
    push.result (spot push.new.pc push.new.height a.memory.now push.new.stack)
    (a.pc.now + 2) if1.false byte_at.result
    (byte-form a.code.now a.pc.now normal _ Normal _ 0x8D _
    (started a.code.now a.pc.now 0x8D (sym pre.b_value ∙ c.in-141.is) refl)
    (sym pre.b_value ∙ c.in-141.is) refl refl byte_at.ensures if1.false)
    (small-local a.attributes a.q (spot a.pc.now a.height.now a.memory.now a.stack.now) pre.stack_value
    byte_at.result (byte_small byte_at.result byte_at.type_inv))
    (push.ensures a.memory.now)

pub overflow_cast-q-in-142-2 : goal.overflow_cast-q-in-142-2
overflow_cast-q-in-142-2 c =
    let byte_at = c.byte_at-n in
    let a = c.args in
    let pre = c.requires in
    record {
      fits = small-global a.attributes a.q (spot a.pc.now a.height.now a.memory.now a.stack.now)
          pre.stack_value byte_at.result (byte_small byte_at.result byte_at.type_inv);
    }

pub returns-in-142 : goal.returns-in-142
unfolding row_of
returns-in-142 c =
    let push2 = c.push-in-142 in
    let byte_at = c.byte_at-n in
    let if1 = c.if-code-here in
    let a = c.args in
    let pre = c.requires in
    address-global-arm a.code.now a.attributes a.q a.pc.now a.height.now a.memory.now a.stack.now
    push2.result (spot push2.new.pc push2.new.height a.memory.now push2.new.stack)
    (a.pc.now + 2) if1.false byte_at.result
    (byte-form a.code.now a.pc.now normal _ Normal _ 0x8E _
    (started a.code.now a.pc.now 0x8E (sym pre.b_value ∙ c.in-142.is) refl)
    (sym pre.b_value ∙ c.in-142.is) refl refl byte_at.ensures if1.false)
    (small-global a.attributes a.q (spot a.pc.now a.height.now a.memory.now a.stack.now) pre.stack_value
    byte_at.result (byte_small byte_at.result byte_at.type_inv))
    (push2.ensures a.memory.now)

pub address_popped-requires : goal.address_popped-requires
address_popped-requires c =
    let byte_at = c.byte_at-n in
    let a = c.args in
    let pre = c.requires in record {
      height_in_bounds = (fitting a.attributes (state_at a.q (spot a.pc.now a.height.now a.memory.now a.stack.now))
          pre.stack_value).height;
      offset_bound = (byte_small byte_at.result byte_at.type_inv);
    }

pub returns-in-143 : goal.returns-in-143
unfolding row_of
returns-in-143 c =
    let address-popped = c.address_popped in
    let byte_at = c.byte_at-n in
    let if1 = c.if-code-here in
    let a = c.args in
    let pre = c.requires in
    address-popped-arm a.code.now a.attributes a.q a.pc.now a.height.now a.memory.now a.stack.now
    address-popped.result
    (spot address-popped.new.pc address-popped.new.height a.memory.now address-popped.new.stack)
    (a.pc.now + 2) if1.false byte_at.result
    (byte-form a.code.now a.pc.now normal _ Normal _ 0x8F _
    (started a.code.now a.pc.now 0x8F (sym pre.b_value ∙ c.in-143.is) refl)
    (sym pre.b_value ∙ c.in-143.is) refl refl byte_at.ensures if1.false)
    (address-popped.ensures a.memory.now)

pub overflow_cast-attributes-in-146 : goal.overflow_cast-attributes-in-146
overflow_cast-attributes-in-146 c =
    let byte_at = c.byte_at-n in
    let a = c.args in
    let pre = c.requires in
    record {
      fits = small-constant a.attributes a.q (spot a.pc.now a.height.now a.memory.now a.stack.now)
          pre.stack_value byte_at.result (byte_small byte_at.result byte_at.type_inv);
    }

pub returns-in-146 : goal.returns-in-146
unfolding row_of
returns-in-146 c =
    let push3 = c.push-in-146 in
    let byte_at = c.byte_at-n in
    let if1 = c.if-code-here in
    let a = c.args in
    let pre = c.requires in
    address-constant-arm a.code.now a.attributes a.q a.pc.now a.height.now a.memory.now a.stack.now
    push3.result (spot push3.new.pc push3.new.height a.memory.now push3.new.stack)
    (a.pc.now + 2) if1.false byte_at.result
    (byte-form a.code.now a.pc.now normal _ Normal _ 0x92 _
    (started a.code.now a.pc.now 0x92 (sym pre.b_value ∙ c.in-146.is) refl)
    (sym pre.b_value ∙ c.in-146.is) refl refl byte_at.ensures if1.false)
    (small-constant a.attributes a.q (spot a.pc.now a.height.now a.memory.now a.stack.now) pre.stack_value
    byte_at.result (byte_small byte_at.result byte_at.type_inv))
    (push3.ensures a.memory.now)
