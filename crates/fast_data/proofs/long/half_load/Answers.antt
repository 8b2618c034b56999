-- `fast_data::long::half_load` meets its contract: each arm is its instruction's step.
use mathlib.Core.Path.{◌∙◌, refl, sym}
use native.Mathlib.Omega.{arith}
use Prim.Native.Nat.{◌+◌}
use Rattle.words.specs.Bytes.{halfword_at}
use Rattle.operand.specs.Operand.{signed, h as half}
use Rattle.opcode.specs.Table.{normal, both, row_of}
use Rattle.opcode.specs.declared.instruction.Mode.TheVariants.{Normal}
use Rattle.state.proofs.Fitting.{fitting}
use Rattle.fast.specs.Fast.{spot, state_at}
use Rattle.fast.proofs.Small.{small-constant}
use Rattle.fast_double.proofs.Forms.{started, long-form, half-form}
use Rattle.fast_data.proofs.Arms.{constant-arm, load-constant-arm, load-popped-arm}
use Rattle.fast_data.proofs.Arms.{address-popped-arm, address-constant-arm}
use Rattle.fast_data.proofs.long.half_load.Goals as goal

pub load-requires : goal.load-requires
load-requires c =
    let a = c.args in
    let pre = c.requires in
    (fitting a.attributes (state_at a.q (spot a.pc.now a.height.now a.memory.now a.stack.now)) pre.stack_value
    ).within

pub returns-in-129 : goal.returns-in-129
unfolding row_of halfword_at
returns-in-129 c =
    let load = c.load in
    let pair = c.pair-x in
    let if1 = c.if-code-here in
    let a = c.args in
    let pre = c.requires in
    load-constant-arm a.code.now a.attributes a.q a.pc.now a.height.now a.memory.now a.stack.now
    load.result (spot load.new.pc load.new.height a.memory.now load.new.stack)
    (a.pc.now + 3) if1.false pair.result
    (half-form a.code.now a.pc.now both _ Normal _ 0x81 _
    (started a.code.now a.pc.now 0x81 (sym pre.b_value ∙ c.in-129.is) refl)
    (sym pre.b_value ∙ c.in-129.is) refl refl pair.ensures if1.false)
    load.ensures

pub returns-in-131 : goal.returns-in-131
unfolding row_of halfword_at
returns-in-131 c =
    let push = c.push in
    let extend-halfword = c.extend_halfword in
    let pair = c.pair-x in
    let if1 = c.if-code-here in
    let a = c.args in
    let pre = c.requires in
    constant-arm a.code.now a.attributes a.q a.pc.now a.height.now a.memory.now a.stack.now
    push.result (spot push.new.pc push.new.height a.memory.now push.new.stack)
    (a.pc.now + 3) if1.false extend-halfword.result
    (long-form a.code.now a.pc.now (signed half) normal _ Normal _ _ 0x83 _
    (started a.code.now a.pc.now 0x83 (sym pre.b_value ∙ c.in-131.is) refl)
    (sym pre.b_value ∙ c.in-131.is) refl refl (rw (extend-halfword.ensures, pair.ensures) refl)
    (omega arith) (omega arith) (omega (arith, if1.false)))
    (push.ensures a.memory.now)

pub load_popped-requires : goal.load_popped-requires
load_popped-requires c =
    let pair = c.pair-x in
    let a = c.args in
    let pre = c.requires in
    let F = fitting a.attributes (state_at a.q (spot a.pc.now a.height.now a.memory.now a.stack.now))
    pre.stack_value in
    record {
      mp_in_bounds = F.within;
      height_in_bounds = F.height;
      offset_bound = pair.type_inv;
    }

pub returns-in-136 : goal.returns-in-136
unfolding row_of halfword_at
returns-in-136 c =
    let load-popped = c.load_popped in
    let pair = c.pair-x in
    let if1 = c.if-code-here in
    let a = c.args in
    let pre = c.requires in
    load-popped-arm a.code.now a.attributes a.q a.pc.now a.height.now a.memory.now a.stack.now
    load-popped.result
    (spot load-popped.new.pc load-popped.new.height a.memory.now load-popped.new.stack)
    (a.pc.now + 3) if1.false pair.result
    (half-form a.code.now a.pc.now both _ Normal _ 0x88 _
    (started a.code.now a.pc.now 0x88 (sym pre.b_value ∙ c.in-136.is) refl)
    (sym pre.b_value ∙ c.in-136.is) refl refl pair.ensures if1.false)
    load-popped.ensures

pub address_popped-requires : goal.address_popped-requires
address_popped-requires c =
    let pair = c.pair-x in
    let a = c.args in
    let pre = c.requires in record {
      height_in_bounds = (fitting a.attributes (state_at a.q (spot a.pc.now a.height.now a.memory.now a.stack.now))
          pre.stack_value).height;
      offset_bound = pair.type_inv;
    }

pub returns-in-144 : goal.returns-in-144
unfolding row_of halfword_at
returns-in-144 c =
    let address-popped = c.address_popped in
    let pair = c.pair-x in
    let if1 = c.if-code-here in
    let a = c.args in
    let pre = c.requires in
    address-popped-arm a.code.now a.attributes a.q a.pc.now a.height.now a.memory.now a.stack.now
    address-popped.result
    (spot address-popped.new.pc address-popped.new.height a.memory.now address-popped.new.stack)
    (a.pc.now + 3) if1.false pair.result
    (half-form a.code.now a.pc.now normal _ Normal _ 0x90 _
    (started a.code.now a.pc.now 0x90 (sym pre.b_value ∙ c.in-144.is) refl)
    (sym pre.b_value ∙ c.in-144.is) refl refl pair.ensures if1.false)
    (address-popped.ensures a.memory.now)

pub overflow_cast-attributes-in-147-2 : goal.overflow_cast-attributes-in-147-2
overflow_cast-attributes-in-147-2 c =
    let pair = c.pair-x in
    let a = c.args in
    let pre = c.requires in
    record {
      fits = small-constant a.attributes a.q (spot a.pc.now a.height.now a.memory.now a.stack.now)
          pre.stack_value pair.result pair.type_inv;
    }

pub returns-in-147 : goal.returns-in-147
unfolding row_of halfword_at
returns-in-147 c =
    let push2 = c.push-in-147 in
    let pair = c.pair-x in
    let if1 = c.if-code-here in
    let a = c.args in
    let pre = c.requires in
    address-constant-arm a.code.now a.attributes a.q a.pc.now a.height.now a.memory.now a.stack.now
    push2.result (spot push2.new.pc push2.new.height a.memory.now push2.new.stack)
    (a.pc.now + 3) if1.false pair.result
    (half-form a.code.now a.pc.now normal _ Normal _ 0x93 _
    (started a.code.now a.pc.now 0x93 (sym pre.b_value ∙ c.in-147.is) refl)
    (sym pre.b_value ∙ c.in-147.is) refl refl pair.ensures if1.false)
    (small-constant a.attributes a.q (spot a.pc.now a.height.now a.memory.now a.stack.now) pre.stack_value
    pair.result pair.type_inv)
    (push2.ensures a.memory.now)
