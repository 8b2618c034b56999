-- `fast_data::long::byte_load` meets its contract: each arm is its instruction's step.
use mathlib.Core.Path.{◌∙◌, refl, sym}
use native.Mathlib.Omega.{arith}
use Prim.Native.Nat.{◌+◌}
use Rattle.operand.specs.Operand.{signed, b as byte}
use Rattle.opcode.specs.Table.{normal, both, row_of}
use Rattle.opcode.specs.declared.instruction.Mode.TheVariants.{Normal}
use Rattle.state.proofs.Fitting.{fitting}
use Rattle.fast.specs.Fast.{spot, state_at}
use Rattle.fast.proofs.Small.{byte_small}
use Rattle.fast_double.proofs.Forms.{started, long-form, byte-form}
use Rattle.fast_data.proofs.Arms.{constant-arm, load-constant-arm, load-local-arm, load-global-arm, load-popped-arm}
use Rattle.fast_data.proofs.long.byte_load.Goals as goal

pub load-requires : goal.load-requires
load-requires c =
    let a = c.args in
    let pre = c.requires in
    (fitting a.attributes (state_at a.q (spot a.pc.now a.height.now a.memory.now a.stack.now)) pre.stack_value
    ).within

pub returns-in-128 : goal.returns-in-128
unfolding row_of
returns-in-128 c =
    let load = c.load in
    let byte_at = c.byte_at-x in
    let if1 = c.if-code-here in
    let a = c.args in
    let pre = c.requires in
    load-constant-arm a.code.now a.attributes a.q a.pc.now a.height.now a.memory.now a.stack.now
    load.result (spot load.new.pc load.new.height a.memory.now load.new.stack)
    (a.pc.now + 2) if1.false byte_at.result
    (byte-form a.code.now a.pc.now both _ Normal _ 0x80 _
    (started a.code.now a.pc.now 0x80 (sym pre.b_value ∙ c.in-128.is) refl)
    (sym pre.b_value ∙ c.in-128.is) refl refl byte_at.ensures if1.false)
    load.ensures

pub returns-in-130 : goal.returns-in-130
unfolding row_of
returns-in-130 c =
    let push = c.push in
    let extend-byte = c.extend_byte in
    let byte_at = c.byte_at-x in
    let if1 = c.if-code-here in
    let a = c.args in
    let pre = c.requires in
    constant-arm a.code.now a.attributes a.q a.pc.now a.height.now a.memory.now a.stack.now
    push.result (spot push.new.pc push.new.height a.memory.now push.new.stack)
    (a.pc.now + 2) if1.false extend-byte.result
    (long-form a.code.now a.pc.now (signed byte) normal _ Normal _ _ 0x82 _
    (started a.code.now a.pc.now 0x82 (sym pre.b_value ∙ c.in-130.is) refl)
    (sym pre.b_value ∙ c.in-130.is) refl refl (rw (extend-byte.ensures, byte_at.ensures) refl)
    (omega arith) (omega arith) (omega (arith, if1.false)))
    (push.ensures a.memory.now)

pub load-requires-in-133 : goal.load-requires-in-133
load-requires-in-133 c =
    let a = c.args in
    let pre = c.requires in
    (fitting a.attributes (state_at a.q (spot a.pc.now a.height.now a.memory.now a.stack.now)) pre.stack_value
    ).within

pub returns-in-133 : goal.returns-in-133
unfolding row_of
returns-in-133 c =
    let load2 = c.load-in-133 in
    let byte_at = c.byte_at-x in
    let if1 = c.if-code-here in
    let a = c.args in
    let pre = c.requires in
    load-local-arm a.code.now a.attributes a.q a.pc.now a.height.now a.memory.now a.stack.now
    load2.result (spot load2.new.pc load2.new.height a.memory.now load2.new.stack)
    (a.pc.now + 2) if1.false byte_at.result
    (byte-form a.code.now a.pc.now both _ Normal _ 0x85 _
    (started a.code.now a.pc.now 0x85 (sym pre.b_value ∙ c.in-133.is) refl)
    (sym pre.b_value ∙ c.in-133.is) refl refl byte_at.ensures if1.false)
    load2.ensures

pub load-requires-in-134 : goal.load-requires-in-134
load-requires-in-134 c =
    let a = c.args in
    let pre = c.requires in
    (fitting a.attributes (state_at a.q (spot a.pc.now a.height.now a.memory.now a.stack.now)) pre.stack_value
    ).within

pub returns-in-134 : goal.returns-in-134
unfolding row_of
returns-in-134 c =
    let load3 = c.load-in-134 in
    let byte_at = c.byte_at-x in
    let if1 = c.if-code-here in
    let a = c.args in
    let pre = c.requires in
    load-global-arm a.code.now a.attributes a.q a.pc.now a.height.now a.memory.now a.stack.now
    load3.result (spot load3.new.pc load3.new.height a.memory.now load3.new.stack)
    (a.pc.now + 2) if1.false byte_at.result
    (byte-form a.code.now a.pc.now both _ Normal _ 0x86 _
    (started a.code.now a.pc.now 0x86 (sym pre.b_value ∙ c.in-134.is) refl)
    (sym pre.b_value ∙ c.in-134.is) refl refl byte_at.ensures if1.false)
    load3.ensures

pub load_popped-requires : goal.load_popped-requires
load_popped-requires c =
    let byte_at = c.byte_at-x in
    let a = c.args in
    let pre = c.requires in
    let F = fitting a.attributes (state_at a.q (spot a.pc.now a.height.now a.memory.now a.stack.now))
    pre.stack_value in
    record {
      mp_in_bounds = F.within;
      height_in_bounds = F.height;
      offset_bound = (byte_small byte_at.result byte_at.type_inv);
    }

pub returns-in-135 : goal.returns-in-135
unfolding row_of
returns-in-135 c =
    let load-popped = c.load_popped in
    let byte_at = c.byte_at-x in
    let if1 = c.if-code-here in
    let a = c.args in
    let pre = c.requires in
    load-popped-arm a.code.now a.attributes a.q a.pc.now a.height.now a.memory.now a.stack.now
    load-popped.result
    (spot load-popped.new.pc load-popped.new.height a.memory.now load-popped.new.stack)
    (a.pc.now + 2) if1.false byte_at.result
    (byte-form a.code.now a.pc.now both _ Normal _ 0x87 _
    (started a.code.now a.pc.now 0x87 (sym pre.b_value ∙ c.in-135.is) refl)
    (sym pre.b_value ∙ c.in-135.is) refl refl byte_at.ensures if1.false)
    load-popped.ensures
