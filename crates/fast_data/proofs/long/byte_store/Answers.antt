-- `fast_data::long::byte_store` meets its contract: each arm is its instruction's step.
use mathlib.Core.Path.{◌∙◌, refl, sym}
use Prim.Native.Nat.{◌+◌}
use Rattle.opcode.specs.Table.{normal, both, row_of}
use Rattle.opcode.specs.declared.instruction.Mode.TheVariants.{Normal}
use Rattle.state.proofs.Fitting.{fitting}
use Rattle.fast.specs.Fast.{spot, state_at}
use Rattle.fast.proofs.Small.{byte_small}
use Rattle.fast_double.proofs.Forms.{started, byte-form}
use Rattle.fast_double.proofs.Arms.{reaches}
use Rattle.fast_data.proofs.Arms.{store-local-arm, store-global-arm, store-popped-arm, pop-arm}
use Rattle.fast_data.proofs.long.byte_store.Goals as goal

pub store-requires : goal.store-requires
store-requires c =
    let a = c.args in
    let pre = c.requires in
    let F = fitting a.attributes (state_at a.q (spot a.pc.now a.height.now a.memory.now a.stack.now))
    pre.stack_value in
    record {
      mp_in_bounds = F.within;
      height_in_bounds = F.height;
    }

pub returns-in-148 : goal.returns-in-148
unfolding row_of
returns-in-148 c =
    let store = c.store in
    let byte_at = c.byte_at-n in
    let if1 = c.if-code-here in
    let a = c.args in
    let pre = c.requires in
    store-local-arm a.code.now a.attributes a.q a.pc.now a.height.now a.memory.now a.stack.now
    store.result (spot store.new.pc store.new.height store.new.memory a.stack.now)
    (a.pc.now + 2) if1.false byte_at.result
    (byte-form a.code.now a.pc.now both _ Normal _ 0x94 _
    (started a.code.now a.pc.now 0x94 (sym pre.b_value ∙ c.in-148.is) refl)
    (sym pre.b_value ∙ c.in-148.is) refl refl byte_at.ensures if1.false)
    store.ensures

pub store-requires-in-149 : goal.store-requires-in-149
store-requires-in-149 c =
    let a = c.args in
    let pre = c.requires in
    let F = fitting a.attributes (state_at a.q (spot a.pc.now a.height.now a.memory.now a.stack.now))
    pre.stack_value in
    record {
      mp_in_bounds = F.within;
      height_in_bounds = F.height;
    }

pub returns-in-149 : goal.returns-in-149
unfolding row_of
returns-in-149 c =
    let store2 = c.store-in-149 in
    let byte_at = c.byte_at-n in
    let if1 = c.if-code-here in
    let a = c.args in
    let pre = c.requires in
    store-global-arm a.code.now a.attributes a.q a.pc.now a.height.now a.memory.now a.stack.now
    store2.result (spot store2.new.pc store2.new.height store2.new.memory a.stack.now)
    (a.pc.now + 2) if1.false byte_at.result
    (byte-form a.code.now a.pc.now both _ Normal _ 0x95 _
    (started a.code.now a.pc.now 0x95 (sym pre.b_value ∙ c.in-149.is) refl)
    (sym pre.b_value ∙ c.in-149.is) refl refl byte_at.ensures if1.false)
    store2.ensures

pub returns-in-150 : goal.returns-in-150
unfolding row_of
returns-in-150 c =
    let store-popped = c.store_popped in
    let byte_at = c.byte_at-n in
    let if1 = c.if-code-here in
    let a = c.args in
    let pre = c.requires in
    store-popped-arm a.code.now a.attributes a.q a.pc.now a.height.now a.memory.now a.stack.now
    store-popped.result
    (spot store-popped.new.pc store-popped.new.height store-popped.new.memory
    a.stack.now)
    (a.pc.now + 2) if1.false byte_at.result
    (byte-form a.code.now a.pc.now both _ Normal _ 0x96 _
    (started a.code.now a.pc.now 0x96 (sym pre.b_value ∙ c.in-150.is) refl)
    (sym pre.b_value ∙ c.in-150.is) refl refl byte_at.ensures if1.false)
    store-popped.ensures

pub returns-in-158 : goal.returns-in-158
unfolding row_of
returns-in-158 c =
    let drop = c.drop in
    let byte_at = c.byte_at-n in
    let if1 = c.if-code-here in
    let a = c.args in
    let pre = c.requires in
    pop-arm a.code.now a.attributes a.q a.pc.now a.height.now a.memory.now a.stack.now
    drop.result (spot drop.new.pc drop.new.height a.memory.now a.stack.now)
    (a.pc.now + 2) if1.false byte_at.result
    (byte-form a.code.now a.pc.now normal _ Normal _ 0x9E _
    (started a.code.now a.pc.now 0x9E (sym pre.b_value ∙ c.in-158.is) refl)
    (sym pre.b_value ∙ c.in-158.is) refl refl byte_at.ensures if1.false)
    (drop.ensures a.memory.now a.stack.now)

pub store_popped-requires : goal.store_popped-requires
store_popped-requires c =
    let byte_at = c.byte_at-n in
    let a = c.args in
    let pre = c.requires in
    let r = reaches a.attributes a.q (spot a.pc.now a.height.now a.memory.now a.stack.now) pre.stack_value
    byte_at.result (byte_small byte_at.result byte_at.type_inv) in
    record {
      mp_in_bounds = r.0;
      height_in_bounds = r.1.0;
      offset_bound = r.1.1.0;
      calls_value = r.1.1.1.0;
      fp_in_bounds = r.1.1.1.1;
    }
