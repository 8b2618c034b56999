-- `fast_double::double_long` meets its contract: each arm is its instruction's step.
use mathlib.Core.Path.{◌∙◌, refl, sym}
use Prim.Native.Nat.{◌+◌}
use Rattle.opcode.specs.Table.{both, row_of}
use Rattle.opcode.specs.declared.instruction.Mode.TheVariants.{Double}
use Rattle.state.proofs.Fitting.{fitting}
use Rattle.fast.specs.Fast.{spot, state_at}
use Rattle.fast_double.proofs.Forms.{behind, byte-form}
use Rattle.fast.proofs.Small.{byte_small, small-constant, small-global, small-local}
use Rattle.fast_double.proofs.Arms.{load-two-constant-arm, load-two-global-arm, load-two-local-arm, load-two-popped-arm}
use Rattle.fast_double.proofs.Arms.{store-two-global-arm}
use Rattle.fast_double.proofs.Arms.{store-two-local-arm, store-two-popped-arm}
use Rattle.fast_double.proofs.Arms.{reaches}
use Rattle.fast_double.proofs.double_long.Goals as goal

pub load_two-requires : goal.load_two-requires
load_two-requires c =
    let byte_at = c.byte_at-n in
    let a = c.args in
    let pre = c.requires in
    let F = fitting a.attributes (state_at a.q (spot a.pc.now a.height.now a.memory.now a.stack.now))
    pre.stack_value in record {
      mp_in_bounds = F.within;
      a_bound = small-constant a.attributes a.q
          (spot a.pc.now a.height.now a.memory.now a.stack.now) pre.stack_value byte_at.result
          (byte_small byte_at.result byte_at.type_inv);
    }

pub returns-in-128 : goal.returns-in-128
unfolding row_of
returns-in-128 c =
    let load-two = c.load_two in
    let byte_at = c.byte_at-n in
    let if1 = c.if-code-at in
    let a = c.args in
    let pre = c.requires in
    load-two-constant-arm a.code.now a.attributes a.q a.pc.now a.height.now a.memory.now a.stack.now
    load-two.result (spot load-two.new.pc load-two.new.height a.memory.now load-two.new.stack)
    (a.pc.now + 1 + 2) if1.false byte_at.result
    (byte-form a.code.now a.pc.now both _ Double _ 0x80 _
    (behind pre.pc_value)
    (sym pre.b_value ∙ c.in-128.is) refl refl byte_at.ensures if1.false)
    load-two.ensures

pub load_two-requires-in-133 : goal.load_two-requires-in-133
load_two-requires-in-133 c =
    let byte_at = c.byte_at-n in
    let a = c.args in
    let pre = c.requires in
    let F = fitting a.attributes (state_at a.q (spot a.pc.now a.height.now a.memory.now a.stack.now))
    pre.stack_value in record {
      mp_in_bounds = F.within;
      a_bound = small-local a.attributes a.q (spot a.pc.now a.height.now a.memory.now a.stack.now)
          pre.stack_value byte_at.result (byte_small byte_at.result byte_at.type_inv);
    }

pub returns-in-133 : goal.returns-in-133
unfolding row_of
returns-in-133 c =
    let load-two2 = c.load_two-in-133 in
    let byte_at = c.byte_at-n in
    let if1 = c.if-code-at in
    let a = c.args in
    let pre = c.requires in
    load-two-local-arm a.code.now a.attributes a.q a.pc.now a.height.now a.memory.now a.stack.now
    load-two2.result (spot load-two2.new.pc load-two2.new.height a.memory.now load-two2.new.stack)
    (a.pc.now + 1 + 2) if1.false byte_at.result
    (byte-form a.code.now a.pc.now both _ Double _ 0x85 _
    (behind pre.pc_value)
    (sym pre.b_value ∙ c.in-133.is) refl refl byte_at.ensures if1.false)
    load-two2.ensures

pub load_two-requires-in-134 : goal.load_two-requires-in-134
load_two-requires-in-134 c =
    let byte_at = c.byte_at-n in
    let a = c.args in
    let pre = c.requires in
    let F = fitting a.attributes (state_at a.q (spot a.pc.now a.height.now a.memory.now a.stack.now))
    pre.stack_value in record {
      mp_in_bounds = F.within;
      a_bound = small-global a.attributes a.q (spot a.pc.now a.height.now a.memory.now a.stack.now)
          pre.stack_value byte_at.result (byte_small byte_at.result byte_at.type_inv);
    }

pub returns-in-134 : goal.returns-in-134
unfolding row_of
returns-in-134 c =
    let load-two3 = c.load_two-in-134 in
    let byte_at = c.byte_at-n in
    let if1 = c.if-code-at in
    let a = c.args in
    let pre = c.requires in
    load-two-global-arm a.code.now a.attributes a.q a.pc.now a.height.now a.memory.now a.stack.now
    load-two3.result (spot load-two3.new.pc load-two3.new.height a.memory.now load-two3.new.stack)
    (a.pc.now + 1 + 2) if1.false byte_at.result
    (byte-form a.code.now a.pc.now both _ Double _ 0x86 _
    (behind pre.pc_value)
    (sym pre.b_value ∙ c.in-134.is) refl refl byte_at.ensures if1.false)
    load-two3.ensures

pub load_two_popped-requires : goal.load_two_popped-requires
load_two_popped-requires c =
    let byte_at = c.byte_at-n in
    let a = c.args in
    let pre = c.requires in
    let F = fitting a.attributes (state_at a.q (spot a.pc.now a.height.now a.memory.now a.stack.now))
    pre.stack_value in
    record {
      mp_in_bounds = F.within;
      height_in_bounds = F.height;
      offset_bound = (byte_small byte_at.result byte_at.type_inv);
    }

pub returns-in-135 : goal.returns-in-135
unfolding row_of
returns-in-135 c =
    let load-two-popped = c.load_two_popped in
    let byte_at = c.byte_at-n in
    let if1 = c.if-code-at in
    let a = c.args in
    let pre = c.requires in
    load-two-popped-arm a.code.now a.attributes a.q a.pc.now a.height.now a.memory.now a.stack.now
    load-two-popped.result (spot load-two-popped.new.pc load-two-popped.new.height a.memory.now
    load-two-popped.new.stack)
    (a.pc.now + 1 + 2) if1.false byte_at.result
    (byte-form a.code.now a.pc.now both _ Double _ 0x87 _
    (behind pre.pc_value)
    (sym pre.b_value ∙ c.in-135.is) refl refl byte_at.ensures if1.false)
    load-two-popped.ensures

pub store_two-requires : goal.store_two-requires
store_two-requires c =
    let byte_at = c.byte_at-n in
    let a = c.args in
    let pre = c.requires in
    let F = fitting a.attributes (state_at a.q (spot a.pc.now a.height.now a.memory.now a.stack.now))
    pre.stack_value in record {
      mp_in_bounds = F.within;
      height_in_bounds = F.height;
      a_bound = small-local a.attributes a.q (spot a.pc.now a.height.now a.memory.now a.stack.now)
          pre.stack_value byte_at.result (byte_small byte_at.result byte_at.type_inv);
    }

pub returns-in-148 : goal.returns-in-148
unfolding row_of
returns-in-148 c =
    let store_two = c.store_two in
    let byte_at = c.byte_at-n in
    let if1 = c.if-code-at in
    let a = c.args in
    let pre = c.requires in
    store-two-local-arm a.code.now a.attributes a.q a.pc.now a.height.now a.memory.now a.stack.now
    store_two.result (spot store_two.new.pc store_two.new.height store_two.new.memory
    a.stack.now)
    (a.pc.now + 1 + 2) if1.false byte_at.result
    (byte-form a.code.now a.pc.now both _ Double _ 0x94 _
    (behind pre.pc_value)
    (sym pre.b_value ∙ c.in-148.is) refl refl byte_at.ensures if1.false)
    store_two.ensures

pub store_two-requires-in-149 : goal.store_two-requires-in-149
store_two-requires-in-149 c =
    let byte_at = c.byte_at-n in
    let a = c.args in
    let pre = c.requires in
    let F = fitting a.attributes (state_at a.q (spot a.pc.now a.height.now a.memory.now a.stack.now))
    pre.stack_value in record {
      mp_in_bounds = F.within;
      height_in_bounds = F.height;
      a_bound = small-global a.attributes a.q (spot a.pc.now a.height.now a.memory.now a.stack.now)
          pre.stack_value byte_at.result (byte_small byte_at.result byte_at.type_inv);
    }

pub returns-in-149 : goal.returns-in-149
unfolding row_of
returns-in-149 c =
    let store-two2 = c.store_two-in-149 in
    let byte_at = c.byte_at-n in
    let if1 = c.if-code-at in
    let a = c.args in
    let pre = c.requires in
    store-two-global-arm a.code.now a.attributes a.q a.pc.now a.height.now a.memory.now a.stack.now
    store-two2.result (spot store-two2.new.pc store-two2.new.height store-two2.new.memory
    a.stack.now)
    (a.pc.now + 1 + 2) if1.false byte_at.result
    (byte-form a.code.now a.pc.now both _ Double _ 0x95 _
    (behind pre.pc_value)
    (sym pre.b_value ∙ c.in-149.is) refl refl byte_at.ensures if1.false)
    store-two2.ensures

pub returns-in-150 : goal.returns-in-150
unfolding row_of
returns-in-150 c =
    let store-two-popped = c.store_two_popped in
    let byte_at = c.byte_at-n in
    let if1 = c.if-code-at in
    let a = c.args in
    let pre = c.requires in
    store-two-popped-arm a.code.now a.attributes a.q a.pc.now a.height.now a.memory.now a.stack.now
    store-two-popped.result (spot store-two-popped.new.pc store-two-popped.new.height
    store-two-popped.new.memory a.stack.now)
    (a.pc.now + 1 + 2) if1.false byte_at.result
    (byte-form a.code.now a.pc.now both _ Double _ 0x96 _
    (behind pre.pc_value)
    (sym pre.b_value ∙ c.in-150.is) refl refl byte_at.ensures if1.false)
    store-two-popped.ensures

pub store_two_popped-requires : goal.store_two_popped-requires
store_two_popped-requires c =
    let byte_at = c.byte_at-n in
    let a = c.args in
    let pre = c.requires in
    let r = reaches a.attributes a.q (spot a.pc.now a.height.now a.memory.now a.stack.now) pre.stack_value
    byte_at.result (byte_small byte_at.result byte_at.type_inv) in
    record {
      mp_in_bounds = r.0;
      height_in_bounds = r.1.0;
      offset_bound = r.1.1.0;
      calls_value = r.1.1.1.0;
      fp_in_bounds = r.1.1.1.1;
    }
