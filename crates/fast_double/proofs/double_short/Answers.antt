-- `fast_double::double_short` meets its contract: each arm is its instruction's step.
use mathlib.Core.Path.{refl}
use Prim.Native.Nat.{◌+◌, ◌%◌}
use Rattle.opcode.specs.Table.{both}
use Rattle.opcode.specs.declared.instruction.Mode.TheVariants.{Double}
use Rattle.state.proofs.Fitting.{fitting}
use Rattle.fast.specs.Fast.{spot, state_at}
use Rattle.fast_double.proofs.Forms.{behind, short-form}
use Rattle.fast.proofs.Small.{digit-small, small-global, small-local}
use Rattle.fast_double.proofs.Arms.{load-two-global-arm, load-two-local-arm, load-two-popped-arm, store-two-global-arm}
use Rattle.fast_double.proofs.Arms.{store-two-local-arm}
use Rattle.fast_double.proofs.Arms.{store-two-popped-arm}
use Rattle.fast_double.proofs.Arms.{reaches}
use Rattle.fast_double.proofs.double_short.Goals as goal

pub load_two-requires : goal.load_two-requires
load_two-requires c =
    let a = c.args in
    let pre = c.requires in
    let F = fitting a.attributes (state_at a.q (spot a.pc.now a.height.now a.memory.now a.stack.now))
    pre.stack_value in record {
      mp_in_bounds = F.within;
      a_bound = small-local a.attributes a.q (spot a.pc.now a.height.now a.memory.now a.stack.now)
          pre.stack_value (a.b % 16) (digit-small a.b);
    }

pub returns-in-1 : goal.returns-in-1
returns-in-1 c =
    let load-two = c.load_two in
    let a = c.args in
    let pre = c.requires in
    load-two-local-arm a.code.now a.attributes a.q a.pc.now a.height.now a.memory.now a.stack.now
    load-two.result (spot load-two.new.pc load-two.new.height a.memory.now load-two.new.stack)
    (a.pc.now + 1 + 1) pre.pc_in_bounds (a.b % 16)
    (short-form a.code.now a.pc.now both _ Double _ a.b 1 (behind pre.pc_value)
    pre.b_value pre.b_bound c.in-1.is refl refl pre.pc_in_bounds)
    load-two.ensures

pub load_two-requires-in-2 : goal.load_two-requires-in-2
load_two-requires-in-2 c =
    let a = c.args in
    let pre = c.requires in
    let F = fitting a.attributes (state_at a.q (spot a.pc.now a.height.now a.memory.now a.stack.now))
    pre.stack_value in record {
      mp_in_bounds = F.within;
      a_bound = small-global a.attributes a.q (spot a.pc.now a.height.now a.memory.now a.stack.now)
          pre.stack_value (a.b % 16) (digit-small a.b);
    }

pub returns-in-2 : goal.returns-in-2
returns-in-2 c =
    let load-two2 = c.load_two-in-2 in
    let a = c.args in
    let pre = c.requires in
    load-two-global-arm a.code.now a.attributes a.q a.pc.now a.height.now a.memory.now a.stack.now
    load-two2.result (spot load-two2.new.pc load-two2.new.height a.memory.now load-two2.new.stack)
    (a.pc.now + 1 + 1) pre.pc_in_bounds (a.b % 16)
    (short-form a.code.now a.pc.now both _ Double _ a.b 2 (behind pre.pc_value)
    pre.b_value pre.b_bound c.in-2.is refl refl pre.pc_in_bounds)
    load-two2.ensures

pub load_two_popped-requires : goal.load_two_popped-requires
load_two_popped-requires c =
    let a = c.args in
    let pre = c.requires in
    let F = fitting a.attributes (state_at a.q (spot a.pc.now a.height.now a.memory.now a.stack.now))
    pre.stack_value in
    record {
      mp_in_bounds = F.within;
      height_in_bounds = F.height;
      offset_bound = (digit-small a.b);
    }

pub returns-in-3 : goal.returns-in-3
returns-in-3 c =
    let load-two-popped = c.load_two_popped in
    let a = c.args in
    let pre = c.requires in
    load-two-popped-arm a.code.now a.attributes a.q a.pc.now a.height.now a.memory.now a.stack.now
    load-two-popped.result (spot load-two-popped.new.pc load-two-popped.new.height a.memory.now
    load-two-popped.new.stack)
    (a.pc.now + 1 + 1) pre.pc_in_bounds (a.b % 16)
    (short-form a.code.now a.pc.now both _ Double _ a.b 3 (behind pre.pc_value)
    pre.b_value pre.b_bound c.in-3.is refl refl pre.pc_in_bounds)
    load-two-popped.ensures

pub store_two-requires : goal.store_two-requires
store_two-requires c =
    let a = c.args in
    let pre = c.requires in
    let F = fitting a.attributes (state_at a.q (spot a.pc.now a.height.now a.memory.now a.stack.now))
    pre.stack_value in record {
      mp_in_bounds = F.within;
      height_in_bounds = F.height;
      a_bound = small-local a.attributes a.q (spot a.pc.now a.height.now a.memory.now a.stack.now)
          pre.stack_value (a.b % 16) (digit-small a.b);
    }

pub returns-in-4 : goal.returns-in-4
returns-in-4 c =
    let store_two = c.store_two in
    let a = c.args in
    let pre = c.requires in
    store-two-local-arm a.code.now a.attributes a.q a.pc.now a.height.now a.memory.now a.stack.now
    store_two.result (spot store_two.new.pc store_two.new.height store_two.new.memory
    a.stack.now)
    (a.pc.now + 1 + 1) pre.pc_in_bounds (a.b % 16)
    (short-form a.code.now a.pc.now both _ Double _ a.b 4 (behind pre.pc_value)
    pre.b_value pre.b_bound c.in-4.is refl refl pre.pc_in_bounds)
    store_two.ensures

pub store_two-requires-in-5 : goal.store_two-requires-in-5
store_two-requires-in-5 c =
    let a = c.args in
    let pre = c.requires in
    let F = fitting a.attributes (state_at a.q (spot a.pc.now a.height.now a.memory.now a.stack.now))
    pre.stack_value in record {
      mp_in_bounds = F.within;
      height_in_bounds = F.height;
      a_bound = small-global a.attributes a.q (spot a.pc.now a.height.now a.memory.now a.stack.now)
          pre.stack_value (a.b % 16) (digit-small a.b);
    }

pub returns-in-5 : goal.returns-in-5
returns-in-5 c =
    let store-two2 = c.store_two-in-5 in
    let a = c.args in
    let pre = c.requires in
    store-two-global-arm a.code.now a.attributes a.q a.pc.now a.height.now a.memory.now a.stack.now
    store-two2.result (spot store-two2.new.pc store-two2.new.height store-two2.new.memory
    a.stack.now)
    (a.pc.now + 1 + 1) pre.pc_in_bounds (a.b % 16)
    (short-form a.code.now a.pc.now both _ Double _ a.b 5 (behind pre.pc_value)
    pre.b_value pre.b_bound c.in-5.is refl refl pre.pc_in_bounds)
    store-two2.ensures

pub returns-in-6 : goal.returns-in-6
returns-in-6 c =
    let store-two-popped = c.store_two_popped in
    let a = c.args in
    let pre = c.requires in
    store-two-popped-arm a.code.now a.attributes a.q a.pc.now a.height.now a.memory.now a.stack.now
    store-two-popped.result (spot store-two-popped.new.pc store-two-popped.new.height
    store-two-popped.new.memory a.stack.now)
    (a.pc.now + 1 + 1) pre.pc_in_bounds (a.b % 16)
    (short-form a.code.now a.pc.now both _ Double _ a.b 6 (behind pre.pc_value)
    pre.b_value pre.b_bound c.in-6.is refl refl pre.pc_in_bounds)
    store-two-popped.ensures

pub store_two_popped-requires : goal.store_two_popped-requires
store_two_popped-requires c =
    let a = c.args in
    let pre = c.requires in
    let r = reaches a.attributes a.q (spot a.pc.now a.height.now a.memory.now a.stack.now) pre.stack_value
    (a.b % 16) (digit-small a.b) in
    record {
      mp_in_bounds = r.0;
      height_in_bounds = r.1.0;
      offset_bound = r.1.1.0;
      calls_value = r.1.1.1.0;
      fp_in_bounds = r.1.1.1.1;
    }
