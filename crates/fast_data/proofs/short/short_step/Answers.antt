-- `fast_data::short::short_step` meets its contract: each arm is its instruction's step.
use mathlib.Core.Path.{refl}
use native.Mathlib.Omega.{arith}
use Prim.Native.Nat.{◌+◌, ◌%◌}
use Rattle.opcode.specs.Table.{normal, both}
use Rattle.opcode.specs.declared.instruction.Mode.TheVariants.{Normal}
use Rattle.state.proofs.Fitting.{fitting}
use Rattle.fast.specs.Fast.{spot, state_at}
use Rattle.fast_double.proofs.Forms.{at_once, short-form}
use Rattle.fast.proofs.Small.{digit-small}
use Rattle.fast_data.proofs.Arms.{constant-arm, load-global-arm, load-local-arm, load-popped-arm, store-global-arm}
use Rattle.fast_data.proofs.Arms.{store-local-arm, store-popped-arm}
use Rattle.fast_double.proofs.Arms.{reaches}
use Rattle.fast_data.proofs.short.short_step.Goals as goal

pub returns-in-0 : goal.returns-in-0
returns-in-0 c =
    let push = c.push in
    let a = c.args in
    let pre = c.requires in
    constant-arm a.code.now a.attributes a.q a.pc.now a.height.now a.memory.now a.stack.now
    push.result (spot push.new.pc push.new.height a.memory.now push.new.stack)
    (a.pc.now + 1) pre.pc_in_bounds (a.b % 16)
    (short-form a.code.now a.pc.now normal _ Normal _ a.b 0 (at_once (λ z. omega (arith, pre.b_value, pre.b_bound)))
    pre.b_value pre.b_bound c.in-0.is refl refl pre.pc_in_bounds)
    (push.ensures a.memory.now)

pub load-requires : goal.load-requires
load-requires c =
    let a = c.args in
    let pre = c.requires in
    (fitting a.attributes (state_at a.q (spot a.pc.now a.height.now a.memory.now a.stack.now))
    pre.stack_value).within

pub returns-in-1 : goal.returns-in-1
returns-in-1 c =
    let load = c.load in
    let a = c.args in
    let pre = c.requires in
    load-local-arm a.code.now a.attributes a.q a.pc.now a.height.now a.memory.now a.stack.now
    load.result (spot load.new.pc load.new.height a.memory.now load.new.stack)
    (a.pc.now + 1) pre.pc_in_bounds (a.b % 16)
    (short-form a.code.now a.pc.now both _ Normal _ a.b 1 (at_once (λ z. omega (arith, pre.b_value, pre.b_bound)))
    pre.b_value pre.b_bound c.in-1.is refl refl pre.pc_in_bounds)
    load.ensures

pub load-requires-in-2 : goal.load-requires-in-2
load-requires-in-2 c =
    let a = c.args in
    let pre = c.requires in
    (fitting a.attributes (state_at a.q (spot a.pc.now a.height.now a.memory.now a.stack.now))
    pre.stack_value).within

pub returns-in-2 : goal.returns-in-2
returns-in-2 c =
    let load2 = c.load-in-2 in
    let a = c.args in
    let pre = c.requires in
    load-global-arm a.code.now a.attributes a.q a.pc.now a.height.now a.memory.now a.stack.now
    load2.result (spot load2.new.pc load2.new.height a.memory.now load2.new.stack)
    (a.pc.now + 1) pre.pc_in_bounds (a.b % 16)
    (short-form a.code.now a.pc.now both _ Normal _ a.b 2 (at_once (λ z. omega (arith, pre.b_value, pre.b_bound)))
    pre.b_value pre.b_bound c.in-2.is refl refl pre.pc_in_bounds)
    load2.ensures

pub load_popped-requires : goal.load_popped-requires
load_popped-requires c =
    let a = c.args in
    let pre = c.requires in
    let F = fitting a.attributes (state_at a.q (spot a.pc.now a.height.now a.memory.now a.stack.now))
    pre.stack_value in
    record {
      mp_in_bounds = F.within;
      height_in_bounds = F.height;
      offset_bound = (digit-small a.b);
    }

pub returns-in-3 : goal.returns-in-3
returns-in-3 c =
    let load-popped = c.load_popped in
    let a = c.args in
    let pre = c.requires in
    load-popped-arm a.code.now a.attributes a.q a.pc.now a.height.now a.memory.now a.stack.now
    load-popped.result (spot load-popped.new.pc load-popped.new.height a.memory.now
    load-popped.new.stack)
    (a.pc.now + 1) pre.pc_in_bounds (a.b % 16)
    (short-form a.code.now a.pc.now both _ Normal _ a.b 3 (at_once (λ z. omega (arith, pre.b_value, pre.b_bound)))
    pre.b_value pre.b_bound c.in-3.is refl refl pre.pc_in_bounds)
    load-popped.ensures

pub store-requires : goal.store-requires
store-requires c =
    let a = c.args in
    let pre = c.requires in
    let F = fitting a.attributes (state_at a.q (spot a.pc.now a.height.now a.memory.now a.stack.now))
    pre.stack_value in
    record {
      mp_in_bounds = F.within;
      height_in_bounds = F.height;
    }

pub returns-in-4 : goal.returns-in-4
returns-in-4 c =
    let store = c.store in
    let a = c.args in
    let pre = c.requires in
    store-local-arm a.code.now a.attributes a.q a.pc.now a.height.now a.memory.now a.stack.now
    store.result (spot store.new.pc store.new.height store.new.memory a.stack.now)
    (a.pc.now + 1) pre.pc_in_bounds (a.b % 16)
    (short-form a.code.now a.pc.now both _ Normal _ a.b 4 (at_once (λ z. omega (arith, pre.b_value, pre.b_bound)))
    pre.b_value pre.b_bound c.in-4.is refl refl pre.pc_in_bounds)
    store.ensures

pub store-requires-in-5 : goal.store-requires-in-5
store-requires-in-5 c =
    let a = c.args in
    let pre = c.requires in
    let F = fitting a.attributes (state_at a.q (spot a.pc.now a.height.now a.memory.now a.stack.now))
    pre.stack_value in
    record {
      mp_in_bounds = F.within;
      height_in_bounds = F.height;
    }

pub returns-in-5 : goal.returns-in-5
returns-in-5 c =
    let store2 = c.store-in-5 in
    let a = c.args in
    let pre = c.requires in
    store-global-arm a.code.now a.attributes a.q a.pc.now a.height.now a.memory.now a.stack.now
    store2.result (spot store2.new.pc store2.new.height store2.new.memory a.stack.now)
    (a.pc.now + 1) pre.pc_in_bounds (a.b % 16)
    (short-form a.code.now a.pc.now both _ Normal _ a.b 5 (at_once (λ z. omega (arith, pre.b_value, pre.b_bound)))
    pre.b_value pre.b_bound c.in-5.is refl refl pre.pc_in_bounds)
    store2.ensures

pub returns-in-6 : goal.returns-in-6
returns-in-6 c =
    let store-popped = c.store_popped in
    let a = c.args in
    let pre = c.requires in
    store-popped-arm a.code.now a.attributes a.q a.pc.now a.height.now a.memory.now a.stack.now
    store-popped.result
    (spot store-popped.new.pc store-popped.new.height store-popped.new.memory
    a.stack.now)
    (a.pc.now + 1) pre.pc_in_bounds (a.b % 16)
    (short-form a.code.now a.pc.now both _ Normal _ a.b 6 (at_once (λ z. omega (arith, pre.b_value, pre.b_bound)))
    pre.b_value pre.b_bound c.in-6.is refl refl pre.pc_in_bounds)
    store-popped.ensures

pub store_popped-requires : goal.store_popped-requires
store_popped-requires c =
    let a = c.args in
    let pre = c.requires in
    let r = reaches a.attributes a.q (spot a.pc.now a.height.now a.memory.now a.stack.now) pre.stack_value
    (a.b % 16) (digit-small a.b) in
    record {
      mp_in_bounds = r.0;
      height_in_bounds = r.1.0;
      offset_bound = r.1.1.0;
      calls_value = r.1.1.1.0;
      fp_in_bounds = r.1.1.1.1;
    }
