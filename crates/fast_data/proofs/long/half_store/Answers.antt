-- `fast_data::long::half_store` meets its contract: its operand is a halfword.
use mathlib.Core.Path.{refl}
use Prim.Native.Nat.{◌+◌}
use Rattle.words.specs.Bytes.{halfword_at}
use Rattle.opcode.specs.Table.{both, row_of}
use Rattle.opcode.specs.declared.instruction.Mode.TheVariants.{Normal}
use Rattle.fast.specs.Fast.{spot}
use Rattle.fast_double.proofs.Forms.{started, half-form}
use Rattle.fast_double.proofs.Arms.{reaches}
use Rattle.fast_data.proofs.Arms.{store-popped-arm}
use Rattle.fast_data.proofs.long.half_store.Goals as goal

pub returns : goal.returns
unfolding row_of halfword_at
returns c =
    let store-popped = c.store_popped in
    let pair = c.pair-n in
    let if1 = c.if-code-here in
    let a = c.args in
    let pre = c.requires in
    store-popped-arm a.code.now a.attributes a.q a.pc.now a.height.now a.memory.now a.stack.now
    store-popped.result
    (spot store-popped.new.pc store-popped.new.height store-popped.new.memory
    a.stack.now)
    (a.pc.now + 3) if1.false pair.result
    (half-form a.code.now a.pc.now both _ Normal _ 0x97 _
    (started a.code.now a.pc.now 0x97 pre.pc_value refl)
    pre.pc_value refl refl pair.ensures if1.false)
    store-popped.ensures

pub store_popped-requires : goal.store_popped-requires
store_popped-requires c =
    let pair = c.pair-n in
    let a = c.args in
    let pre = c.requires in
    let r = reaches a.attributes a.q (spot a.pc.now a.height.now a.memory.now a.stack.now) pre.stack_value
    pair.result pair.type_inv in
    record {
      mp_in_bounds = r.0;
      height_in_bounds = r.1.0;
      offset_bound = r.1.1.0;
      calls_value = r.1.1.1.0;
      fp_in_bounds = r.1.1.1.1;
    }
