-- `fast_data::long::swap_step` meets its contract: SWAP has no operand.
use mathlib.Core.Path.{refl}
use native.Mathlib.Omega.{arith}
use Prim.Native.Nat.{◌+◌}
use Rattle.operand.specs.Operand.{none}
use Rattle.opcode.specs.Table.{normal, row_of}
use Rattle.opcode.specs.declared.instruction.Mode.TheVariants.{Normal}
use Rattle.state.proofs.Fitting.{fitting}
use Rattle.fast.specs.Fast.{spot, state_at}
use Rattle.fast_double.proofs.Forms.{started, long-form}
use Rattle.fast_data.proofs.Arms.{swap-arm}
use Rattle.fast_data.proofs.long.swap_step.Goals as goal

pub swap-requires : goal.swap-requires
swap-requires c =
    let a = c.args in
    let pre = c.requires in
    (fitting a.attributes (state_at a.q (spot a.pc.now a.height.now a.memory.now a.stack.now)) pre.stack_value
    ).height

pub returns : goal.returns
unfolding row_of
returns c =
    let swap = c.swap in
    let a = c.args in
    let pre = c.requires in
    swap-arm a.code.now a.attributes a.q a.pc.now a.height.now a.memory.now a.stack.now
    swap.result (spot swap.new.pc swap.new.height a.memory.now swap.new.stack)
    (a.pc.now + 1) pre.pc_in_bounds
    (long-form a.code.now a.pc.now none normal _ Normal _ _ 0x9F _
    (started a.code.now a.pc.now 0x9F pre.pc_value refl)
    pre.pc_value refl refl refl
    (omega arith) (omega arith) (omega (arith, pre.pc_in_bounds)))
    (swap.ensures a.memory.now)
