-- `marks::mark_region` meets its contract: each turn marks one instruction, and what is left decides. The measure is the turns
-- left.
use mathlib.Core.Bool.{cond}
use mathlib.Core.List.{List}
use mathlib.Core.Path.{◌≡◌, ◌∙◌, sym}
use Prim.Native.Nat.{ℕ, ◌+◌}
use lib.ListN.{length, set}
use Rattle.relocation.proofs.Walking.{Region, region-next}
use Rattle.relocation.proofs.marks.mark_region.Goals.{Joined-is_external}
use Rattle.relocation.proofs.marks.mark_region.Goals.{then-is_external, else-is_external}
use Rattle.relocation.proofs.marks.mark_region.Goals as goal

-- The instruction is passed, its library byte marked where it has one.
passed : (c : Joined-is_external) (m : List ℕ) →
    m ≡ cond c.is_external.result (set c.loop.marks (c.loop.at + 1) 1) c.loop.marks → length m ≡ length c.loop.marks →
    Region c.args.code.now c.args.p c.args.marks.now m c.in-Ok.next (c.loop.counter + 1)
passed c m s long =
    region-next c.loop.invariant c.region_end-limit.result c.region_end-limit.ensures c.loop-test.true _ _ c.is_external.result m
    c.if-limit-at.false (sym c.decode.ensures ∙ c.in-Ok.is) c.is_external.ensures s long

pub loop-preserved : goal.loop-preserved
loop-preserved c =
    let m = c.if-is_external.marks in
    let long = c.if-is_external.auto.marks in
    elim c.if-is_external.branch [
      | then-is_external w ↦ passed c m (rw w.if-is_external.true (w.marks-is ∙ w.set_byte.ensures)) long
      | else-is_external w ↦ passed c m (rw w.if-is_external.false w.marks-is) long
    ]
