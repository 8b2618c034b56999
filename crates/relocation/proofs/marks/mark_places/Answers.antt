-- `marks::mark_places` meets its contract: each turn marks a region, and what is left decides. The measure is the procedures
-- left.
use Rattle.relocation.proofs.Walking.{regions-start, regions-next}
use Rattle.relocation.proofs.marks.mark_places.Goals as goal

pub loop-p-init : goal.loop-p-init
loop-p-init c =
    let a = c.args in
    regions-start a.code.now a.marks.now

pub loop-p-preserved : goal.loop-p-preserved
loop-p-preserved c =
    let mark-region = c.mark_region in
    let loop-test = c.loop-p-test in
    let loop = c.loop-p in
    let entry-count = c.entry_count-count in
    regions-next loop.invariant _ (rw entry-count.ensures at loop-test.true) mark-region.ensures
