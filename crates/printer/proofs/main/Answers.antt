-- The printer is safe and ends: what `page_of` answers are bytes of the buffer.
use native.Mathlib.Omega.{arith}
use Rattle.std.proofs.Common.{length-take}
use Rattle.printer.proofs.Answers.{printed-within}
use Rattle.printer.proofs.main.Goals as goal

pub slice_bounds-page-end : goal.slice_bounds-page-end
slice_bounds-page-end c =
    omega (arith, c.page_of-written.auto.page, printed-within _ _ c.page_of-written.ensures.page_after)

pub slice_bounds-write_all-end : goal.slice_bounds-write_all-end
slice_bounds-write_all-end c =
    let h = printed-within _ _ c.page_of-written.ensures.page_after in
    omega (arith, c.page_of-written.auto.page, h, length-take c.page_of-written.result c.page_of-written.new.page)
