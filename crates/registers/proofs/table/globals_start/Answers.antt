-- `crate::table::globals_start` meets its contract: behind the header words of its data frame.
use mathlib.Core.Path.{◌∙◌}
use native.Mathlib.Omega.{arith}
use Rattle.registers.proofs.Rows.{rows-past}
use Rattle.registers.proofs.table.globals_start.Goals as goal

pub returns-then-k-n : goal.returns-then-k-n
returns-then-k-n c = (λ copy. rw (c.data_start.ensures.0 copy), omega (arith, c.data_start.ensures.1))

pub returns : goal.returns
returns c =
    let a = c.args in
    let if1 = c.if-k-n in (
      λ copy. rw (c.data_start-2.ensures.0 copy ∙ rows-past a.table.now copy a.k if1.false),
      omega (arith, c.data_start-2.ensures.1),
    )
