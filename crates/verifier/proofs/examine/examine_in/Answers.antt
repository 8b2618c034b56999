-- The code is examined with just its part of the workspace.
use Rattle.entries.specs.Listed.{listed}
use Rattle.verifier.proofs.Borrowing.{lends}
use Rattle.verifier.proofs.examine.examine_in.Goals as goal

pub returns : goal.returns
returns c =
    let s = c.args.subject in
    lends s.code.now (listed s.libraries) s.results.now c.args.w.now c.requires.sound s.bytes c.requires.room _ _ c.examine.ensures
