-- `run_file::record_of` meets its contract: the part behind the head, no longer than the file.
use Prim.Native.Nat.{◌+◌}
use mathlib.Core.Path.{◌∙◌}
use native.Mathlib.Omega.{arith}
use lib.ListN.{length, drop, length-drop}
use lib.Seq.{take_all}
use Rattle.run_file.specs.RunFile.{record_of}
use Rattle.run_file.proofs.record_of.Goals as goal

pub returns : goal.returns
unfolding record_of
returns c =
    let f = c.args.f.now in
    rw (← c.budget_at.ensures)
    (c.part.ensures ∙ take_all (length f) (drop (c.budget_at.result + 8) f) (simp length-drop (omega arith)))
