-- `load::set_start` meets its contract: the main module's code is at the front of the copy.
use mathlib.Core.List.{[]}
use mathlib.Core.Path.{sym, ap}
use native.Mathlib.Omega.{arith}
use lib.ListN.{length}
use Rattle.module_set.specs.Members.{members_of}
use Rattle.registers.specs.Program.{program_at}
use Rattle.load.specs.Modules.{modules_of}
use Rattle.load.proofs.Loading.{main_code, main-base}
use Rattle.load.proofs.set_start.Goals as goal

pub start_of-requires : goal.start_of-requires
start_of-requires c =
    let frames-start = c.frames_start-start in
    let pre = c.requires in
    omega (arith, frames-start.ensures [], pre.by_index_2 [])

pub returns : goal.returns
returns c =
    let start_of_lem = c.start_of in
    let part = c.part in
    let code_of_lem = c.code_of-code in
    let record_of = c.record_of in
    let frames-start = c.frames_start-start in
    let a = c.args in
    let pre = c.requires in
    λ lists.
    let S = members_of a.records.now lists a.directory.now in
    start_of_lem.ensures (program_at (modules_of S) 0)
    (main_code S (pre.by_index lists) record_of.result.now (record_of.ensures lists) a.copy.now part.result.now _
    (pre.by_index_3 lists) (ap length code_of_lem.ensures) part.ensures)
    (main-base (modules_of S)) (sym (frames-start.ensures lists))
