-- `report` meets its contract: a run file is malformed, asks for a stack that load takes,
-- or does not; proofs/Reporting has each case.
use Rattle.report.proofs.Reporting.{memory-fits, malformed, shallow, deep}
use mathlib.Core.Path.{◌∙◌, sym}
use native.Mathlib.Omega.{arith}
use Rattle.report.proofs.report.Goals as goal

pub returns-then-not-well_formed : goal.returns-then-not-well_formed
returns-then-not-well_formed c =
    let print-check = c.print_check in
    let if1 = c.if-not-well_formed in
    let well-formed = c.well_formed-2 in
    let a = c.args in
    malformed a.f.now a.workspace.now a.memory.now a.stack.now a.out.now
    (sym well-formed.ensures ∙ if1.true) (rw c.number.ensures at print-check.ensures)

pub run_page-requires : goal.run_page-requires
run_page-requires c =
    let if2 = c.if-stack_words-le1024 in
    let stack-words = c.stack_words in
    let if1 = c.if-not-well_formed in
    let well-formed = c.well_formed-2 in
    let a = c.args in
    let pre = c.requires in
    record {
      f_bound = memory-fits a.f.now (sym well-formed.ensures ∙ if1.false);
      f_bound_2 = omega (arith, stack-words.ensures, if2.true);
      memory_len = pre.memory_len;
      stack_len = pre.stack_len;
    }

pub returns-then-stack_words-le1024 : goal.returns-then-stack_words-le1024
returns-then-stack_words-le1024 c =
    let run-page = c.run_page in
    let if2 = c.if-stack_words-le1024 in
    let stack-words = c.stack_words in
    let if1 = c.if-not-well_formed in
    let well-formed = c.well_formed-2 in
    let a = c.args in
    run-page.ensures ∙ shallow a.f.now a.workspace.now a.memory.now a.stack.now a.out.now
    (sym well-formed.ensures ∙ if1.false)
    (omega (arith, stack-words.ensures, if2.true))

pub returns : goal.returns
returns c =
    let print-check2 = c.print_check-2 in
    let shown = c.number-2 in
    let check = c.check-checked in
    let results-of = c.results_of-results in
    let record_of = c.record_of-r in
    let if2 = c.if-stack_words-le1024 in
    let stack-words = c.stack_words in
    let if1 = c.if-not-well_formed in
    let well-formed = c.well_formed-2 in
    let a = c.args in
    deep a.f.now a.workspace.now a.memory.now a.stack.now a.out.now shown.result
    (sym well-formed.ensures ∙ if1.false)
    (omega (arith, stack-words.ensures, if2.false)) record_of.ensures results-of.ensures check.ensures
    (shown.ensures ∙ c.or_room.ensures) print-check2.ensures
