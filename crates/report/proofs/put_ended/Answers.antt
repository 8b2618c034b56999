-- `put_ended` meets its contract: line after line, none of them long.
use mathlib.Core.Path.{◌≡◌}
use native.Mathlib.Omega.{arith}
use lib.ListN.{take, drop}
use Rattle.text.specs.Text.{Wrote, end_line}
use Rattle.report.proofs.Pages.{check-ends, end-ends, list-ends, part-short, ended-page}
use Rattle.report.proofs.put_ended.Goals.{After-part, After-part-2, After-put_end-stack_at}
use Rattle.report.proofs.put_ended.Goals as goal

pub put_end-stack_at-requires : goal.put_end-stack_at-requires
put_end-stack_at-requires c = let z = check-ends 0 c.put_check-end_at.ensures in omega arith

-- The line of the end, the words of the stack and the globals, as the page has them.
end-told : (c : After-put_end-stack_at) →
    let e = c.args.e in
    let line = end_line c.end_number-ending.result e.registers.pc c.line_at-line.result e.steps in
    Wrote c.put_check-end_at.new.out c.put_check-end_at.result line c.put_end-stack_at.result c.put_end-stack_at.new.out
end-told c = c.put_end-stack_at.ensures

stack-told : (c : After-part) →
    let a = c.args in
    c.part.result.now ≡ take a.e.registers.height (drop 0 a.stack.now)
stack-told c = c.part.ensures

globals-told : (c : After-part-2) →
    let a = c.args in
    c.part-2.result.now ≡ take c.header_of-h.result.globals (drop 3 a.memory.now)
globals-told c = c.part-2.ensures

pub put_list-globals_at-requires : goal.put_list-globals_at-requires
put_list-globals_at-requires c =
    let put-check = c.put_check-end_at in
    let line_at_lem = c.line_at-line in
    let end-number = c.end_number-ending in
    let a = c.args in
    let pre = c.requires in
    let z = end-ends end-number.result a.e.registers.pc line_at_lem.result a.e.steps (end-told
    (goal.at.put_list-globals_at-requires c).After-put_end-stack_at)
    (check-ends 0 put-check.ensures) in
    record {
      at_bound = omega arith;
      xs_len_bound = part-short a.stack.now a.e.registers.height 0 (stack-told
          (goal.at.put_list-globals_at-requires c).After-part) pre.stack_len_bound;
    }

pub put_list-requires : goal.put_list-requires
put_list-requires c =
    let put-list = c.put_list-globals_at in
    let put-check = c.put_check-end_at in
    let line_at_lem = c.line_at-line in
    let end-number = c.end_number-ending in
    let header_of = c.header_of-h in
    let a = c.args in
    let pre = c.requires in
    let z = end-ends end-number.result a.e.registers.pc line_at_lem.result a.e.steps (end-told
    (goal.at.put_list-requires c).After-put_end-stack_at)
    (check-ends 0 put-check.ensures) in
    let y = list-ends 115 c.part.result.now put-list.ensures z
    (part-short a.stack.now a.e.registers.height 0 (stack-told (goal.at.put_list-requires c).After-part) pre.stack_len_bound) in
    record {
      at_bound = y;
      xs_len_bound = part-short a.memory.now header_of.result.globals 3 (globals-told
          (goal.at.put_list-requires c).After-part-2) pre.memory_len_bound;
    }

pub returns : goal.returns
returns c =
    let put-list2 = c.put_list in
    let put-list = c.put_list-globals_at in
    let put-check = c.put_check-end_at in
    let line_at_lem = c.line_at-line in
    let end-number = c.end_number-ending in
    let header_of = c.header_of-h in
    let a = c.args in
    ended-page a.r.now a.e a.memory.now a.stack.now header_of.ensures end-number.ensures
    line_at_lem.ensures (stack-told (goal.at.returns c).After-part) (globals-told
    (goal.at.returns c).After-part-2) put-check.ensures (end-told (goal.at.returns c).After-put_end-stack_at)
    put-list.ensures put-list2.ensures
