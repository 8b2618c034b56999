-- `run_page` meets its contract: the lent parts are as long as the run file says, and what comes back stands before the rest.
use Rattle.report.proofs.Reporting.{parameters-read, count_small, widens}
use lib.ListN.{length-take}
use native.Mathlib.Omega.{arith}
use Rattle.report.proofs.run_page.Goals as goal

pub slice_bounds-parameters-end : goal.slice_bounds-parameters-end
slice_bounds-parameters-end c =
    let parameters-count = c.parameters_count-count in
    let read-parameters = c.read_parameters in
    let args = c.args in
    let a = count_small args.f.now parameters-count.ensures (λ i. (c.type_inv.f i).fits) in
    let b = read-parameters.auto.parameters in
    omega arith

pub slice_bounds-run_and_print-end : goal.slice_bounds-run_and_print-end
slice_bounds-run_and_print-end c =
    let parameters-count = c.parameters_count-count in
    let read-parameters = c.read_parameters in
    let args = c.args in
    let a = count_small args.f.now parameters-count.ensures (λ i. (c.type_inv.f i).fits) in
    let b = read-parameters.auto.parameters in
    omega (arith, length-take parameters-count.result read-parameters.new.parameters)

pub slice_bounds-run_and_print-end-3 : goal.slice_bounds-run_and_print-end-3
slice_bounds-run_and_print-end-3 c =
    let memory-words = c.memory_words-words in
    let args = c.args in
    let pre = c.requires in
    let a = pre.f_bound in
    let b = pre.memory_len in
    omega (arith, memory-words.ensures, length-take memory-words.result args.memory.now)

pub slice_bounds-run_and_print-end-5 : goal.slice_bounds-run_and_print-end-5
slice_bounds-run_and_print-end-5 c =
    let stack-words = c.stack_words-depth in
    let args = c.args in
    let pre = c.requires in
    let a = pre.f_bound_2 in
    let b = pre.stack_len in
    omega (arith, stack-words.ensures, length-take stack-words.result args.stack.now)

pub run_and_print-requires : goal.run_and_print-requires
run_and_print-requires c =
    let stack-words = c.stack_words-depth in
    let memory-words = c.memory_words-words in
    let args = c.args in
    let pre = c.requires in
    let a = pre.memory_len in
    let b = pre.stack_len in
    record {
      memory_len_bound = omega (arith, length-take memory-words.result args.memory.now);
      stack_len_bound = omega (arith, length-take stack-words.result args.stack.now);
    }

pub returns : goal.returns
returns c =
    let run-and-print = c.run_and_print in
    let stack-words = c.stack_words-depth in
    let memory-words = c.memory_words-words in
    let parameters-count = c.parameters_count-count in
    let read-parameters = c.read_parameters in
    let args = c.args in
    let a = count_small args.f.now parameters-count.ensures (λ i. (c.type_inv.f i).fits) in
    widens args.f.now args.workspace.now args.memory.now args.stack.now args.out.now
    (parameters-read args.f.now 255 read-parameters.ensures parameters-count.ensures a) memory-words.ensures
    stack-words.ensures run-and-print.ensures
