-- `fast_flow::switches::branch` meets its contract: the label is a word, since a halfword is small.
use mathlib.Core.Path.{refl}
use native.Mathlib.Omega.{arith}
use Rattle.fast_flow.proofs.switches.branch.Goals as goal

pub overflow_cast-stack : goal.overflow_cast-stack
overflow_cast-stack c =
    let wide-half2 = c.wide_half-2 in
    let pre = c.requires in
    record { fits = omega (arith, wide-half2.ensures.1, pre.code_len_bound, pre.pc_in_bounds) }

pub returns : goal.returns
returns c =
    let wide-half2 = c.wide_half-2 in
    let half = c.half in
    let if1 = c.if-code-place in
    let wide-half = c.wide_half in
    let pre = c.requires in
    λ m.
    rw (← half.ensures, ← wide-half2.ensures.0, ← wide-half.ensures.0)
    ((if1.false, omega (arith, wide-half2.ensures.1, pre.code_len_bound, pre.pc_in_bounds)), refl)
