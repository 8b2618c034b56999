-- `fast_loop::fast_steps` meets its contract: the inner loop's steps, and then one that changes frames, turn by turn.
use mathlib.Core.Path.{refl}
use native.Mathlib.Omega.{arith}
use Rattle.registers.specs.Modules.{modules_in}
use Rattle.registers.specs.State.{state}
use Rattle.fast_frames.specs.Frames.{framed}
use Rattle.fast_loop.proofs.Stepping.{Reaching, program_in, reaching-start, reaching-same, reaching-bounded}
use Rattle.fast_loop.proofs.Stepping.{reaching-next, inner-ready, reaching-words, reaching-data}
use Rattle.fast_loop.proofs.fast_steps.Goals.{After-data_steps-left, Left-loop-left}
use Rattle.fast_loop.proofs.fast_steps.Goals.{else-loop-left-test, then-loop-left-test+then-left-eq0, then-left-eq0-via-then-left-eq0}
use Rattle.fast_loop.proofs.fast_steps.Goals.{then-left-eq0-via-else-left-eq0+then-not-frame_step}
use Rattle.fast_loop.proofs.fast_steps.Goals as goal

-- What the inner loop reached.
made : (c : After-data_steps-left)
    → let a = c.args in
    let loop = c.loop-left in
    let d = c.data_steps-left in
    Reaching (program_in a.table.now a.copy.now a.code.now a.attributes)
    (state a.q a.memory.now a.stack.now) a.budget d.result
    (framed d.new.pc loop.fp loop.mp a.q.gp d.new.height
    loop.calls
    d.new.memory d.new.stack)
made c =
    let a = c.args in
    let loop = c.loop-left in
    let d = c.data_steps-left in
    reaching-data (program_in a.table.now a.copy.now a.code.now a.attributes)
    (state a.q a.memory.now a.stack.now) a.budget
    loop.left loop.pc loop.fp loop.mp
    a.q.gp loop.height loop.calls loop.memory loop.stack
    c.reached_at-here.result.registers
    c.reached_at-here.ensures.1
    loop.invariant.1 d.result d.new.pc d.new.height
    d.new.memory
    d.new.stack
    d.ensures d.auto.memory d.auto.stack

pub loop-left-init : goal.loop-left-init
loop-left-init c =
    let entry-count = c.entry_count-count in
    let a = c.args in
    let pre = c.requires in (
      entry-count.ensures,
      reaching-start (program_in a.table.now a.copy.now a.code.now a.attributes)
          (state a.q a.memory.now a.stack.now) a.budget pre.ready (omega arith),
    )

pub reached_at-here-requires : goal.reached_at-here-requires
reached_at-here-requires c =
    let loop = c.loop-left in
    let a = c.args in
    let fits = c.ranges in
    let r = reaching-words (program_in a.table.now a.copy.now a.code.now a.attributes)
    (state a.q a.memory.now a.stack.now) a.budget loop.left
    (framed loop.pc loop.fp loop.mp a.q.gp loop.height loop.calls
    loop.memory loop.stack) loop.invariant.1 fits.budget.fits in
    record {
      left_bound = r.0;
      pc_bound = r.1.0;
      fp_bound = r.1.1.0;
      mp_bound = r.1.1.1.0;
      gp_bound = r.1.1.1.1.0;
      height_bound = r.1.1.1.1.1.0;
      calls_bound = r.1.1.1.1.1.1;
    }

pub data_steps-left-requires : goal.data_steps-left-requires
data_steps-left-requires c =
    let reached-at = c.reached_at-here in
    let loop = c.loop-left in
    let a = c.args in
    let pre = c.requires in record {
      code_len_bound = pre.code_len_bound;
      pc_bound = loop.invariant.1.small;
      ready = inner-ready (program_in a.table.now a.copy.now a.code.now a.attributes)
          (state a.q a.memory.now a.stack.now) a.budget loop.left loop.pc loop.fp loop.mp
          a.q.gp loop.height
          loop.calls loop.memory loop.stack reached-at.result.registers reached-at.ensures.1
          loop.invariant.1;
    }

pub frame_step-requires : goal.frame_step-requires
frame_step-requires c =
    let loop = c.loop-left in
    let pre = c.requires in
    let r = made (goal.at.frame_step-requires c).After-data_steps-left in
    record {
      code_len_bound = pre.code_len_bound;
      count_value = loop.invariant.0;
      stack_value = reaching-bounded _ _ _ _ _ r;
    }

pub loop-left-smaller : goal.loop-left-smaller
loop-left-smaller c =
    let if1 = c.if-left-eq0 in
    let data-steps = c.data_steps-left in
    omega (arith, if1.false, data-steps.ensures.1.most)

pub loop-left-preserved : goal.loop-left-preserved
loop-left-preserved c =
    let if2 = c.if-not-frame_step in
    let frame_step = c.frame_step in
    let if1 = c.if-left-eq0 in
    let data-steps = c.data_steps-left in
    let loop = c.loop-left in
    let a = c.args in
    let pre = c.requires in (
      loop.invariant.0,
      reaching-next (program_in a.table.now a.copy.now a.code.now a.attributes)
          (state a.q a.memory.now a.stack.now) a.budget data-steps.result
          (framed data-steps.new.pc loop.fp loop.mp a.q.gp
          data-steps.new.height loop.calls
          data-steps.new.memory data-steps.new.stack)
          (made (goal.at.loop-left-preserved c).After-data_steps-left) if1.false pre.code_len_bound
          (framed frame_step.new.pc frame_step.new.fp
          frame_step.new.mp a.q.gp frame_step.new.height
          frame_step.new.calls
          frame_step.new.memory frame_step.new.stack)
          refl (rw (if2.false) at
          (frame_step.ensures (modules_in a.table.now a.copy.now)))
          frame_step.auto.memory frame_step.auto.stack,
    )

-- What the loop leaves: at its test, behind the inner loop, or where no frame changes.
left-at : (c : Left-loop-left)
    → let a = c.args in
    let l = c.loop-left-test in
    Reaching (program_in a.table.now a.copy.now a.code.now a.attributes) (state a.q a.memory.now a.stack.now) a.budget l.left
    (framed l.pc l.fp l.mp a.q.gp l.height l.calls l.memory l.stack)
left-at c =
    let a = c.args in
    let loop = c.loop-left in
    let P = program_in a.table.now a.copy.now a.code.now a.attributes in
    let S = state a.q a.memory.now a.stack.now in
    elim c.loop-left-test.branch [
      | else-loop-left-test w ↦
          rw (w.left-is, w.pc-is, w.fp-is, w.mp-is, w.height-is, w.calls-is, w.memory-is, w.stack-is) loop.invariant.1
      | then-loop-left-test+then-left-eq0 w ↦
          let d = w.data_steps-left in
          let r =
          reaching-data P S a.budget loop.left loop.pc loop.fp loop.mp a.q.gp loop.height loop.calls loop.memory loop.stack
          w.reached_at-here.result.registers w.reached_at-here.ensures.1 loop.invariant.1 d.result d.new.pc d.new.height
          d.new.memory d.new.stack d.ensures d.auto.memory d.auto.stack in
          rw (w.left-is, w.pc-is, w.fp-is, w.mp-is, w.height-is, w.calls-is, w.memory-is, w.stack-is)
          (elim w.then-left-eq0.branch [
            | then-left-eq0-via-then-left-eq0 v ↦
                rw (v.pc-is, v.fp-is, v.mp-is, v.height-is, v.calls-is, v.memory-is, v.stack-is) r
            | then-left-eq0-via-else-left-eq0+then-not-frame_step v ↦
                let f = v.frame_step in
                rw (v.pc-is, v.fp-is, v.mp-is, v.height-is, v.calls-is, v.memory-is, v.stack-is)
                (reaching-same P S a.budget d.result
                (framed d.new.pc loop.fp loop.mp a.q.gp d.new.height loop.calls d.new.memory d.new.stack) r
                (framed f.new.pc f.new.fp f.new.mp a.q.gp f.new.height f.new.calls f.new.memory f.new.stack)
                (rw v.if-not-frame_step.true at (f.ensures (modules_in a.table.now a.copy.now))))
          ])
    ]

pub reached_at-requires : goal.reached_at-requires
reached_at-requires c =
    let r = reaching-words _ _ _ _ _ (left-at c) c.ranges.budget.fits in
    record {
      left_bound = r.0;
      pc_bound = r.1.0;
      fp_bound = r.1.1.0;
      mp_bound = r.1.1.1.0;
      gp_bound = r.1.1.1.1.0;
      height_bound = r.1.1.1.1.1.0;
      calls_bound = r.1.1.1.1.1.1;
    }

pub returns : goal.returns
returns c =
    rw (c.reached_at.ensures.0, c.reached_at.ensures.1) (left-at (goal.at.returns c).Left-loop-left).ahead
