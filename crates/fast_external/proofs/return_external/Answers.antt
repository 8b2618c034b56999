-- `fast_external::return_external` meets its contract: a call is active, and GP goes back to some module's first global.
use mathlib.Core.Path.{◌≡◌, ◌∙◌}
use Prim.Native.Nat.{◌<◌, ◌/◌}
use native.Mathlib.Omega.{arith}
use lib.ListN.{length}
use Rattle.registers.specs.Modules.{modules_in, module_at, number_at}
use Rattle.registers.specs.Program.{program}
use Rattle.registers.specs.State.{state}
use Rattle.registers.specs.Changes.{returned as back}
use Rattle.registers.proofs.Rows.{modules-length, module-row}
use Rattle.registers.proofs.Bases.{base-below}
use Rattle.control.proofs.Laws.{framed}
use Rattle.step.proofs.Running.{ready-bounds}
use Rattle.fast_external.proofs.Going.{returned-base, return-done}
use Rattle.fast_external.proofs.return_external.Goals.{After-number_at-k, After-part-part}
use Rattle.fast_external.proofs.return_external.Goals as goal

below : (c : After-number_at-k) →
    let a = c.args in
    let Ms = modules_in a.table.now a.copy.now in
    (c.number_at-k.result ≡ number_at Ms (back a.q a.memory.now).gp) × (c.number_at-k.result < length a.table.now / 5)
below c =
    let a = c.args in
    let Ms = modules_in a.table.now a.copy.now in
    let P = program a.code.now a.attributes Ms in
    let S = state a.q a.memory.now a.stack.now in
    let base = returned-base P S c.requires.ready c.if-q-eq0.false in
    let is : c.number_at-k.result ≡ number_at Ms (back a.q a.memory.now).gp =
    c.number_at-k.ensures a.copy.now ∙ rw c.returned-registers.ensures in (
      is,
      omega (arith, is, base-below Ms (back a.q a.memory.now).gp base, modules-length a.table.now a.copy.now),
    )

code_is : (c : After-part-part) → (let a = c.args in let Ms = modules_in a.table.now a.copy.now in
    (c.number_at-k.result ≡ number_at Ms (back a.q a.memory.now).gp) × (c.number_at-k.result < length a.table.now / 5)) →
    let a = c.args in
    let Ms = modules_in a.table.now a.copy.now in
    c.part-part.result.now ≡ (module_at Ms (number_at Ms (back a.q a.memory.now).gp)).code
code_is c has-below =
    let a = c.args in
    rw (
      ← (has-below).0,
      module-row a.table.now a.copy.now c.number_at-k.result (has-below).1,
      ← c.row_word.ensures.0,
      ← c.row_word-2.ensures.0,
    ) c.part-part.ensures

pub returned-registers-requires : goal.returned-registers-requires
returned-registers-requires c =
    let if1 = c.if-q-eq0 in
    let a = c.args in
    let pre = c.requires in
    let P = program a.code.now a.attributes (modules_in a.table.now a.copy.now) in
    let S = state a.q a.memory.now a.stack.now in
    let F = ready-bounds P S pre.ready in
    record {
      fp_bound = framed a.memory.now a.attributes.frames a.q.fp a.q.calls F.links if1.false;
      le_calls = omega (arith, if1.false);
    }

pub row_word-requires : goal.row_word-requires
row_word-requires c =
    let pre = c.requires in
    record {
      k_bound = omega (arith, (below (goal.at.row_word-requires c).After-number_at-k).1, pre.table_len_bound);
      i_bound = omega arith;
    }

pub row_word-requires-2 : goal.row_word-requires-2
row_word-requires-2 c =
    let pre = c.requires in
    record {
      k_bound = omega (arith, (below (goal.at.row_word-requires-2 c).After-number_at-k).1, pre.table_len_bound);
      i_bound = omega arith;
    }

pub returns : goal.returns
returns c =
    let if2 = c.if-part-registers in
    let part = c.part-part in
    let returned = c.returned-registers in
    let if1 = c.if-q-eq0 in
    let a = c.args in
    let pre = c.requires in
    let P = program a.code.now a.attributes (modules_in a.table.now a.copy.now) in
    let S = state a.q a.memory.now a.stack.now in
    rw returned.ensures
    (return-done P S pre.ready a.next pre.decodes if1.false part.result.now (code_is (goal.at.returns c).After-part-part
    (below (goal.at.returns c).After-number_at-k))
    (rw returned.ensures at if2.false))
