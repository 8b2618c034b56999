-- `decode_in` meets its contract: first the code and the mode, then the limit. A code with a length is not 70.
use Prim.Native.Nat.{◌+◌}
use mathlib.Core.Path.{◌∙◌}
use native.Mathlib.Omega.{arith}
use borrow.Author.Tests.{eq-eqb, ne_eqb, le-leb, lt-leb}
use Rattle.opcode.specs.Decode.{decode_in}
use Rattle.opcode.specs.Length.{length_in}
use Rattle.opcode.specs.Table.{row_of}
use Rattle.opcode.proofs.decode_in.Goals as goal

pub returns-then-length-eq0 : goal.returns-then-length-eq0
unfolding decode_in
returns-then-length-eq0 c = rw (← c.length_in-length.ensures, eq-eqb c.length_in-length.result 0 c.if-length-eq0.true)

pub returns-then-limit-at : goal.returns-then-limit-at
unfolding decode_in
returns-then-limit-at c =
    let a = c.args in
    let length-in = c.length_in-length in
    rw (
      ← length-in.ensures,
      ne_eqb length-in.result 0 c.if-length-eq0.false,
      lt-leb (a.at + length-in.result) a.limit (omega arith),
    )

pub instruction_at-requires : goal.instruction_at-requires
unfolding length_in row_of
instruction_at-requires c = λ e. c.if-length-eq0.false (c.length_in-length.ensures ∙ rw e)

pub returns : goal.returns
unfolding decode_in
returns c =
    let a = c.args in
    let length-in = c.length_in-length in
    rw (
      ← length-in.ensures,
      ne_eqb length-in.result 0 c.if-length-eq0.false,
      le-leb (a.at + length-in.result) a.limit (omega arith),
      c.instruction_at.ensures,
    )
