-- `decode` meets its contract: the first byte, a prefix, and the instruction in its mode.
use Prim.Native.Nat.{◌+◌}
use borrow.Author.Tests.{eq-eqb, ne_eqb, lt-ltb, le-ltb}
use Rattle.opcode.specs.Decode.{decode_at}
use Rattle.opcode.proofs.decode.Goals as goal

pub returns-then-limit-at : goal.returns-then-limit-at
unfolding decode_at
returns-then-limit-at c = rw (le-ltb c.args.at c.args.limit c.if-limit-at.true)

pub returns-then-byte_at : goal.returns-then-byte_at
unfolding decode_at
returns-then-byte_at c =
    let a = c.args in
    let byte_at = c.byte_at in
    rw (
      lt-ltb a.at a.limit c.if-limit-at.false,
      ← byte_at.ensures,
      ne_eqb byte_at.result 0xF5 c.if-byte_at.true,
      c.decode_in.ensures,
    )

pub returns-then-limit-at-2 : goal.returns-then-limit-at-2
unfolding decode_at
returns-then-limit-at-2 c =
    let a = c.args in
    let byte_at = c.byte_at in
    rw (
      lt-ltb a.at a.limit c.if-limit-at.false,
      ← byte_at.ensures,
      eq-eqb byte_at.result 0xF5 c.if-byte_at.false,
      le-ltb (a.at + 1) a.limit c.if-limit-at-2.true,
    )

pub returns : goal.returns
unfolding decode_at
returns c =
    let a = c.args in
    let b = c.byte_at in
    rw (
      lt-ltb a.at a.limit c.if-limit-at.false,
      ← b.ensures,
      eq-eqb b.result 0xF5 c.if-byte_at.false,
      lt-ltb (a.at + 1) a.limit c.if-limit-at-2.false,
      c.decode_in-2.ensures,
    )
