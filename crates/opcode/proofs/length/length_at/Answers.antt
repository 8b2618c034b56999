-- `length::length_at` meets its contract: a prefix is one byte of the instruction behind it, and its mark in the sheet tells it.
use Prim.Native.Nat.{◌+◌}
use mathlib.Core.Path.{◌≡◌}
use native.Mathlib.Omega.{arith}
use borrow.Author.Tests.{eq-eqb, ne_eqb}
use Rattle.opcode.proofs.Formats.{not-prefix, is-prefix, double-short}
use Rattle.opcode.proofs.Present.{byte-present}
use Rattle.words.specs.Bytes.{byte_at}
use Rattle.opcode.specs.Codes.{double_code}
use Rattle.opcode.specs.Sheet.{sheet_of}
use Rattle.opcode.specs.Length.{length_at}
use Rattle.opcode.proofs.length.length_at.Goals.{After-format_of-format, Else-format-lt32768}
use Rattle.opcode.proofs.length.length_at.Goals as goal

found :
    (c : After-format_of-format) →
    let a = c.args in
    c.format_of-format.result ≡ sheet_of (byte_at a.code.now a.at)
found c = rw (← c.byte_at.ensures) c.format_of-format.ensures

prefixed :
    (c : Else-format-lt32768) → (let a = c.args in c.format_of-format.result ≡ sheet_of (byte_at a.code.now a.at)) →
    let a = c.args in
    byte_at a.code.now a.at ≡ double_code
prefixed c has-found = is-prefix _ _ (has-found) c.if-format-lt32768.false

pub normal_length-requires : goal.normal_length-requires
normal_length-requires c = found (goal.at.normal_length-requires c).After-format_of-format

pub returns-then-format-lt32768 : goal.returns-then-format-lt32768
unfolding length_at
returns-then-format-lt32768 c =
    let a = c.args in
    rw (
      not-prefix (byte_at a.code.now a.at) _ (found (goal.at.returns-then-format-lt32768 c).After-format_of-format)
          c.if-format-lt32768.true,
      c.normal_length.ensures,
    )

pub overflow_add-at : goal.overflow_add-at
overflow_add-at c =
    let a = c.args in
    omega (
      arith,
      byte-present a.code.now a.at (λ e. omega (
        arith,
        prefixed (goal.at.overflow_add-at c).Else-format-lt32768
            (found (goal.at.overflow_add-at c).After-format_of-format),
      )),
    )

pub returns-then-length-eq0 : goal.returns-then-length-eq0
unfolding length_at
returns-then-length-eq0 c =
    let length-in = c.length_in-length in
    rw (
      prefixed (goal.at.returns-then-length-eq0 c).Else-format-lt32768 (found
          (goal.at.returns-then-length-eq0 c).After-format_of-format),
      ← length-in.ensures,
      eq-eqb length-in.result 0 c.if-length-eq0.true,
    )

pub overflow_add-result : goal.overflow_add-result
overflow_add-result c =
    let a = c.args in
    omega (arith, double-short a.code.now (a.at + 1))

pub returns : goal.returns
unfolding length_at
returns c =
    let length-in = c.length_in-length in
    rw (
      prefixed (goal.at.returns c).Else-format-lt32768 (found (goal.at.returns c).After-format_of-format),
      ← length-in.ensures,
      ne_eqb length-in.result 0 c.if-length-eq0.false,
    )
