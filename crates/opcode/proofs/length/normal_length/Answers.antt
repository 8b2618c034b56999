-- `length::normal_length` meets its contract: an entry below 32 has no table behind it, and one from 8000 on is a prefix.
use Prim.Native.Nat.{◌+◌, ◌*◌, ◌/◌, ◌%◌, ◌^◌, ◌<◌}
use mathlib.Core.Path.{◌≡◌, sym}
use native.Mathlib.Omega.{arith}
use Rattle.opcode.proofs.Formats.{prefix-none, length_some, length-fits}
use Rattle.opcode.proofs.length.normal_length.Goals.{After-unsigned_halfword}
use Rattle.opcode.proofs.length.normal_length.Goals as goal

pub returns-then-format-lt32 : goal.returns-then-format-lt32
returns-then-format-lt32 c =
    let a = c.args in
    let z : a.format / 32 ≡ 0 = omega arith in
    rw (length_some a.code.now a.at a.format c.requires (omega arith), z) (omega arith)

pub returns-then-format-ge32768 : goal.returns-then-format-ge32768
returns-then-format-ge32768 c =
    sym (prefix-none c.args.code.now c.args.at c.args.format c.requires c.if-format-ge32768.true)

sized :
    (c : After-unsigned_halfword) →
    c.args.format % 16 +
    c.args.format / 32 * c.unsigned_halfword.result < 2 ^ 64
sized c =
    let format = c.args.format in
    let n = c.unsigned_halfword in
    let left = c.if-format-ge32768.false in
    length-fits format n.result (omega arith) (omega (arith, n.type_inv))

pub overflow_mul-result : goal.overflow_mul-result
overflow_mul-result c = omega (arith, sized (goal.at.overflow_mul-result c).After-unsigned_halfword)

pub overflow_add-result : goal.overflow_add-result
overflow_add-result c = omega (arith, sized (goal.at.overflow_add-result c).After-unsigned_halfword)

pub returns : goal.returns
returns c =
    let a = c.args in
    rw (length_some a.code.now a.at a.format c.requires c.if-format-ge32768.false, c.unsigned_halfword.ensures)
