-- `refusal::lower` meets its contract: no refusal gives way, of two that of the lower number is taken.
use native.Mathlib.Omega.{arith}
use borrow.Author.Tests.{lt-ltb, le-ltb}
use Rattle.words.specs.Refusal.{lower}
use Rattle.words.proofs.Refusal.{lower-left, lower-none}
use Rattle.numbers.proofs.Refusing.{refuses}
use Rattle.numbers.specs.Number.{number_of}
use Rattle.numbers.proofs.lower.Goals as goal

pub returns-in-Ok-default : goal.returns-in-Ok-default
returns-in-Ok-default c = rw (c.in-Ok-default.is-0, lower-left)

pub returns-in_default-Ok : goal.returns-in_default-Ok
returns-in_default-Ok c = rw (c.in_default-Ok.is-1, lower-none)

pub returns-then-number : goal.returns-then-number
unfolding lower
returns-then-number c =
    let p = c.in-Err-Err in
    rw (p.is-0, p.is-1, refuses p.x, refuses p.y, lt-ltb (number_of p.y) (number_of p.x) (omega arith))

pub returns-else-number : goal.returns-else-number
unfolding lower
returns-else-number c =
    let p = c.in-Err-Err in
    rw (p.is-0, p.is-1, refuses p.x, refuses p.y, le-ltb (number_of p.y) (number_of p.x) (omega arith))
