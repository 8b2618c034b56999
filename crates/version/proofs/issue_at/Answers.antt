-- `version::issue_at` meets its contract: each answer of the chain is that of all its tests so far.
use Prim.Native.Nat.{◌+◌}
use mathlib.Core.Bool.{Bool, ◌||◌, ◌&&◌, and_assoc}
use mathlib.Core.Path.{◌≡◌, ◌∙◌, sym}
use lib.Dec.{eqb}
use Rattle.version.specs.Version.{among, issue_at}
use Rattle.words.specs.Bytes.{byte_at}
use Rattle.version.proofs.issue_at.Goals.{Joined-is_ascii_digit, then-is_tens, else-is_tens}
use Rattle.version.proofs.issue_at.Goals.{then-is_ascii_digit, else-is_ascii_digit}
use Rattle.version.proofs.issue_at.Goals as goal

in_turn : (t d s r : Bool) → (t && (d && (s && r))) ≡ (((t && d) && s) && r)
in_turn t d s r = sym (and_assoc t d (s && r)) ∙ sym (and_assoc (t && d) s r)

two : (c : Joined-is_ascii_digit) →
    let r = c.args.r.now in
    let i = c.args.i in
    c.if-is_tens.value ≡ ((among 48 57 (byte_at r i) || eqb (byte_at r i) 32) && among 48 57 (byte_at r (i + 1)))
two c =
    elim c.if-is_tens.branch [
      | then-is_tens w ↦
          rw (← c.byte_at.ensures, ← c.is_tens.ensures, w.if-is_tens.true, ← w.byte_behind.ensures)
          (w.value-is ∙ w.is_ascii_digit.ensures.value)
      | else-is_tens w ↦ rw (← c.byte_at.ensures, ← c.is_tens.ensures, w.if-is_tens.false) (w.value-is ∙ w.if-is_tens.false)
    ]

three : (c : Joined-is_ascii_digit) →
    let r = c.args.r.now in
    let i = c.args.i in
    c.if-is_ascii_digit.value
    ≡ (((among 48 57 (byte_at r i) || eqb (byte_at r i) 32) && among 48 57 (byte_at r (i + 1))) && eqb (byte_at r (i + 2)) 47)
three c =
    elim c.if-is_ascii_digit.branch [
      | then-is_ascii_digit w ↦ rw (← two c, w.if-is_ascii_digit.true, ← w.byte_behind-then-is_ascii_digit.ensures) w.value-is
      | else-is_ascii_digit w ↦ rw (← two c, w.if-is_ascii_digit.false) (w.value-is ∙ w.if-is_ascii_digit.false)
    ]

pub returns-then-byte_behind-eq47 : goal.returns-then-byte_behind-eq47
unfolding issue_at
returns-then-byte_behind-eq47 c = rw (
  in_turn,
  ← three (goal.at.returns-then-byte_behind-eq47 c).Joined-is_ascii_digit,
  c.if-byte_behind-eq47.true,
  c.is_revision.ensures,
  c.byte_behind-then-byte_behind-eq47.ensures,
)

pub returns-else-byte_behind-eq47 : goal.returns-else-byte_behind-eq47
unfolding issue_at
returns-else-byte_behind-eq47 c = rw (
  in_turn,
  ← three (goal.at.returns-else-byte_behind-eq47 c).Joined-is_ascii_digit,
  c.if-byte_behind-eq47.false,
)
