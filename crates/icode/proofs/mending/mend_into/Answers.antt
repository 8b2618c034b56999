-- `mend_into` meets its contract: its numbers in turn, then what mending answers; the counts fit a word.
use Prim.Native.Nat.{ℕ, ◌≤◌}
use mathlib.Core.List.{List, [], ◌∷◌}
use mathlib.Core.Path.{◌≡◌, ◌∙◌, sym}
use native.Mathlib.Omega.{arith}
use lib.ListN.{length}
use lib.Seq.{sets-eq}
use borrow.Author.Tests.{le-ltb, lt-ltb}
use Rattle.numbers.proofs.Refusing.{refuses}
use Rattle.record.proofs.Sound.{handed-on}
use Rattle.record.specs.Number.{size_number}
use Rattle.mend.specs.Mend.{Mending, mending, mend_of}
use Rattle.mend.proofs.Answering.{few-written}
use Rattle.icode.specs.Mending.{reply_of, mend_reply}
use Rattle.icode.proofs.mending.mend_into.Goals.{In_ok-mended}
use Rattle.icode.proofs.mending.mend_into.Goals as goal

pub returns-in_err-sized : goal.returns-in_err-sized
unfolding mend_reply
returns-in_err-sized c =
    let e = c.in_err-sized.field-0.0 in
    rw (handed-on c.from_residual.result e c.from_residual.ensures.1, ← c.in_err-sized.ensures.number, refuses e)

pub returns-then-counts-lt2 : goal.returns-then-counts-lt2
unfolding mend_reply
returns-then-counts-lt2 c =
    rw (← c.in_ok-sized.ensures.number, lt-ltb (length c.args.counts.now) 2 c.if-counts-lt2.true)

-- Behind the tests mending decides.
replied : (r out places counts o p : List ℕ) (a : Mending) → 0 ≡ size_number r → 2 ≤ length counts
    → mending a o p ≡ mend_of r out places → mend_reply r out places counts ≡ reply_of a o p counts
unfolding mend_reply
replied r out places counts o p a none long e = rw (← none, le-ltb (length counts) 2 long, ← e)

pub returns-in_err-mended : goal.returns-in_err-mended
returns-in_err-mended c =
    let e = c.in_err-mended.field-0.0 in
    let a = c.args in
    rw (
      handed-on c.from_residual-in_err-mended.result e c.from_residual-in_err-mended.ensures.1,
      replied a.bytes.now a.out.now a.places.now a.counts.now _ _ _ c.in_ok-sized.ensures.number c.if-counts-lt2.false
          c.in_err-mended.ensures,
    )

-- What mending counted is little.
few : (c : In_ok-mended) → (c.in_ok-mended.mended.bytes ≤ 40000) × (c.in_ok-mended.mended.dropped ≤ 3000)
few c =
    let a = c.args in
    few-written a.bytes.now a.out.now a.places.now (sym c.in_ok-sized.ensures.number) c.in_ok-mended.ensures

pub overflow_cast-counts : goal.overflow_cast-counts
overflow_cast-counts c = omega (arith, (few (goal.at.overflow_cast-counts c).In_ok-mended).0)

pub overflow_cast-counts-2 : goal.overflow_cast-counts-2
overflow_cast-counts-2 c = omega (arith, (few (goal.at.overflow_cast-counts-2 c).In_ok-mended).1)

pub returns : goal.returns
returns c =
    let a = c.args in
    let mended = c.in_ok-mended.mended in
    rw (
      replied a.bytes.now a.out.now a.places.now a.counts.now _ _ _ c.in_ok-sized.ensures.number c.if-counts-lt2.false
          c.in_ok-mended.ensures,
      sets-eq (mended.bytes ∷ mended.dropped ∷ []) a.counts.now 0 c.if-counts-lt2.false,
    )
