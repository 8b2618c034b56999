-- What mending answers, by its tests: a number of the sizes, 8 where a buffer is too short, else both are written. The bytes and
-- words that it counts are few.
use mathlib.Core.Bool.{Bool, true, false, cond}
use mathlib.Core.List.{List}
use mathlib.Core.Path.{◌≡◌, ap}
use Prim.Native.Nat.{ℕ, ◌≤◌, ◌<◌}
use native.Mathlib.Omega.{arith}
use lib.Dec.{eqb}
use lib.ListN.{length}
use lib.Seq.{sets}
use borrow.Author.Tests.{lt-ltb, le-ltb}
use Rattle.numbers.specs.Number.{number_of}
use Rattle.numbers.specs.declared.Refusal.{Refusal}
use Rattle.numbers.proofs.Refusing.{refuses}
use Rattle.record.specs.Number.{size_number}
use Rattle.std.specs.Prelude.{Err, Ok}
use Rattle.mend.specs.Mend.{dropped_words, mended_record, mend_number, Mending, Outcome, mending, mend_of}
use Rattle.mend.specs.declared.Mended.{Mended}
use Rattle.mend.proofs.Measuring.{m, mended-length, dropped-length}

-- An answer with counts has those of the new record and the list.
counts-told : (b : Bool) (n : ℕ) (a m : Mended) (o p o' p' out places : List ℕ)
    → mending (Ok a) o p ≡ cond b (mending (Ok m) o' p') (mending (Err n) out places) → a ≡ m
counts-told true n a m o p o' p' out places e =
    let same : ◌≡◌ {A = Mending} (Ok a) (Ok m) = ap (λ (x : Outcome). x.answer) e in
    cc
counts-told false n a m o p o' p' out places e =
    let same : ◌≡◌ {A = Mending} (Ok a) (Err n) = ap (λ (x : Outcome). x.answer) e in
    let z : ◌≡◌ {A = ℕ} 0 1 = cc in
    absurd (omega arith)

module _ (r out places : List ℕ) where
  pub size-refuses : (e : Refusal) → number_of e ≡ size_number r → mending (Err (number_of e)) out places ≡ mend_of r out places
  unfolding mend_number mend_of
  size-refuses e same = rw (← same, refuses e, refuses e)

  module _ (none : size_number r ≡ 0) where
    pub record-too-long : length out < length (mended_record r) → mending (Err 8) out places ≡ mend_of r out places
    unfolding mend_number mend_of
    record-too-long l = rw (none, lt-ltb _ _ l)

    module _ (room : length (mended_record r) ≤ length out) where
      pub list-too-long : length places < length (dropped_words r) → mending (Err 8) out places ≡ mend_of r out places
      unfolding mend_number mend_of
      list-too-long l = rw (none, le-ltb _ _ room, lt-ltb _ _ l)

      pub both-fit : length (dropped_words r) ≤ length places →
          let m : Mended = record { bytes = length (mended_record r); dropped = length (dropped_words r) } in
          mending (Ok m) (sets out 0 (mended_record r)) (sets places 0 (dropped_words r)) ≡ mend_of r out places
      unfolding mend_number mend_of
      both-fit l = rw (none, le-ltb _ _ room, le-ltb _ _ l)

    pub few-written : {a : Mended} {o p : List ℕ} → mending (Ok a) o p ≡ mend_of r out places
        → (a.bytes ≤ 40000) × (a.dropped ≤ 3000)
    unfolding mend_of
    few-written {a} {o} {p} e =
        let n = mend_number r out places in
        let t = counts-told (eqb n 0) n a _ o p _ _ out places e in
        let long = ap (λ (x : Mended). x.bytes) t in
        let many = ap (λ (x : Mended). x.dropped) t in
        let small = m r none in (
          omega (arith, long, mended-length r none, small.near, small.versions, small.counted, small.sizes),
          omega (arith, many, dropped-length r none, small.sizes),
        )
