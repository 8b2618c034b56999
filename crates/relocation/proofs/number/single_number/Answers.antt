-- `number::single_number` meets its contract: a set of one has the number of its record, is linked where it imports nothing, and
-- is sound where its record is.
use mathlib.Core.Bool.{Bool, true, false, cond, not, and-true}
use mathlib.Core.List.{List, []}
use mathlib.Core.Path.{◌≡◌, refl}
use Prim.Native.Nat.{ℕ, zero, suc}
use Rattle.words.specs.Bytes.{word_at}
use Rattle.words.specs.Order.{every}
use Rattle.words.specs.Series.{series}
use Rattle.words.proofs.Refusal.{lower-none}
use Rattle.header.specs.Header.{header_of}
use Rattle.numbers.specs.Number.{number_of}
use Rattle.numbers.specs.declared.Refusal.{Refusal}
use Rattle.numbers.proofs.Refusing.{refuses}
use Rattle.record.specs.Number.{record_number}
use Rattle.record.proofs.Sound.{handed-on}
use Rattle.module_set.specs.Members.{single}
use Rattle.module_set.specs.Linked.{has, records_number, linked}
use Rattle.relocation.specs.Relocation.{relocation_sound, set_number}
use Rattle.relocation.proofs.number.single_number.Goals as goal

none_lent : (r : List ℕ) (n : ℕ) → (n ≡ 0 → ⊥) → every (has []) (series (word_at r) 4 28 n) ≡ false
none_lent r zero some = absurd (some refl)
none_lent r (suc n) some = refl

module _ (r results : List ℕ) where
  records-alone : records_number (single r results) ≡ record_number r
  unfolding records_number
  records-alone = lower-none (record_number r)

  linked-alone : (header_of r).imports ≡ 0 → linked (single r results) ≡ true
  unfolding linked
  linked-alone e = rw e

  unlinked-alone : ((header_of r).imports ≡ 0 → ⊥) → linked (single r results) ≡ false
  unfolding linked
  unlinked-alone some = rw (none_lent r (header_of r).imports some)

  number-alone : (e : Refusal) → number_of e ≡ record_number r → number_of e ≡ set_number (single r results)
  unfolding set_number
  number-alone e same = rw (records-alone, ← same, refuses e)

  tests-alone : 0 ≡ record_number r → (l : Bool) → linked (single r results) ≡ l → (b : Bool)
      → b ≡ relocation_sound r → cond (not l) 17 (cond (not b) 18 0) ≡ set_number (single r results)
  unfolding set_number
  tests-alone none l q b s = rw (records-alone, ← none, q, ← s, and-true b)

pub returns-in_err-h : goal.returns-in_err-h
returns-in_err-h c =
    let e = c.in_err-h.field-0.0 in
    λ results.
    rw (handed-on c.from_residual.result e c.from_residual.ensures.1)
    (number-alone c.args.r.now results e c.in_err-h.ensures.number)

pub returns-then-h-ne0 : goal.returns-then-h-ne0
returns-then-h-ne0 c =
    let r = c.args.r.now in
    λ results.
    let some : ((header_of r).imports ≡ 0 → ⊥) = rw c.in_ok-h.ensures.header at c.if-h-ne0.true in
    tests-alone r results c.in_ok-h.ensures.number false (unlinked-alone r results some) (relocation_sound r) refl

pub returns-then-not-is_relocation_sound : goal.returns-then-not-is_relocation_sound
returns-then-not-is_relocation_sound c =
    let r = c.args.r.now in
    λ results.
    let none = rw c.in_ok-h.ensures.header at c.if-h-ne0.false in
    rw c.if-not-is_relocation_sound.true at
    (tests-alone r results c.in_ok-h.ensures.number true (linked-alone r results none) _ c.is_relocation_sound.ensures)

pub returns : goal.returns
returns c =
    let r = c.args.r.now in
    λ results.
    let none = rw c.in_ok-h.ensures.header at c.if-h-ne0.false in
    rw c.if-not-is_relocation_sound.false at
    (tests-alone r results c.in_ok-h.ensures.number true (linked-alone r results none) _ c.is_relocation_sound.ensures)
