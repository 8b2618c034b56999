-- The relocation table by marks, and what a set that no number refuses is. The places lie in the code, and so within the marks;
-- a test of every place is one of every offset that asks nothing where no place is.
use mathlib.Core.Bool.{Bool, true, false, cond, not, ◌&&◌, ◌||◌, false≢true}
use mathlib.Core.List.{List}
use mathlib.Core.Path.{◌≡◌, ◌∙◌, refl, sym, subst}
use Prim.Native.Nat.{ℕ, zero, suc, ◌+◌, ◌<◌, ◌≤◌}
use native.Mathlib.Omega.{arith}
use lib.Dec.{eqb}
use lib.ListN.{length}
use borrow.Author.Tests.{eqb-true, eqb-false, not-false}
use Rattle.words.specs.Order.{every}
use Rattle.words.specs.Refusal.{Test, refusal}
use Rattle.words.specs.Series.{series}
use Rattle.words.proofs.Refusal.{Clear, positive, cleared}
use Rattle.words.proofs.Series.{series-same}
use Rattle.words.proofs.Tests.{same_answer}
use Rattle.header.specs.Header.{header_of, code_of}
use Rattle.record.specs.Number.{record_number}
use Rattle.record.proofs.Sound.{numberless, sound-code}
use Rattle.module_set.specs.Members.{Members, member_at}
use Rattle.module_set.specs.Linked.{has, every_member, records_number, linked}
use Rattle.module_set.proofs.Among.{every-among, among-every, every-same}
use Rattle.module_set.proofs.Every.{members-sound, every-member}
use Rattle.module_set.proofs.Linking.{linked-few}
use Rattle.relocation.specs.Places.{library_places}
use Rattle.relocation.specs.Relocation.{relocations_of, import_number, relocation_sound, set_tests, set_number}
use Rattle.relocation.specs.Relocation.{after_set, relocated_byte, relocated}
use Rattle.relocation.specs.Marks.{marked, is_marked, listed_at, offsets, marked_byte}
use Rattle.relocation.proofs.Marking.{Below, below_wider, has-below, zeros, blank-has, blank-all}
use Rattle.relocation.proofs.Bounds.{places-below}

-- The first n offsets are what is below n.
pub offset-has : (at n x : ℕ) → at ≤ x → x < at + n → has (series (λ (i : ℕ). i) 1 at n) x ≡ true
offset-has at zero x a b = absurd (omega arith)
offset-has at (suc n) x a b = by (eqb at x) refl (λ (q : at + 1 ≤ x). offset-has (at + 1) n x q (omega arith))
  where
    by : (t : Bool) → eqb at x ≡ t → (at + 1 ≤ x → has (series (λ (i : ℕ). i) 1 (at + 1) n) x ≡ true)
        → (t || has (series (λ (i : ℕ). i) 1 (at + 1) n) x) ≡ true
    by true q rest = refl
    by false q rest = rest (omega (arith, eqb-false at x q))

offset-below : (at n : ℕ) → Below (at + n) (series (λ (i : ℕ). i) 1 at n)
offset-below at zero = tt
offset-below at (suc n) =
    let z : at + 1 + n ≡ at + suc n = omega arith in
    (omega arith, subst (λ (w : ℕ). Below w (series (λ (i : ℕ). i) 1 (at + 1) n)) z (offset-below (at + 1) n))

pub implied : (a b : Bool) → (not a || b) ≡ true → a ≡ true → b ≡ true
implied true b h q = h
implied false b h q = absurd (false≢true q)

module _ (r : List ℕ) (e : record_number r ≡ 0) where
  abbrev P : List ℕ
  P = library_places (code_of r)

  abbrev R : List ℕ
  R = relocations_of r

  -- The marks that the code makes of these.
  abbrev place_marks : List ℕ
  place_marks = marked (zeros 4096) P

  abbrev entry_marks : List ℕ
  entry_marks = marked (zeros 4096) R

  inside : Below (length (code_of r)) P
  inside = places-below (code_of r) (numberless r e).entries

  place-marked : (x : ℕ) → is_marked place_marks x ≡ has P x
  place-marked = blank-all 4096 P (below_wider (length (code_of r)) 4096 P (sound-code r e) inside)

  abbrev listed : ℕ → Bool
  listed = listed_at (code_of r) (header_of r).imports place_marks entry_marks

  -- What the test of an offset says, where the offset is in the code.
  listed-is : (x : ℕ) → x < length (code_of r) → listed x ≡ (not (has P x) || (has R x && import_number r x))
  listed-is x h = rw (place-marked x, blank-has 4096 R x (omega (arith, sound-code r e)))

  listed-all : every listed (offsets (length (code_of r))) ≡ every (λ at. has R at && import_number r at) P
  listed-all =
      same_answer (every listed (offsets (length (code_of r)))) (every (λ at. has R at && import_number r at) P)
      (λ t. among-every (λ at. has R at && import_number r at) P
      (λ x h.
      let l : x < length (code_of r) = has-below (length (code_of r)) P inside x h in
      implied (has P x) (has R x && import_number r x)
      (sym (listed-is x l)
      ∙ every-among listed (offsets (length (code_of r))) t x
      (offset-has 0 (length (code_of r)) x (omega arith) (omega arith))) h))
      (λ t. among-every listed (offsets (length (code_of r)))
      (λ x h.
      let l : x < 0 + length (code_of r) = has-below (0 + length (code_of r)) (offsets (length (code_of r)))
      (offset-below 0 (length (code_of r))) x h in
      listed-is x (omega arith)
      ∙ told (has P x) (has R x && import_number r x) (every-among (λ at. has R at && import_number r at) P t x)))
    where
      told : (a b : Bool) → (a ≡ true → b ≡ true) → (not a || b) ≡ true
      told true b h = h refl
      told false b h = refl

  pub sound-marked : relocation_sound r ≡ (every (is_marked place_marks) R && every listed (offsets (length (code_of r))))
  unfolding relocation_sound
  sound-marked = rw (listed-all, every-same (is_marked place_marks) (has P) R place-marked)

  -- The same of what the code holds: `points` is its answer about the entries.
  pub sound-held :
      (code places entries : List ℕ) (imports : ℕ) (points : Bool) →
      code ≡ code_of r → places ≡ marked (zeros 4096) (library_places code) → entries ≡ entry_marks →
      imports ≡ (header_of r).imports →
      points ≡ every (is_marked places) R →
      relocation_sound r ≡ (points && every (listed_at code imports places entries) (offsets (length code)))
  sound-held code places entries imports points c p n i q = rw (q, p, n, i, c) sound-marked

  -- The bytes as rewritten, by the marks of the entries.
  pub relocated-marked : (S : Members) → series (marked_byte S r (code_of r) entry_marks) 1 0 (length (code_of r)) ≡ relocated S r
  unfolding relocated
  relocated-marked S =
      series-same (marked_byte S r (code_of r) entry_marks) (relocated_byte S r) 0 (length (code_of r))
      (λ i a b. rw (blank-has 4096 R i (omega (arith, sound-code r e))))

-- A set that no number refuses.
pub record SetSound (S : Members) : Type 0 where
  pub records : records_number S ≡ 0
  pub linked : linked S ≡ true
  pub few : length S ≤ 16
  pub sound : (k : ℕ) → k < length S → record_number (member_at S k).bytes ≡ 0
  pub relocations : (k : ℕ) → k < length S → relocation_sound (member_at S k).bytes ≡ true

-- Tests made after others: where no number is given, none of either.
cleared-after : (number : ℕ) (tests : List Test) → positive tests ≡ true → cond (eqb number 0) (refusal tests) number ≡ 0
    → (number ≡ 0) × Clear tests
cleared-after number tests p e = by (eqb number 0) refl
  where
    by : (t : Bool) → eqb number 0 ≡ t → (number ≡ 0) × Clear tests
    by true q = (eqb-true number 0 q, cleared tests p (rw q at e))
    by false q = absurd (eqb-false number 0 q (rw q at e))

pub set_sound : (S : Members) → set_number S ≡ 0 → SetSound S
unfolding set_number
set_sound S e =
    let c = cleared-after (records_number S) (set_tests S) refl e in
    let link : linked S ≡ true = not-false (linked S) c.1.0 in
    record {
      records = c.0;
      linked = link;
      few = linked-few S link;
      sound = members-sound S c.0;
      relocations =
          every-member (λ M. relocation_sound M.bytes) S
          (not-false (every_member (λ M. relocation_sound M.bytes) S) c.1.1.0);
    }

pub set-cleared : (S : Members) (tests : List Test) → positive tests ≡ true → after_set S tests ≡ 0 →
    (set_number S ≡ 0) × Clear tests
set-cleared S tests p e = cleared-after (set_number S) tests p e
