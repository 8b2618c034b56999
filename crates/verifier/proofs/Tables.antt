-- The table that code fills for a module's libraries holds just these. A row's parts are those of the library's module, since
-- a part of a part is a part; and where a set has no number, every record and every results list is there and short, so that
-- what lies before it is a small number.
use mathlib.Core.Bool.{Bool, true, false, cond, ◌&&◌, ◌||◌, and-eq-true_iff}
use mathlib.Core.List.{List, [], ◌∷◌}
use mathlib.Core.Path.{◌≡◌, ◌∙◌, refl, sym, ap}
use Prim.Native.Nat.{ℕ, zero, suc, ◌+◌, ◌*◌, ◌/◌, ◌%◌, ◌≤◌, ◌<◌}
use native.Mathlib.Omega.{arith}
use lib.Dec.{eqb, leb}
use lib.ListN.{length, get_or, take, drop, length-take, length-drop}
use lib.Seq.{ext_get_or, get_or-take, get_or-drop, length-take-le}
use borrow.Author.Tests.{eqb-true, leb-true, ltb-false, not-false}
use Rattle.words.proofs.Refusal.{cleared}
use Rattle.words.proofs.Tests.{either}
use Rattle.header.specs.Header.{header_of, code_of, code_at, constants_at, relocation_at, versions_at, sources_at, record_length}
use Rattle.entries.specs.Entries.{entry_at, entry_count, count_sound, entries_sound}
use Rattle.entries.proofs.Ordered.{ordered}
use Rattle.record.specs.Number.{record_tests, record_number}
use Rattle.record.proofs.Sound.{sound-sizes}
use Rattle.module_set.specs.Members.{Member, Members, members_of, member_at, number_from, number_of}
use Rattle.module_set.specs.Rows.{row_word, shares_before}
use Rattle.module_set.proofs.Every.{every-member}
use Rattle.module_set.proofs.Shares.{member-row}
use Rattle.relocation.proofs.Sound.{set_sound}
use Rattle.verifier.specs.Check.{results_sound}
use Rattle.verifier.specs.Tables.{Linkable, Placed}
use Rattle.verifier.proofs.Records.{a-module}

-- How long a record and a results list without a number are.
record-long : (r : List ℕ) → record_number r ≡ 0 → (1 ≤ length r) × (length r ≤ 40000)
unfolding record_number record_length sources_at versions_at relocation_at constants_at code_at
record-long r e =
    let c = cleared (record_tests r) refl e in
    let size = record_length (header_of r) in
    let least : 28 ≤ length r = ltb-false (length r) 28 c.0 in
    let whole : length r ≡ size = eqb-true (length r) size (not-false (eqb (length r) size) c.1.1.0) in
    let z = sound-sizes r e in
    (omega arith, omega (arith, whole, z.imports, z.code, z.constants, z.relocation, z.versions, z.sources))

pub code-near : (r : List ℕ) → record_number r ≡ 0 → code_at (header_of r) ≤ 92
unfolding code_at
code-near r e = omega (arith, (sound-sizes r e).imports)

count_small : (code : List ℕ) → entries_sound code ≡ true → entry_count code ≤ 256
unfolding entries_sound count_sound entry_count
count_small code e =
    by (eqb (entry_at code 0) 2)
    ((and-eq-true_iff (eqb (entry_at code 0) 2 || _) _).0 e).0
  where
    by : (t : Bool) → (t || (eqb (entry_at code 1 % 2) 0 && (leb 4 (entry_at code 1) && leb (entry_at code 1) 512))) ≡ true
        → cond t 1 (entry_at code 1 / 2) ≤ 256
    by true h = let z : 1 ≤ 256 = omega arith in z
    by false h =
        let a = (and-eq-true_iff (eqb (entry_at code 1 % 2) 0) (leb 4 (entry_at code 1) && leb (entry_at code 1) 512)).0 h in
        let b = (and-eq-true_iff (leb 4 (entry_at code 1)) (leb (entry_at code 1) 512)).0 a.1 in
        omega (arith, leb-true (entry_at code 1) 512 b.1)

list-long : (code results : List ℕ) → entries_sound code ≡ true → results_sound code results ≡ true
    → (1 ≤ length results) × (length results ≤ 40000)
unfolding results_sound
list-long code results e f =
    let same = eqb-true (length results) (entry_count code) ((and-eq-true_iff (eqb (length results) (entry_count code)) _).0 f).0 in
    (omega (arith, (ordered code e).some), omega (arith, count_small code e))

-- Shares of a list, each of them there and short: few bytes lie before one.
module _ (s d : List ℕ) (j n : ℕ) where
  abbrev share : ℕ → List ℕ
  share k = take (row_word d k j) (drop (shares_before d j k) s)

  pub share-near : ((k : ℕ) → k < n → (1 ≤ length (share k)) × (length (share k) ≤ 40000)) → (k : ℕ) → k < n
      → shares_before d j k ≤ 40000 * k
  share-near each zero h = omega arith
  share-near each (suc k) h =
      let before = share-near each k (omega arith) in
      let here = each k (omega arith) in
      let next = each (suc k) h in
      omega (
        arith,
        before,
        here.1,
        next.0,
        length-take (row_word d k j) (drop (shares_before d j k) s),
        length-drop (shares_before d j k) s,
        length-take (row_word d (suc k) j) (drop (shares_before d j (suc k)) s),
        length-drop (shares_before d j (suc k)) s,
      )

module _ (records lists directory : List ℕ) where
  abbrev S : Members
  S = members_of records lists directory

  pub placed : Linkable (members_of records lists directory) → (m : ℕ) → m < length (members_of records lists directory)
      → Placed records lists directory m
  placed L m h =
      let sizes : (k : ℕ) → k < length S → (1 ≤ length (member_at S k).bytes) × (length (member_at S k).bytes ≤ 40000) =
      λ k l. record-long (member_at S k).bytes (a-module S k L.numberless l).sound in
      let counts : (k : ℕ) → k < length S → (1 ≤ length (member_at S k).results) × (length (member_at S k).results ≤ 40000) =
      λ k l. list-long (code_of (member_at S k).bytes) (member_at S k).results (a-module S k L.numberless l).entries
      (every-member (λ M. results_sound (code_of M.bytes) M.results) S L.fitting k l) in
      let few : length S ≤ 16 = (set_sound S L.numberless).few in
      let before = share-near records directory 1 (length S)
      (λ k l. rw (ap (λ (M : Member). M.bytes) (member-row records lists directory k)) at (sizes k l)) m h in
      let behind = share-near lists directory 2 (length S)
      (λ k l. rw (ap (λ (M : Member). M.results) (member-row records lists directory k)) at (counts k l)) m h in
      record {
        few = omega arith;
        sound = (a-module S m L.numberless h).sound;
        record_near = omega (arith, before);
        list_near = omega (arith, behind);
        list_short = omega (arith, (counts m h).1);
      }

-- A library's number is that of a module, 0 being one.
number_in : (k : ℕ) (S : Members) (sid : ℕ) → 1 ≤ k → number_from k S sid < k + length S
number_in k [] sid h = omega arith
number_in k (M ∷ S) sid h =
    either (λ (n : ℕ). n < k + length (M ∷ S)) (eqb M.sid sid) k (number_from (k + 1) S sid) (omega arith)
    (omega (arith, number_in (k + 1) S sid (omega arith)))

pub number-inside : (S : Members) (sid : ℕ) → 1 ≤ length S → number_of S sid < length S
unfolding number_of
number-inside [] sid h = absurd (omega arith)
number-inside (M ∷ S) sid h = omega (arith, number_in 1 S sid (omega arith))

-- A part of a part.
pub part-whole : (s : List ℕ) (a m : ℕ) → take (length (take m (drop a s))) (drop a s) ≡ take m (drop a s)
part-whole s a m =
    let x = take m (drop a s) in
    let long : length (take (length x) (drop a s)) ≡ length x =
    length-take-le (length x) (drop a s) (omega (arith, length-take m (drop a s))) in
    ext_get_or 0 (take (length x) (drop a s)) x long
    (λ i h.
    get_or-take (length x) (drop a s) i 0 (omega (arith, long))
    ∙ sym (get_or-take m (drop a s) i 0 (omega (arith, long, length-take m (drop a s)))))

pub part-of-part : (s : List ℕ) (a m b n : ℕ) →
    let x = take n (drop b (take m (drop a s))) in
    take (length x) (drop (a + b) s) ≡ x
part-of-part s a m b n =
    let outer = take m (drop a s) in
    let x = take n (drop b outer) in
    let size : length x ≡ length (take n (drop b outer)) = refl in
    let one = length-take n (drop b outer) in
    let two = length-drop b outer in
    let three = length-take m (drop a s) in
    let four = length-drop a s in
    let long : length (take (length x) (drop (a + b) s)) ≡ length x =
    length-take-le (length x) (drop (a + b) s) (omega (arith, one, two, three, four, length-drop (a + b) s)) in
    ext_get_or 0 (take (length x) (drop (a + b) s)) x long
    (λ i h.
    let z : a + b + i ≡ a + (b + i) = omega arith in
    get_or-take (length x) (drop (a + b) s) i 0 (omega (arith, long))
    ∙ (get_or-drop (a + b) s i 0 ∙ (ap (λ (k : ℕ). get_or s k 0) z
    ∙ sym (get_or-take n (drop b outer) i 0 (omega (arith, long, one))
    ∙ (get_or-drop b outer i 0
    ∙ (get_or-take m (drop a s) (b + i) 0 (omega (arith, long, one, two, three))
    ∙ get_or-drop a s (b + i) 0))))))
