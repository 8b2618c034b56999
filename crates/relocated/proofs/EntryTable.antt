-- The entry table lies before all library places, so that the copy has the entries and the regions of the record's code.
use mathlib.Core.Bool.{Bool, true, false, cond, ◌||◌, ◌&&◌}
use mathlib.Core.List.{List}
use mathlib.Core.Path.{◌≡◌, ◌∙◌, refl, sym}
use Prim.Native.Nat.{ℕ, zero, suc, ◌+◌, ◌*◌, ◌-◌, ◌/◌, ◌%◌, ◌<◌, ◌≤◌}
use native.Mathlib.Omega.{arith}
use borrow.Author.Tests.{eqb-false, ltb-true}
use lib.Dec.{eqb, leb, ltb}
use lib.ListN.{length}
use Rattle.entries.specs.Entries.{entry_at, entry_count, count_sound, entries_in_order, entries_sound, region_end}
use Rattle.layout.specs.Cut.{Marks, cut, cut_of}
use Rattle.entries.proofs.Ordered.{first_of, ordered}
use Rattle.layout.proofs.Cutting.{Cutted, cutting-starts}
use Rattle.header.specs.Header.{code_of}
use Rattle.record.specs.Number.{record_number}
use Rattle.record.proofs.Sound.{numberless}
use Rattle.module_set.specs.Members.{Members}
use Rattle.module_set.specs.Linked.{has}
use Rattle.words.proofs.Series.{series-same}
use Rattle.relocation.specs.Places.{library_places}
use Rattle.relocation.specs.Relocation.{relocation_sound, relocated}
use Rattle.relocated.proofs.Reading.{Agree, halfword-same}
use Rattle.relocated.proofs.Copying.{places-agree, copy-length, copy-kept}
use Rattle.relocated.proofs.Places.{refuted}
use Rattle.relocated.proofs.Regions.{table_before, place-behind}

-- Two codes of one length that agree on the table of the first.
module _ (c d : List ℕ) (long : length d ≡ length c) (e : entries_sound c ≡ true) (A : Agree c d 0 (2 * entry_count c)) where
  entry-same : (p : ℕ) → p < entry_count c → entry_at d p ≡ entry_at c p
  unfolding entry_at
  entry-same p h = halfword-same c d (2 * p) (λ x l u. A x (omega arith) (omega arith))

  first-same : entry_at d 0 ≡ entry_at c 0
  first-same = entry-same 0 (ordered c e).some

  -- More than one entry, where the first is not 2.
  more : (n : ℕ) → 1 ≤ n → 2 * n ≡ first_of c 1 (n - 1) → (entry_at c 0 ≡ 2 → ⊥) → 2 ≤ n
  more zero h t f = absurd (omega arith)
  more (suc zero) h t f = absurd (f (sym t))
  more (suc (suc n)) h t f = omega arith

  second-same : eqb (entry_at c 0) 2 ≡ false → entry_at d 1 ≡ entry_at c 1
  second-same s = entry-same 1 (more (entry_count c) (ordered c e).some (table_before c e) (eqb-false (entry_at c 0) 2 s))

  count_same : entry_count d ≡ entry_count c
  unfolding entry_count
  count_same = rw first-same (by (eqb (entry_at c 0) 2) refl)
    where
      by : (b : Bool) → eqb (entry_at c 0) 2 ≡ b → cond b 1 (entry_at d 1 / 2) ≡ cond b 1 (entry_at c 1 / 2)
      by true s = refl
      by false s = rw (second-same s)

  region-same : (p : ℕ) → p < entry_count c → region_end d p ≡ region_end c p
  unfolding region_end
  region-same p h = rw (long, count_same) (by (eqb p 0) (ltb (p + 1) (entry_count c)) refl)
    where
      by : (zero? more : Bool) → ltb (p + 1) (entry_count c) ≡ more
          → cond zero? (length c) (entry_at d (cond more (p + 1) 0)) ≡ cond zero? (length c) (entry_at c (cond more (p + 1) 0))
      by true more t = refl
      by false true t = entry-same (p + 1) (ltb-true (p + 1) (entry_count c) t)
      by false false t = first-same

  count-sound : count_sound d ≡ count_sound c
  unfolding count_sound
  count-sound = rw first-same (by (eqb (entry_at c 0) 2) refl)
    where
      by : (b : Bool) → eqb (entry_at c 0) 2 ≡ b
          → (b || (eqb (entry_at d 1 % 2) 0 && (leb 4 (entry_at d 1) && leb (entry_at d 1) 512)))
          ≡ (b || (eqb (entry_at c 1 % 2) 0 && (leb 4 (entry_at c 1) && leb (entry_at c 1) 512)))
      by true s = refl
      by false s = rw (second-same s)

  order_same : entries_in_order d ≡ entries_in_order c
  unfolding entries_in_order
  order_same =
      rw (
        count_same,
        first-same,
        series-same (entry_at d) (entry_at c) 1 (entry_count c - 1) (λ j l u. entry-same j (omega arith)),
      )

  sound-same : entries_sound d ≡ true
  unfolding entries_sound
  sound-same = rw (count-sound, order_same, long) e

pub code-sound : (r : List ℕ) → record_number r ≡ 0 → entries_sound (code_of r) ≡ true
code-sound r sound = (numberless r sound).entries

pub code-starts : (r : List ℕ) → record_number r ≡ 0 → (marks : Marks) → cut_of (code_of r) ≡ cut marks → Cutted (code_of r) marks
code-starts r sound marks c = cutting-starts (code_of r) marks (code-sound r sound) c

-- A record without a number, whose relocation table is sound.
module _ (S : Members) (r : List ℕ) (sound : record_number r ≡ 0) (placed : relocation_sound r ≡ true) where
  table_kept : Agree (code_of r) (relocated S r) 0 (2 * entry_count (code_of r))
  table_kept x l u =
      copy-kept S r x (places-agree r placed x
      ∙ refuted (has (library_places (code_of r)) x) (λ h. omega (arith, place-behind (code_of r) (code-sound r sound) x h)))

  pub copy-entry : (p : ℕ) → p < entry_count (code_of r) → entry_at (relocated S r) p ≡ entry_at (code_of r) p
  copy-entry = entry-same (code_of r) (relocated S r) (copy-length S r) (code-sound r sound) table_kept

  pub copy-count : entry_count (relocated S r) ≡ entry_count (code_of r)
  copy-count = count_same (code_of r) (relocated S r) (copy-length S r) (code-sound r sound) table_kept

  pub copy-region : (p : ℕ) → p < entry_count (code_of r) → region_end (relocated S r) p ≡ region_end (code_of r) p
  copy-region = region-same (code_of r) (relocated S r) (copy-length S r) (code-sound r sound) table_kept

  pub copy-sound : entries_sound (relocated S r) ≡ true
  copy-sound = sound-same (code_of r) (relocated S r) (copy-length S r) (code-sound r sound) table_kept
