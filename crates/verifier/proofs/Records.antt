-- What the numbers 1 to 9, 17 and 18 being absent says of a set: its records, the own workspace's room and the results lists;
-- and that the bytes of a code are bytes.
use mathlib.Core.Bool.{Bool, true, false, ◌||◌, false≢true}
use mathlib.Core.List.{List}
use mathlib.Core.Path.{◌≡◌, refl, sym}
use Prim.Native.Nat.{ℕ, ◌+◌, ◌*◌, ◌≤◌, ◌<◌}
use native.Mathlib.Omega.{arith}
use lib.Dec.{leb, ltb}
use lib.ListN.{length, get_or, take, drop, length-take, get_or-eq_default}
use lib.Seq.{get_or-take, get_or-drop}
use borrow.Author.Tests.{ltb-true, ltb-false, leb-false, ne_eqb, not-false}
use Rattle.words.specs.Bytes.{Bytes}
use Rattle.header.specs.Header.{header_of, code_at, code_of}
use Rattle.entries.specs.Entries.{entries_sound}
use Rattle.record.specs.Number.{record_number}
use Rattle.record.proofs.Sound.{numberless, sound-code, sound-sizes}
use Rattle.module_set.specs.Members.{Members, member_at}
use Rattle.module_set.specs.Linked.{every_member}
use Rattle.relocation.specs.Relocation.{set_number}
use Rattle.relocation.proofs.Sound.{set_sound, set-cleared}
use Rattle.workspace.specs.Checking.{checking}
use Rattle.verifier.specs.Check.{results_sound, list_tests, list_number, set_check}
use Rattle.verifier.specs.Tables.{Linkable}

neither : (a b : Bool) → (a || b) ≡ false → (a ≡ false) × (b ≡ false)
neither true b e = absurd (false≢true (sym e))
neither false b e = (refl, e)

-- A module of a set without a number up to 7.
pub record Module (S : Members) (k : ℕ) : Type 0 where
  pub sound : record_number (member_at S k).bytes ≡ 0
  pub entries : entries_sound (code_of (member_at S k).bytes) ≡ true
  pub small : length (code_of (member_at S k).bytes) ≤ 4096

pub a-module : (S : Members) (k : ℕ) → set_number S ≡ 0 → k < length S → Module S k
a-module S k e h =
    let r = (member_at S k).bytes in
    let n : record_number r ≡ 0 = (set_sound S e).sound k h in
    record { sound = n; entries = (numberless r n).entries; small = sound-code r n }

pub record Listed (S : Members) (own room : ℕ) : Type 0 where
  pub linkable : Linkable S
  pub inside : own < length S
  pub enough : 4 * length (code_of (member_at S own).bytes) ≤ room

pub listed : (S : Members) (own room : ℕ) → list_number S own room ≡ 0 → Listed S own room
unfolding list_number
listed S own room e =
    let size = 4 * length (code_of (member_at S own).bytes) in
    let fits = every_member (λ M. results_sound (code_of M.bytes) M.results) S in
    let c = set-cleared S (list_tests S own room) refl e in
    let near = neither (leb (length S) own) (ltb room size) c.1.0 in
    record {
      linkable = record { numberless = c.0; fitting = not-false fits c.1.1.0 };
      inside = leb-false (length S) own near.0;
      enough = ltb-false room size near.1;
    }

-- The bytes of the code are bytes of the record.
pub code-bytes : (r : List ℕ) → Bytes r → Bytes (code_of r)
unfolding code_of
code-bytes r b i = by (ltb i (header_of r).code) refl
  where
    by : (t : Bool) → ltb i (header_of r).code ≡ t → get_or (take (header_of r).code (drop (code_at (header_of r)) r)) i 0 < 256
    by true e =
        rw (
          get_or-take (header_of r).code (drop (code_at (header_of r)) r) i 0 (ltb-true i (header_of r).code e),
          get_or-drop (code_at (header_of r)) r i 0,
        )
        (b (code_at (header_of r) + i))
    by false e =
        let z : length (take (header_of r).code (drop (code_at (header_of r)) r)) ≤ i =
        omega (arith, length-take (header_of r).code (drop (code_at (header_of r)) r), ltb-false i (header_of r).code e) in
        rw (get_or-eq_default (take (header_of r).code (drop (code_at (header_of r)) r)) 0 z)
        (let y : 0 < 256 = omega arith in y)

-- It has at most sixteen imports.
pub imports-few : (S : Members) (k : ℕ) → set_number S ≡ 0 → k < length S → (header_of (member_at S k).bytes).imports ≤ 16
imports-few S k e h = (sound-sizes (member_at S k).bytes (a-module S k e h).sound).imports

-- A number up to 9, 17 or 18 is the check's, and leaves the workspace as it was.
pub list-refuses : (S : Members) (own : ℕ) (w : List ℕ) (n : ℕ) → n ≡ list_number S own (length w) → (n ≡ 0 → ⊥)
    → checking n w ≡ set_check S own w
unfolding set_check
list-refuses S own w n e some = rw (← e, ne_eqb n 0 some)
