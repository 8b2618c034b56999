-- The library numbers of the copy are numbers of modules: an import of a linked set is the SID of a library, and a SID that is
-- found has a number from 1 up to that of the libraries.
use mathlib.Core.Bool.{Bool, true, false, cond, and-eq-true_iff, false≢true}
use mathlib.Core.List.{List, [], ◌∷◌}
use mathlib.Core.Path.{◌≡◌, ◌∙◌, refl, sym, ap}
use Prim.Native.Nat.{ℕ, zero, suc, ◌+◌, ◌*◌, ◌-◌, ◌<◌, ◌≤◌}
use native.Mathlib.Nat.{mul-zero, mul-suc, add-zero}
use native.Mathlib.Omega.{arith}
use borrow.Author.Tests.{eq-eqb, leb-true, ltb-true, ltb-false}
use lib.Dec.{eqb, leb, ltb}
use lib.ListN.{length, get_or}
use Rattle.words.specs.Bytes.{byte_at, Bytes, word_at}
use Rattle.words.specs.Order.{every}
use Rattle.words.specs.Series.{series}
use Rattle.words.proofs.Bytes.{byte_past, bytes_take, bytes_drop}
use Rattle.words.proofs.Tests.{either}
use Rattle.entries.specs.Entries.{region_end}
use Rattle.header.specs.Header.{header_of, code_at, code_of}
use Rattle.record.specs.Number.{record_number}
use Rattle.opcode.specs.Decode.{decode_at}
use Rattle.std.specs.Prelude.{Ok}
use Rattle.opcode.specs.declared.instruction.Instruction.{Instruction}
use Rattle.layout.specs.Cut.{Marks, cut, cut_of, starts_in}
use Rattle.module_set.specs.Members.{Member, Members, member_at, libraries, imports_of, number_from, number_of, resolved}
use Rattle.module_set.specs.Linked.{has, every_member, sids_of, distinct, linked}
use Rattle.module_set.proofs.Linking.{lent, lent-number, imports_lent, resolved-import, number_small}
use Rattle.relocation.specs.Places.{is_external}
use Rattle.relocation.specs.Relocation.{relocations_of, relocation_sound, relocated}
use Rattle.relocated.proofs.Renumbering.{library_of, inner-kept}
use Rattle.relocated.proofs.External.{external-library}
use Rattle.relocated.proofs.Copying.{copy-length, copy-byte}
use Rattle.relocated.proofs.Decoding.{Original, start-import, library-byte, original}

number-from : (k : ℕ) (S : Members) (sid : ℕ) → (number_from k S sid ≡ 0 → ⊥)
    → (k ≤ number_from k S sid) × (number_from k S sid < k + length S)
number-from k [] sid h = absurd (h refl)
number-from k (M ∷ S) sid h = by (eqb M.sid sid) h (number-from (k + 1) S sid)
  where
    by : (b : Bool) → (cond b k (number_from (k + 1) S sid) ≡ 0 → ⊥)
        → ((number_from (k + 1) S sid ≡ 0 → ⊥)
        → (k + 1 ≤ number_from (k + 1) S sid) × (number_from (k + 1) S sid < k + 1 + length S))
        → (k ≤ cond b k (number_from (k + 1) S sid)) × (cond b k (number_from (k + 1) S sid) < k + suc (length S))
    by true h rest = (omega arith, omega arith)
    by false h rest = let both = rest h in (omega (arith, both.0), omega (arith, both.1))

-- A SID that is found is that of a library.
pub number-range : (S : Members) (sid : ℕ) → (number_of S sid ≡ 0 → ⊥) → (1 ≤ number_of S sid) × (number_of S sid < length S)
unfolding number_of
number-range [] sid h = absurd (h refl)
number-range (M ∷ S) sid h = let both = number-from 1 S sid h in (both.0, omega (arith, both.1))

every-member : (test : Member → Bool) (S : Members) (k : ℕ) → every_member test S ≡ true → k < length S
    → test (member_at S k) ≡ true
every-member test [] k e h = absurd (omega arith)
every-member test (M ∷ S) zero e h = ((and-eq-true_iff (test M) (every_member test S)).0 e).0
every-member test (M ∷ S) (suc k) e h =
    every-member test S k ((and-eq-true_iff (test M) (every_member test S)).0 e).1 (omega arith)

every-series : (test : ℕ → Bool) (f : ℕ → ℕ) (stride at n j : ℕ) → every test (series f stride at n) ≡ true → j < n
    → test (f (at + stride * j)) ≡ true
every-series test f stride at zero j e h = absurd (omega arith)
every-series test f stride at (suc n) zero e h =
    rw (mul-zero stride, add-zero) ((and-eq-true_iff (test (f at)) (every test (series f stride (at + stride) n))).0 e).0
every-series test f stride at (suc n) (suc j) e h =
    let z : at + stride * suc j ≡ at + stride + stride * j = rw (mul-suc stride j) (omega arith) in
    rw z
    (every-series test f stride (at + stride) n j
    ((and-eq-true_iff (test (f at)) (every test (series f stride (at + stride) n))).0 e).1 (omega arith))

-- The copy of bytes is bytes: a set has at most 16 modules.
resolved-small : (S : Members) (r : List ℕ) → length S ≤ 16 → (l : ℕ) → resolved S r l < 256
unfolding resolved
resolved-small S r few zero = omega arith
resolved-small S r few (suc l) =
    let x = get_or (imports_of r) l 0 in
    either (λ (n : ℕ). n < 256) (ltb l (length (imports_of r))) (number_of S x) 0 (omega (arith, number_small S x)) (omega arith)

pub code-bytes : (r : List ℕ) → Bytes r → Bytes (code_of r)
unfolding code_of
code-bytes r bytes = bytes_take (header_of r).code _ (bytes_drop (code_at (header_of r)) r bytes)

pub copy-bytes : (S : Members) (r : List ℕ) → linked S ≡ true → Bytes r → Bytes (relocated S r)
unfolding linked
copy-bytes S r together bytes at = by (ltb at (length (code_of r))) refl
  where
    few : length S ≤ 16
    few = leb-true (length S) 16 ((and-eq-true_iff (leb (length S) 16) _).0 together).0

    by : (b : Bool) → ltb at (length (code_of r)) ≡ b → byte_at (relocated S r) at < 256
    by true e =
        rw (copy-byte S r at (ltb-true at (length (code_of r)) e))
        (either (λ (n : ℕ). n < 256) (has (relocations_of r) at) _ _ (resolved-small S r few (byte_at (code_of r) at))
        (code-bytes r bytes at))
    by false e =
        rw (byte_past (relocated S r) at (omega (arith, copy-length S r, ltb-false at (length (code_of r)) e))) (omega arith)

-- A member of a linked set.
module _ (S : Members) (r : List ℕ) (together : linked S ≡ true)
    (k : ℕ) (inside : k < length S) (member : (member_at S k).bytes ≡ r) where
  imports-lent : every (lent S) (imports_of r) ≡ true
  unfolding linked
  imports-lent =
      let a = (and-eq-true_iff (leb (length S) 16) _).0 together in
      let b = (and-eq-true_iff (distinct (sids_of (libraries S))) (every_member (imports_lent S) S)).0 a.1 in
      rw member at (every-member (imports_lent S) S k b.1 inside)

  -- The number of each import is that of a library.
  pub resolved-range : (l : ℕ) → 1 ≤ l → l ≤ (header_of r).imports → (1 ≤ resolved S r l) × (resolved S r l < length S)
  resolved-range l some most =
      let x = word_at r (24 + 4 * l) in
      let n = (header_of r).imports in
      let z : 28 + 4 * (l - 1) ≡ 24 + 4 * l = omega arith in
      let is : lent S x ≡ true = rw z at (every-series (lent S) (word_at r) 4 28 n (l - 1) imports-lent (omega arith)) in
      rw (resolved-import S r l (λ e. omega arith) most)
      (number-range S x (λ e. false≢true (rw (lent-number S x, eq-eqb (number_of S x) 0 e) at is)))

  -- An external instruction that starts in the copy has the number of a library.
  pub copy-number : record_number r ≡ 0 → relocation_sound r ≡ true
      → (marks : Marks) → cut_of (code_of r) ≡ cut marks → (p at : ℕ) → starts_in marks p at ≡ true → (j : Instruction) (next : ℕ)
      → decode_at (relocated S r) (region_end (relocated S r) p) at ≡ Ok (j, next) → is_external j ≡ true
      → (1 ≤ library_of j) × (library_of j < length S)
  copy-number sound placed marks c p at s j next d x =
      let O = original S r sound placed marks c p at s j next d in
      by O (is_external O.i) refl
    where
      by : (O : Original S r p at j next) (b : Bool) → is_external O.i ≡ b → (1 ≤ library_of j) × (library_of j < length S)
      by O true y =
          let copy = relocated S r in
          let both = start-import S r sound placed marks c p at s O.i next O.decoded y in
          rw (
            external-library copy (region_end copy p) at j next d x,
            library-byte S r sound placed marks c p at s O.i next O.decoded y,
          ) (resolved-range (library_of O.i) both.0 both.1)
      by O false y =
          let same : j ≡ O.i = O.same ∙ inner-kept (resolved S r) O.i y in
          absurd (false≢true (sym y ∙ (sym (ap is_external same) ∙ x)))
