-- The bytes of the copy: those of the record's code, but for the library bytes.
use mathlib.Core.Bool.{Bool, true, false, ◌&&◌, ◌||◌, and-eq-true_iff, false≢true}
use mathlib.Core.List.{List, [], ◌∷◌}
use mathlib.Core.Path.{◌≡◌, ◌∙◌, refl, sym, ap}
use Prim.Native.Nat.{ℕ, ◌+◌, ◌*◌, ◌<◌, ◌≤◌}
use native.Mathlib.Omega.{arith}
use borrow.Author.Tests.{eqb-true, ltb-true, leb-true, ltb-false}
use lib.Dec.{eqb, ltb, leb}
use lib.ListN.{length}
use Rattle.words.specs.Bytes.{byte_at}
use Rattle.words.specs.Order.{every}
use Rattle.words.proofs.Bytes.{byte_past}
use Rattle.words.proofs.Series.{series-at, series-length}
use Rattle.header.specs.Header.{header_of, code_of}
use Rattle.module_set.specs.Members.{Members, resolved}
use Rattle.module_set.specs.Linked.{has}
use Rattle.relocation.specs.Places.{library_places}
use Rattle.relocation.specs.Relocation.{relocations_of, import_number, relocation_sound, relocated_byte, relocated}

-- What every number passes, each that a list has passes.
pub every-has : (test : ℕ → Bool) (xs : List ℕ) (x : ℕ) → every test xs ≡ true → has xs x ≡ true → test x ≡ true
every-has test [] x e h = absurd (false≢true h)
every-has test (y ∷ ys) x e h =
    let both = (and-eq-true_iff (test y) (every test ys)).0 e in
    by (eqb y x) refl (every-has test ys x both.1) both.0 h
  where
    by : (b : Bool) → eqb y x ≡ b → (has ys x ≡ true → test x ≡ true) → test y ≡ true → (b || has ys x) ≡ true → test x ≡ true
    by true q rest t h = rw (← eqb-true y x q) t
    by false q rest t h = rest h

either_way : (a b : Bool) → (a ≡ true → b ≡ true) → (b ≡ true → a ≡ true) → a ≡ b
either_way true b f g = sym (f refl)
either_way false true f g = absurd (false≢true (g refl))
either_way false false f g = refl

module _ (r : List ℕ) (placed : relocation_sound r ≡ true) where
  both-listed : (every (has (library_places (code_of r))) (relocations_of r) ≡ true)
      × (every (λ at. has (relocations_of r) at && import_number r at) (library_places (code_of r)) ≡ true)
  unfolding relocation_sound
  both-listed = (and-eq-true_iff (every (has (library_places (code_of r))) (relocations_of r)) _).0 placed

  listed : (at : ℕ) → has (library_places (code_of r)) at ≡ true → (has (relocations_of r) at ≡ true) × (import_number r at ≡ true)
  listed at h =
      (and-eq-true_iff (has (relocations_of r) at) (import_number r at)).0
      (every-has (λ x. has (relocations_of r) x && import_number r x) (library_places (code_of r)) at both-listed.1 h)

  -- The relocation table has just the library places.
  pub places-agree : (at : ℕ) → has (relocations_of r) at ≡ has (library_places (code_of r)) at
  places-agree at =
      either_way (has (relocations_of r) at) (has (library_places (code_of r)) at)
      (every-has (has (library_places (code_of r))) (relocations_of r) at both-listed.0) (λ h. (listed at h).0)

  -- A library byte is a number of the import list.
  pub place-import : (at : ℕ) → has (library_places (code_of r)) at ≡ true
      → (1 ≤ byte_at (code_of r) at) × (byte_at (code_of r) at ≤ (header_of r).imports)
  place-import at h =
      let l = byte_at (code_of r) at in
      let n = (header_of r).imports in
      let both = (and-eq-true_iff (ltb 0 l) (leb l n)).0 (listed at h).1 in
      (ltb-true 0 l both.0, leb-true l n both.1)

module _ (S : Members) (r : List ℕ) where
  pub copy-length : length (relocated S r) ≡ length (code_of r)
  unfolding relocated
  copy-length = series-length (relocated_byte S r) 1 0 (length (code_of r))

  pub copy-byte : (at : ℕ) → at < length (code_of r) → byte_at (relocated S r) at ≡ relocated_byte S r at
  unfolding relocated
  copy-byte at h =
      let z : 0 + 1 * at ≡ at = omega arith in
      series-at (relocated_byte S r) 1 0 (length (code_of r)) at h ∙ ap (relocated_byte S r) z

  pub copy-changed : (at : ℕ) → has (relocations_of r) at ≡ true → at < length (code_of r)
      → byte_at (relocated S r) at ≡ resolved S r (byte_at (code_of r) at)
  copy-changed at e h = copy-byte at h ∙ rw e

  pub copy-kept : (at : ℕ) → has (relocations_of r) at ≡ false → byte_at (relocated S r) at ≡ byte_at (code_of r) at
  copy-kept at e = by (ltb at (length (code_of r))) refl
    where
      by : (b : Bool) → ltb at (length (code_of r)) ≡ b → byte_at (relocated S r) at ≡ byte_at (code_of r) at
      by true q = copy-byte at (ltb-true at (length (code_of r)) q) ∙ rw e
      by false q =
          let past : length (code_of r) ≤ at = ltb-false at (length (code_of r)) q in
          byte_past (relocated S r) at (omega (arith, copy-length)) ∙ sym (byte_past (code_of r) at past)
