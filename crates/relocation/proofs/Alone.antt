-- A record by itself that no number refuses imports nothing, so that no external instruction is cut and the relocation table is
-- empty: its copy is its code.
use mathlib.Core.Bool.{true, ◌&&◌, and-true, and-eq-true_iff}
use mathlib.Core.List.{List, [], ◌∷◌, append-nil}
use mathlib.Core.Path.{◌≡◌, ◌∙◌, refl, sym, ap}
use Prim.Native.Nat.{ℕ}
use native.Mathlib.Omega.{arith}
use lib.Dec.{ltb, leb}
use lib.ListN.{length}
use lib.Seq.{ext_get_or}
use borrow.Author.Tests.{ltb-true, leb-true}
use Rattle.words.specs.Bytes.{byte_at, word_at}
use Rattle.words.specs.Order.{every}
use Rattle.words.proofs.Series.{series-length}
use Rattle.header.specs.Header.{header_of, code_of}
use Rattle.module_set.specs.Members.{Members, single, imports_of}
use Rattle.module_set.specs.Linked.{has}
use Rattle.module_set.proofs.Among.{none-among}
use Rattle.module_set.proofs.Linking.{linked-imports}
use Rattle.relocation.specs.Places.{library_places}
use Rattle.relocation.specs.Relocation.{relocations_of, import_number, relocation_sound, set_number, relocated, copy_of}
use Rattle.relocation.proofs.Rewriting.{relocated-length, relocated-kept}
use Rattle.relocation.proofs.Sound.{set_sound}

-- No place has a number of an empty import list.
no_number : (r places : List ℕ) → (header_of r).imports ≡ 0 →
    every (λ at. has (relocations_of r) at && import_number r at) places ≡ true
    → places ≡ []
no_number r [] i e = refl
no_number r (at ∷ places) i e =
    let b = byte_at (code_of r) at in
    let t = (and-eq-true_iff (has (relocations_of r) at && import_number r at) _).0 e in
    let u = (and-eq-true_iff (has (relocations_of r) at) (import_number r at)).0 t.0 in
    let v = (and-eq-true_iff (ltb 0 b) (leb b (header_of r).imports)).0 u.1 in
    absurd (omega (arith, ltb-true 0 b v.0, leb-true b (header_of r).imports v.1))

module _ (r results : List ℕ) (e : set_number (single r results) ≡ 0) where
  abbrev S : Members
  S = single r results

  pub no-imports : (header_of r).imports ≡ 0
  no-imports =
      let all : every (has []) (imports_of r) ≡ true = sym (and-true (every (has []) (imports_of r)))
      ∙ linked-imports S (set_sound S e).linked in
      sym (series-length (word_at r) 4 28 (header_of r).imports) ∙ ap length (none-among (imports_of r) all)

  sound : (every (has (library_places (code_of r))) (relocations_of r) ≡ true)
      × (every (λ at. has (relocations_of r) at && import_number r at) (library_places (code_of r)) ≡ true)
  unfolding relocation_sound
  sound = (and-eq-true_iff (every (has (library_places (code_of r))) (relocations_of r)) _).0
      ((set_sound S e).relocations 0 (omega arith))

  pub no-places : library_places (code_of r) ≡ []
  no-places = no_number r (library_places (code_of r)) no-imports sound.1

  pub no-entries : relocations_of r ≡ []
  no-entries = none-among (relocations_of r) (rw no-places at sound.0)

  pub relocated-alone : relocated S r ≡ code_of r
  relocated-alone =
      ext_get_or 0 (relocated S r) (code_of r) (relocated-length S r)
      (λ i h. relocated-kept S r i (omega (arith, relocated-length S r)) (ap (λ (xs : List ℕ). has xs i) no-entries))

  pub copy-alone : copy_of (single r results) ≡ code_of r
  unfolding copy_of
  copy-alone = append-nil (relocated S r) ∙ relocated-alone
