-- What the numbers 1 to 3 and 1 to 7 being absent says, the sizes of the record, its source table and its entries; and how large
-- numbers are. A refusal of 0 passes each of its tests.
use mathlib.Core.Bool.{true, cond, ◌&&◌, and-eq-true_iff}
use mathlib.Core.List.{List}
use mathlib.Core.Path.{◌≡◌, ◌∙◌, refl, ap}
use Prim.Native.Nat.{ℕ, ◌≤◌}
use native.Mathlib.Omega.{arith}
use lib.Dec.{eqb, leb}
use lib.ListN.{length, drop, length-take}
use borrow.Author.Tests.{leb-true, ltb-false, eqb-true, not-false, le-leb, le-ltb, eq-eqb}
use Rattle.std.proofs.lemmas.Result.{err_from_is_err_and}
use Rattle.std.specs.Prelude.{Result, Ok, Err, IsErrAnd}
use Rattle.words.specs.Refusal.{refusal}
use Rattle.words.proofs.Refusal.{cleared, most, refusal-append}
use Rattle.header.specs.Header.{header_of, sizes_fit, record_length, code_at, code_of}
use Rattle.header.specs.declared.Header.{Header}
use Rattle.numbers.specs.Number.{number_of}
use Rattle.numbers.specs.declared.Refusal.{Refusal}
use Rattle.numbers.proofs.Refusing.{refuses}
use Rattle.source.specs.Source.{source_sound}
use Rattle.entries.specs.Entries.{entries_sound}
use Rattle.record.specs.Number.{size_tests, size_number, part_tests, record_tests, record_number}
use Rattle.record.specs.Sound.{SourcesSound}

-- Where 1 to 3 are given that is the number, else the other tests decide.
sizes-first : (r : List ℕ) → record_number r ≡ cond (eqb (size_number r) 0) (refusal (part_tests r)) (size_number r)
unfolding size_number record_number
sizes-first r = refusal-append (size_tests r) (part_tests r) refl

pub size-refuses : (r : List ℕ) (e : Refusal) → number_of e ≡ size_number r → number_of e ≡ record_number r
size-refuses r e same = rw (sizes-first r, ← same, refuses e)

pub parts-decide : (r : List ℕ) → 0 ≡ size_number r → record_number r ≡ refusal (part_tests r)
parts-decide r none = rw (sizes-first r, ← none)

-- What `?` hands on is the refusal that it met.
pub handed-on : {A : Type 0} (r : Result A Refusal) (e : Refusal) → IsErrAnd r (λ (y : Refusal). y ≡ e) → r ≡ Err e
handed-on r e h =
    let p = err_from_is_err_and r h in
    p.1 ∙ ap Err p.2

-- What a sound record has for an answer (its header, a line of its source), a refused one has its number.
pub refused : {A : Type 0} (r : List ℕ) (answer : A) (e : Refusal) → number_of e ≡ record_number r
    → ◌≡◌ {A = Result A ℕ} (Err (number_of e)) (cond (eqb (record_number r) 0) (Ok answer) (Err (record_number r)))
refused r answer e same = rw (← same, refuses e)

pub record Sized (r : List ℕ) : Type 0 where
  pub header : 28 ≤ length r
  pub sizes : sizes_fit (header_of r) ≡ true
  pub whole : length r ≡ record_length (header_of r)

pub sized : (r : List ℕ) → size_number r ≡ 0 → Sized r
unfolding size_number
sized r e =
    let c = cleared (size_tests r) refl e in
    let size = record_length (header_of r) in
    record {
      header = ltb-false (length r) 28 c.0;
      sizes = not-false (sizes_fit (header_of r)) c.1.0;
      whole = eqb-true (length r) size (not-false (eqb (length r) size) c.1.1.0);
    }

pub size-cleared : (r : List ℕ) → Sized r → size_number r ≡ 0
unfolding size_number
size-cleared r s = rw (le-ltb (length r) 28 s.header, s.sizes, eq-eqb (length r) (record_length (header_of r)) s.whole)

pub record Numberless (r : List ℕ) : Type 0 where
  pub sizes : sizes_fit (header_of r) ≡ true
  pub sources : source_sound r (header_of r) ≡ true
  pub entries : entries_sound (code_of r) ≡ true

pub numberless : (r : List ℕ) → record_number r ≡ 0 → Numberless r
unfolding record_number
numberless r e =
    let c = cleared (record_tests r) refl e in
    record {
      sizes = not-false (sizes_fit (header_of r)) c.1.0;
      sources = not-false (source_sound r (header_of r)) c.1.1.1.1.0;
      entries = not-false (entries_sound (code_of r)) c.1.1.1.1.1.0;
    }

pub sources-sound : SourcesSound
sources-sound r e = (numberless r e).sources

pub record-range : (r : List ℕ) → record_number r ≤ 7
unfolding record_number
record-range r = most 7 (record_tests r) refl

-- Sizes that fit are at most the largest.
pub record Sizes (h : Header) : Type 0 where
  pub imports : h.imports ≤ 16
  pub code : h.code ≤ 4096
  pub globals : h.globals ≤ 1024
  pub constants : h.constants ≤ 1024
  pub relocation : h.relocation ≤ 4096
  pub versions : h.versions ≤ 16
  pub sources : h.sources ≤ 2048

pub sizes-small : (h : Header) → sizes_fit h ≡ true → Sizes h
unfolding sizes_fit
sizes-small h e =
    let past-relocation = leb h.versions 16 && leb h.sources 2048 in
    let past-constants = leb h.relocation 4096 && past-relocation in
    let past-globals = leb h.constants 1024 && past-constants in
    let past-code = leb h.globals 1024 && past-globals in
    let a = (and-eq-true_iff (leb h.imports 16) (leb h.code 4096 && past-code)).0 e in
    let b = (and-eq-true_iff (leb h.code 4096) past-code).0 a.1 in
    let c = (and-eq-true_iff (leb h.globals 1024) past-globals).0 b.1 in
    let d = (and-eq-true_iff (leb h.constants 1024) past-constants).0 c.1 in
    let f = (and-eq-true_iff (leb h.relocation 4096) past-relocation).0 d.1 in
    let g = (and-eq-true_iff (leb h.versions 16) (leb h.sources 2048)).0 f.1 in
    record {
      imports = leb-true h.imports 16 a.0;
      code = leb-true h.code 4096 b.0;
      globals = leb-true h.globals 1024 c.0;
      constants = leb-true h.constants 1024 d.0;
      relocation = leb-true h.relocation 4096 f.0;
      versions = leb-true h.versions 16 g.0;
      sources = leb-true h.sources 2048 g.1;
    }

pub small-sizes : (h : Header) → Sizes h → sizes_fit h ≡ true
unfolding sizes_fit
small-sizes h s =
    rw (
      le-leb h.imports 16 s.imports,
      le-leb h.code 4096 s.code,
      le-leb h.globals 1024 s.globals,
      le-leb h.constants 1024 s.constants,
      le-leb h.relocation 4096 s.relocation,
      le-leb h.versions 16 s.versions,
      le-leb h.sources 2048 s.sources,
    )

pub sound-sizes : (r : List ℕ) → record_number r ≡ 0 → Sizes (header_of r)
sound-sizes r e = sizes-small (header_of r) (numberless r e).sizes

pub sound-code : (r : List ℕ) → record_number r ≡ 0 → length (code_of r) ≤ 4096
unfolding code_of
sound-code r e = omega (arith, length-take (header_of r).code (drop (code_at (header_of r)) r), (sound-sizes r e).code)
