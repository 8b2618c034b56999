-- A record's code as rewritten: its length, each byte, and that storing the code and then the new numbers gives it. By
-- induction on the entries; an entry that stands twice stores the same number twice.
use mathlib.Core.Bool.{Bool, true, false, cond, ◌||◌}
use mathlib.Core.List.{List, [], ◌∷◌, ◌++◌}
use mathlib.Core.Path.{◌≡◌, ◌∙◌, refl, sym, ap}
use Prim.Native.Nat.{ℕ, ◌+◌, ◌*◌, ◌<◌, ◌≤◌, min}
use native.Mathlib.Omega.{arith}
use lib.Dec.{eqb, ltb}
use lib.ListN.{length, get_or, take, drop, set, length-set, get_or-eq_default, take-append-drop, drop_of_length-le}
use lib.Seq.{sets, length-sets, length-take-le, get_or-set_same, get_or-set_other, ext_get_or}
use borrow.Author.Tests.{lt-ltb, ltb-true, ltb-false, eqb-true, eqb-false}
use Rattle.words.specs.Bytes.{byte_at}
use Rattle.words.proofs.Sets.{sets-other, sets-front, sets-out, sets_behind}
use Rattle.std.proofs.lemmas.List.Edits.{sets-eq}
use Rattle.words.proofs.Series.{series-at, series-length}
use Rattle.header.specs.Header.{code_of}
use Rattle.module_set.specs.Members.{Members, resolved}
use Rattle.module_set.specs.Linked.{has}
use Rattle.relocation.specs.Relocation.{relocations_of, relocated_byte, relocated}
use Rattle.relocation.specs.Marks.{rewritten}

pub relocated-length : (S : Members) (r : List ℕ) → length (relocated S r) ≡ length (code_of r)
unfolding relocated
relocated-length S r = series-length (relocated_byte S r) 1 0 (length (code_of r))

-- A byte as rewritten; past the code there is none.
module _ (S : Members) (r : List ℕ) (i : ℕ) where
  pub relocated-at : i < length (code_of r) → byte_at (relocated S r) i ≡ relocated_byte S r i
  unfolding relocated
  relocated-at h =
      let z : 0 + 1 * i ≡ i = omega arith in
      series-at (relocated_byte S r) 1 0 (length (code_of r)) i h ∙ ap (relocated_byte S r) z

  pub relocated-past : length (code_of r) ≤ i → byte_at (relocated S r) i ≡ 0
  relocated-past h = get_or-eq_default (relocated S r) 0 (omega (arith, relocated-length S r))

  pub relocated-kept : i < length (code_of r) → has (relocations_of r) i ≡ false → byte_at (relocated S r) i ≡ byte_at (code_of r) i
  relocated-kept h e = relocated-at h ∙ rw e

module _ (S : Members) (r : List ℕ) where
  abbrev size : ℕ
  size = length (code_of r)

  abbrev new : ℕ → ℕ
  new i = resolved S r (byte_at (code_of r) i)

  abbrev once : List ℕ → ℕ → List ℕ
  once m e = cond (ltb e size) (set m e (new e)) m

  once-length : (m : List ℕ) (e : ℕ) → length (once m e) ≡ length m
  once-length m e = by (ltb e size)
    where
      by : (b : Bool) → length (cond b (set m e (new e)) m) ≡ length m
      by true = length-set m e (new e)
      by false = refl

  once-other : (m : List ℕ) (e i : ℕ) → (i ≡ e → ⊥) → get_or (once m e) i 0 ≡ get_or m i 0
  once-other m e i n = by (ltb e size)
    where
      by : (b : Bool) → get_or (cond b (set m e (new e)) m) i 0 ≡ get_or m i 0
      by true = get_or-set_other m e i (new e) 0 n
      by false = refl

  pub rewritten-length : (m es : List ℕ) → length (rewritten S r m es) ≡ length m
  rewritten-length m [] = refl
  rewritten-length m (e ∷ es) = rewritten-length (once m e) es ∙ once-length m e

  rewritten-past : (m es : List ℕ) (i : ℕ) → size ≤ i → get_or (rewritten S r m es) i 0 ≡ get_or m i 0
  rewritten-past m [] i h = refl
  rewritten-past m (e ∷ es) i h = rewritten-past (once m e) es i h ∙ by (ltb e size) refl
    where
      by : (b : Bool) → ltb e size ≡ b → get_or (cond b (set m e (new e)) m) i 0 ≡ get_or m i 0
      by true q = get_or-set_other m e i (new e) 0 (λ s. omega (arith, ltb-true e size q))
      by false q = refl

  rewritten-at : (m es : List ℕ) (i : ℕ) → i < length m → i < size →
      get_or (rewritten S r m es) i 0 ≡ cond (has es i) (new i) (get_or m i 0)
  rewritten-at m [] i h g = refl
  rewritten-at m (e ∷ es) i h g =
      rewritten-at (once m e) es i (omega (arith, once-length m e)) g ∙ by (eqb e i) refl (has es i)
    where
      by : (b : Bool) → eqb e i ≡ b → (t : Bool) → cond t (new i) (get_or (once m e) i 0) ≡ cond (b || t) (new i) (get_or m i 0)
      by true q true = refl
      by true q false =
          let same : e ≡ i = eqb-true e i q in
          rw (same, lt-ltb i size g) (get_or-set_same m i (new i) 0 h)
      by false q true = refl
      by false q false = once-other m e i (λ s. eqb-false e i q (sym s))

  pub rewritten-all : (m : List ℕ) → rewritten S r (sets m 0 (code_of r)) (relocations_of r) ≡ sets m 0 (relocated S r)
  rewritten-all m =
      let copied = sets m 0 (code_of r) in
      let done = rewritten S r copied (relocations_of r) in
      let long : length done ≡ length m = rewritten-length copied (relocations_of r) ∙ length-sets m 0 (code_of r) in
      ext_get_or 0 done (sets m 0 (relocated S r)) (long ∙ sym (length-sets m 0 (relocated S r)))
      (λ i h. by i (omega arith) (ltb i size) refl)
    where
      by : (i : ℕ) → i < length m → (b : Bool) → ltb i size ≡ b →
          get_or (rewritten S r (sets m 0 (code_of r)) (relocations_of r)) i 0 ≡ get_or (sets m 0 (relocated S r)) i 0
      by i h true e =
          let g : i < size = ltb-true i size e in
          rewritten-at (sets m 0 (code_of r)) (relocations_of r) i (omega (arith, length-sets m 0 (code_of r))) g
          ∙ rw (
            sets-front (code_of r) m i g h,
            sets-front (relocated S r) m i (omega (arith, relocated-length S r)) h,
            relocated-at S r i g,
          )
      by i h false e =
          let g : size ≤ i = ltb-false i size e in
          rewritten-past (sets m 0 (code_of r)) (relocations_of r) i g
          ∙ (sets-other m 0 (code_of r) i (λ a b. omega arith)
          ∙ sym (sets-other m 0 (relocated S r) i (λ a b. omega (arith, relocated-length S r))))

-- Code stored at the front, as much as there is room for.
pub front-stored : (code m : List ℕ) (n : ℕ) → n ≡ min (length code) (length m) → take n code ++ drop n m ≡ sets m 0 code
front-stored code m n e = by (ltb (length m) (length code)) refl
  where
    first : List ℕ
    first = take n code

    long : length first ≡ n
    long = length-take-le n code (omega (arith, e))

    stored : take n code ++ drop n m ≡ sets m 0 first
    stored =
        let z : 0 + length first ≡ n = omega (arith, long) in
        sym (sets-eq first m 0 (omega (arith, e, long)) ∙ ap (λ (k : ℕ). first ++ drop k m) z)

    whole : sets (sets m 0 first) n (drop n code) ≡ sets m 0 code
    whole =
        sets_behind m 0 n first (drop n code) (omega (arith, long))
        ∙ ap (λ (xs : List ℕ). sets m 0 xs) (take-append-drop n code)

    by : (b : Bool) → ltb (length m) (length code) ≡ b → take n code ++ drop n m ≡ sets m 0 code
    by true q =
        let past : length (sets m 0 first) ≤ n = omega (arith, length-sets m 0 first, ltb-true (length m) (length code) q, e) in
        stored ∙ (sym (sets-out (sets m 0 first) n (drop n code) past) ∙ whole)
    by false q =
        let none : drop n code ≡ [] = drop_of_length-le code {i = n} (omega (arith, ltb-false (length m) (length code) q, e)) in
        stored ∙ (rw none at whole)
