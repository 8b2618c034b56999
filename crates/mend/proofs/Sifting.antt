-- The pairs of a source table, kept and dropped, as a data type with a case for each: laws about them go by its cases. How many
-- there are, and how many bytes those that are kept have.
use mathlib.Core.Bool.{Bool, true, false, cond, and-eq-true_iff}
use mathlib.Core.List.{List, [], ◌∷◌, ◌++◌, append-nil, append_assoc}
use mathlib.Core.Path.{◌≡◌, ◌∙◌, refl, sym, ap}
use Prim.Native.Nat.{ℕ, zero, suc, ◌+◌, ◌*◌, ◌≤◌, ◌<◌}
use native.Mathlib.Omega.{arith}
use lib.Dec.{leb, ltb}
use lib.ListN.{length, take, drop, length-append, length-take, length-drop}
use lib.Seq.{sets, length-take-le}
use borrow.Author.Tests.{leb-true, ltb-true}
use Rattle.words.specs.Bytes.{word_at}
use Rattle.words.proofs.Sets.{sets_behind}
use Rattle.header.specs.declared.Header.{Header}
use Rattle.mend.specs.Mend.{keeps, kept_from, dropped_from, pair_bytes}

pub data Sifted (r : List ℕ) (h : Header) : (least at n : ℕ) → (kept dropped : List ℕ) → Type 0 where
  over : {least at : ℕ} → Sifted r h least at 0 [] []
  keep : {least at n : ℕ} {kept dropped : List ℕ} → least ≤ word_at r at → word_at r at < h.code
      → Sifted r h (word_at r at + 1) (at + 8) n kept dropped → Sifted r h least at (suc n) (at ∷ kept) dropped
  lose : {least at n : ℕ} {kept dropped : List ℕ} → keeps h least (word_at r at) ≡ false
      → Sifted r h least (at + 8) n kept dropped → Sifted r h least at (suc n) kept (at ∷ (at + 4) ∷ dropped)

module _ (r : List ℕ) (h : Header) where
  one-sifted : (least at n : ℕ) (b : Bool) → keeps h least (word_at r at) ≡ b
      → ((l : ℕ) → Sifted r h l (at + 8) n (kept_from r h l (at + 8) n) (dropped_from r h l (at + 8) n))
      → let l = cond b (word_at r at + 1) least in
      let kept = kept_from r h l (at + 8) n in
      let dropped = dropped_from r h l (at + 8) n in
      Sifted r h least at (suc n) (cond b (at ∷ kept) kept) (cond b dropped (at ∷ (at + 4) ∷ dropped))
  one-sifted least at n true e rest =
      let k = (and-eq-true_iff (leb least (word_at r at)) (ltb (word_at r at) h.code)).0 e in
      keep (leb-true least (word_at r at) k.0) (ltb-true (word_at r at) h.code k.1) (rest (word_at r at + 1))
  one-sifted least at n false e rest = lose e (rest least)

  pub sifted : (least at n : ℕ) → Sifted r h least at n (kept_from r h least at n) (dropped_from r h least at n)
  sifted least at zero = over
  sifted least at (suc n) = one-sifted least at n (keeps h least (word_at r at)) refl (λ l. sifted l (at + 8) n)

-- A pair of a list that is long enough has 8 bytes.
pub eight-bytes : (r : List ℕ) (at : ℕ) → at + 8 ≤ length r → length (take 8 (drop at r)) ≡ 8
eight-bytes r at l = length-take-le 8 (drop at r) (simp length-drop (omega arith))

one-pair-more : (r kept : List ℕ) (at : ℕ) → pair_bytes r (kept ++ (at ∷ [])) ≡ pair_bytes r kept ++ take 8 (drop at r)
one-pair-more r [] at = append-nil (take 8 (drop at r))
one-pair-more r (x ∷ kept) at =
    ap (λ (l : List ℕ). take 8 (drop x r) ++ l) (one-pair-more r kept at)
    ∙ sym (append_assoc (take 8 (drop x r)) (pair_bytes r kept) (take 8 (drop at r)))

-- Pairs are stored from a place on, and the next place is behind them: one pair more.
pub record Copied (r before : List ℕ) (to : ℕ) (kept out : List ℕ) (next : ℕ) : Type 0 where
  pub stores : out ≡ sets before to (pair_bytes r kept)
  pub ends : next ≡ to + length (pair_bytes r kept)

pub one-pair-copied : {r before kept out after : List ℕ} {to next new : ℕ} (at : ℕ) → Copied r before to kept out next
    → at + 8 ≤ length r → after ≡ sets out next (take 8 (drop at r)) → new ≡ next + 8
    → Copied r before to (kept ++ (at ∷ [])) after new
one-pair-copied {r} {before} {kept} {to = to} {next} at c l a n =
    let pair = take 8 (drop at r) in
    record {
      stores = rw (one-pair-more r kept at) (a ∙ rw c.stores (sets_behind before to next (pair_bytes r kept) pair c.ends));
      ends = rw (one-pair-more r kept at, length-append (pair_bytes r kept) pair) (omega (arith, c.ends, eight-bytes r at l));
    }

pub pairs-most : (r kept : List ℕ) → length (pair_bytes r kept) ≤ 8 * length kept
pairs-most r [] = omega arith
pairs-most r (x ∷ kept) =
    rw (length-append (take 8 (drop x r)) (pair_bytes r kept)) (omega (arith, length-take 8 (drop x r), pairs-most r kept))

module _ {r : List ℕ} {h : Header} where
  -- Each pair is kept or both of its words are dropped.
  pub pairs-counted : {least at n : ℕ} {kept dropped : List ℕ} → Sifted r h least at n kept dropped
      → 2 * length kept + length dropped ≡ 2 * n
  pairs-counted over = refl
  pairs-counted (keep from below s) = let e = pairs-counted s in omega arith
  pairs-counted (lose e s) = let e = pairs-counted s in omega arith

  -- Where the table is in the record each pair has 8 bytes.
  pub kept-bytes : {least at n : ℕ} {kept dropped : List ℕ} → Sifted r h least at n kept dropped → at + 8 * n ≤ length r
      → length (pair_bytes r kept) ≡ 8 * length kept
  kept-bytes over l = refl
  kept-bytes {at = at} (keep {kept = kept} from below s) l =
      let e = kept-bytes s (omega arith) in
      rw (length-append (take 8 (drop at r)) (pair_bytes r kept), eight-bytes r at (omega arith)) (omega arith)
  kept-bytes (lose e s) l = kept-bytes s (omega arith)
