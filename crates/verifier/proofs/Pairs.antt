-- Height and topmost origin determine a list: what lies under a label is told by the map, and a list whose topmost label is an
-- origin's is longer than the list under that label. Lists that are coherent stay so as the map grows.
use mathlib.Core.Bool.{true≢false}
use mathlib.Core.List.{List, ◌∷◌}
use mathlib.Core.Path.{◌≡◌, refl, sym, ap, ◌∙◌}
use Prim.Native.Nat.{ℕ, ◌+◌, ◌<◌}
use native.Mathlib.Omega.{arith}
use lib.ListN.{length}
use Rattle.stackmap.specs.Slots.{Slot, word, top_origin}
use Rattle.stackmap.specs.StackMap.{Map}
use Rattle.stackmap.proofs.Placing.{Grows}
use Rattle.verifier.proofs.Coherence.{Lies, on-iter, on_switch, Coherent, on-nothing, on_word, on-label}

module _ (code : List ℕ) (π : Map) where
  lies_same : (m : ℕ) (l k : List Slot) → Lies code π m l → Lies code π m k → l ≡ k
  lies_same m l k (on-iter a e r p) (on-iter b f s q) = cc
  lies_same m l k (on-iter a e r p) (on_switch b c f) = absurd (true≢false (sym a ∙ b))
  lies_same m l k (on_switch a d e) (on-iter b f s q) = absurd (true≢false (sym b ∙ a))
  lies_same m l k (on_switch a d e) (on_switch b c f) = cc

  lies-equal : (m n : ℕ) (l k : List Slot) → m ≡ n → Lies code π m l → Lies code π n k → l ≡ k
  lies-equal m n l k e L K = lies_same n l k (rw e at L) K

  -- A label is above what lies under it.
  longer : (m : ℕ) (l k : List Slot) → Coherent code π l → Lies code π m k → top_origin l ≡ m + 1 → length k < length l
  longer m l k on-nothing K e = absurd (omega arith)
  longer m l k (on_word {l = r} c) K e = omega (arith, longer m r k c K e)
  longer m l k (on-label {origin = n} {l = r} L c) K e =
      let same : r ≡ k = lies-equal n m r k (omega arith) L K in
      rw same (omega arith)

  pub pair-determines : (l k : List Slot) → Coherent code π l → Coherent code π k → length l ≡ length k
      → top_origin l ≡ top_origin k → l ≡ k
  pair-determines l k on-nothing on-nothing h o = refl
  pair-determines l k on-nothing (on_word d) h o = absurd (omega arith)
  pair-determines l k on-nothing (on-label K d) h o = absurd (omega arith)
  pair-determines l k (on_word c) on-nothing h o = absurd (omega arith)
  pair-determines l k (on_word {l = r} c) (on_word {l = s} d) h o = ap (word ∷◌) (pair-determines r s c d (omega arith) o)
  pair-determines l k (on_word {l = r} c) (on-label {origin = n} {l = s} K d) h o = absurd (omega (arith, longer n r s c K o))
  pair-determines l k (on-label L c) on-nothing h o = absurd (omega arith)
  pair-determines l k (on-label {origin = m} {l = r} L c) (on_word {l = s} d) h o = absurd (omega (arith, longer m s r d L (sym o)))
  pair-determines l k (on-label {origin = m} {l = r} L c) (on-label {origin = n} {l = s} K d) h o =
      let same : m ≡ n = omega arith in
      rw (same, lies-equal m n r s same L K)

lies-grows : (code : List ℕ) (π π' : Map) (m : ℕ) (l : List Slot) → Grows π π' → Lies code π m l → Lies code π' m l
lies-grows code π π' m l g (on-iter a e r p) = on-iter a (g m l e) r p
lies-grows code π π' m l g (on_switch a b e) = on_switch a b (g m (word ∷ l) e)

pub coherent-grows : (code : List ℕ) (π π' : Map) (l : List Slot) → Grows π π' → Coherent code π l → Coherent code π' l
coherent-grows code π π' l g on-nothing = on-nothing
coherent-grows code π π' l g (on_word {l = r} c) = on_word (coherent-grows code π π' r g c)
coherent-grows code π π' l g (on-label {origin = m} {l = r} L c) = on-label (lies-grows code π π' m r g L) (coherent-grows code π π' r g c)
