-- A text that fits is printed whole, and one that does not leaves the buffer; measuring it on an empty buffer changes nothing.
use mathlib.Core.Bool.{Bool, true, false, cond}
use mathlib.Core.List.{List, [], ◌∷◌, ◌++◌}
use mathlib.Core.Path.{◌≡◌, refl, ◌∙◌, ap}
use Prim.Native.Nat.{ℕ, suc, ◌+◌, ◌≤◌, ◌<◌}
use native.Mathlib.Omega.{arith}
use borrow.Author.Tests.{le-leb, lt-leb, leb-true}
use lib.Dec.{leb}
use lib.ListN.{length, take, drop}
use lib.Seq.{sets, sets-eq}
use Rattle.text.specs.Text.{Wrote}
use Rattle.report.specs.Report.{Output, output, printed}

sets-nothing : (i : ℕ) (vs : List ℕ) → sets [] i vs ≡ []
sets-nothing i [] = refl
sets-nothing i (v ∷ vs) = sets-nothing (suc i) vs

-- Measured on nothing of the buffer.
measured : (text out : List ℕ) {after : List ℕ} {n : ℕ} → Wrote (take 0 out) 0 text n after → (n ≡ length text) × (after ++ drop 0 out ≡ out)
measured text out {after} w =
    let e : after ≡ [] = w.leaves ∙ sets-nothing 0 text in
    (w.ends ∙ (let z : 0 + length text ≡ length text = omega arith in z), rw e)

too_short : (text out : List ℕ) → length out < length text → output 0 out ≡ printed text out
unfolding printed
too_short text out h = rw (lt-leb (length text) (length out) h)

fits_whole : (text out : List ℕ) {after : List ℕ} {n : ℕ} → length text ≤ length out → Wrote out 0 text n after → output n after ≡ printed text out
unfolding printed
fits_whole text out {after} {n} h w =
    let a : n ≡ length text = w.ends ∙ (let z : 0 + length text ≡ length text = omega arith in z) in
    let b : after ≡ text ++ drop (length text) out =
    w.leaves
    ∙ (sets-eq text out 0 (omega arith) ∙ ap (λ (k : ℕ). text ++ drop k out) (let z : 0 + length text ≡ length text = omega arith in z)) in
    rw (le-leb (length text) (length out) h, a, b)

-- A function that prints measures first, then writes.
pub print-short : (text out : List ℕ) {after : List ℕ} {n : ℕ} → Wrote (take 0 out) 0 text n after → length (after ++ out) < n
    → output 0 (after ++ out) ≡ printed text out
print-short text out w h =
    let m = measured text out w in
    let l : length out < length text = rw (m.1, m.0) at h in
    rw m.1 (too_short text out l)

pub print-whole : (text out : List ℕ) {after final : List ℕ} {n k : ℕ} → Wrote (take 0 out) 0 text n after → n ≤ length (after ++ out)
    → Wrote (after ++ out) 0 text k final → output k final ≡ printed text out
print-whole text out w h v =
    let m = measured text out w in
    let l : length text ≤ length out = rw (m.1, m.0) at h in
    fits_whole text out l (rw m.1 at v)

-- What is answered are bytes of the buffer.
pub answer-fits : (text out : List ℕ) → (printed text out).answer ≤ length out
unfolding printed
answer-fits text out = answered (leb (length text) (length out)) refl where
  answered : (b : Bool) → leb (length text) (length out) ≡ b
      → (cond b (output (length text) (text ++ drop (length text) out)) (output 0 out)).answer ≤ length out
  answered true e = leb-true (length text) (length out) e
  answered false e = omega arith

-- Where there is room, these are all bytes of the text.
pub printed-whole : (text out : List ℕ) {n : ℕ} {after : List ℕ} → output n after ≡ printed text out → length text ≤ length out
    → n ≡ length text
unfolding printed
printed-whole text out e h = ap (λ (o : Output). o.answer) e ∙ rw (le-leb (length text) (length out) h) refl
