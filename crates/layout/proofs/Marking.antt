-- Marking in the workspace against cutting: the marks held are those of `cut_of`, or the numbers are the same; and marking changes no
-- halfword but the fourth ones of code bytes.
use mathlib.Core.Bool.{Bool, true, false, cond}
use mathlib.Core.Path.{◌≡◌, refl, fun_ext}
use mathlib.Core.List.{List}
use Prim.Native.Nat.{ℕ, zero, suc, ◌+◌, ◌*◌, ◌-◌, ◌<◌, ◌≤◌}
use native.Mathlib.Omega.{arith}
use borrow.Author.Tests.{ltb-true, lt-ltb}
use lib.Dec.{ltb}
use lib.ListN.{length, get_or, set}
use lib.Seq.{get_or-set_same, get_or-set_other}
use Rattle.entries.specs.Entries.{entry_at, entry_count, entries_sound, region_end}
use Rattle.opcode.specs.Decode.{decode_at}
use Rattle.opcode.specs.Decode.{Decoded}
use Rattle.opcode.specs.declared.DecodeError.TheVariants.{Unserved, Past}
use Rattle.std.specs.Prelude.{Err, Ok}
use Rattle.layout.specs.Cut.{Marks, updated, Cut, bad, cut, cut_at, cut_from, then_cut, cut_procedures, cut_of}
use Rattle.layout.specs.Workspace.{marks_in, mark_at, mark_from, mark_region, then_mark, mark_procedures, mark_all}
use Rattle.workspace.specs.Checking.{Checking, checking}
use Rattle.words.proofs.Tests.{by-test}
use Rattle.layout.proofs.Updates.{Change, changed, spared, change, Spares, spares-self, spares_then, spares-set}
use Rattle.entries.proofs.Ordered.{ordered}

-- A place is no mark of any region.
abbrev Unmarked : List ℕ → ℕ → Type 0
Unmarked code i = (p at : ℕ) → at < region_end code p → i ≡ 4 * at + 3 → ⊥

abbrev Keeps : (code w w' : List ℕ) → Type 0
Keeps code = Spares (Unmarked code)

-- One mark written is one mark changed.
marked :
    (w : List ℕ) (size at x : ℕ) → at < size → 4 * size ≤ length w →
    marks_in (set w (4 * at + 3) x) size ≡ updated (marks_in w size) at x
marked w size at x h l = fun_ext (λ a. by a (change (marks_in w size) at x a))
  where
    by : (a : ℕ) → Change (marks_in w size) at x a → marks_in (set w (4 * at + 3) x) size a ≡ updated (marks_in w size) at x a
    by a (changed e f) = rw (f, e, lt-ltb at size h) (get_or-set_same w (4 * at + 3) x 0 (omega arith))
    by a (spared e f) = rw (f, get_or-set_other w (4 * at + 3) (4 * a + 3) x 0 (λ s. e (omega arith)))

-- A cut and what marking leaves say the same, and what was there before is kept.
data Same (code start : List ℕ) : Cut → Checking → Type 0 where
  same-cut : (w : List ℕ) → Keeps code start w → Same code start (cut (marks_in w (length code))) (checking 0 w)
  same-bad : (n : ℕ) (w : List ℕ) → Keeps code start w → Same code start (bad (suc n)) (checking (suc n) w)

module _ {code start : List ℕ} where
  same_kept : {c : Cut} {r : Checking} → Same code start c r → Keeps code start r.workspace
  same_kept (same-cut w k) = k
  same_kept (same-bad n w k) = k

  same-zero : {c : Cut} {r : Checking} → Same code start c r → r.number ≡ 0 → c ≡ cut (marks_in r.workspace (length code))
  same-zero (same-cut w k) e = refl
  same-zero (same-bad n w k) e = absurd (omega arith)

  same_number : {c : Cut} {r : Checking} → Same code start c r → (n : ℕ) → r.number ≡ suc n → c ≡ bad (suc n)
  same_number (same-cut w k) n e = absurd (omega arith)
  same_number (same-bad m w k) n e = rw (← e)

  same_then :
      {c : Cut} {r : Checking} (go : Marks → Cut) (go' : List ℕ → Checking) → Same code start c r →
      ((w : List ℕ) → Keeps code start w → Same code start (go (marks_in w (length code))) (go' w)) →
      Same code start (then_cut go c) (then_mark go' r.number r.workspace)
  same_then go go' (same-cut w k) rest = rest w k
  same_then go go' (same-bad n w k) rest = same-bad n w k

module _ (code : List ℕ) (s : entries_sound code ≡ true) (start : List ℕ) (room : 4 * length code ≤ length start) where
  same_at :
      (p at : ℕ) (w : List ℕ) (go : ℕ → Marks → Cut) (go' : ℕ → List ℕ → Checking) (b : Bool) (d : Decoded) →
      Keeps code start w → ltb at (region_end code p) ≡ b →
      ((next : ℕ) (v : List ℕ) → Keeps code start v → Same code start (go next (marks_in v (length code))) (go' next v)) →
      Same code start
      (cond b (cut_at go p at (marks_in w (length code)) d) (cut (marks_in w (length code))))
      (cond b (mark_at go' p at w d) (checking 0 w))
  same_at p at w go go' false d k t rest = same-cut w k
  same_at p at w go go' true (Err Unserved) k t rest = same-bad 9 w k
  same_at p at w go go' true (Err Past) k t rest = same-bad 10 w k
  same_at p at w go go' true (Ok (i, next)) k t rest =
      let below : at < region_end code p = ltb-true at (region_end code p) t in
      rw (← marked w (length code) at (p + 1) (omega (arith, (ordered code s).ends p)) (omega (arith, k.long)))
      (rest next (set w (4 * at + 3) (p + 1)) (spares_then k (spares-set w (4 * at + 3) (p + 1) (λ j u. u p at below))))

  same_from : (p n at : ℕ) (w : List ℕ) → Keeps code start w
      → Same code start (cut_from code p n at (marks_in w (length code))) (mark_from code p n at w)
  same_from p zero at w k = same-cut w k
  same_from p (suc n) at w k =
      same_at p at w (cut_from code p n) (mark_from code p n) (ltb at (region_end code p)) (decode_at code (region_end code p) at) k refl
      (same_from p n)

  same-region : (p : ℕ) (w : List ℕ) → Keeps code start w
      → Same code start (cut_from code p (length code) (entry_at code p) (marks_in w (length code))) (mark_region code p w)
  unfolding mark_region
  same-region p w k = same_from p (length code) (entry_at code p) w k

  same-procedures : (n p : ℕ) (w : List ℕ) → Keeps code start w
      → Same code start (cut_procedures code p n (marks_in w (length code))) (mark_procedures code p n w)
  same-procedures zero p w k = same-region 0 w k
  same-procedures (suc n) p w k =
      same_then (cut_procedures code (p + 1) n) (mark_procedures code (p + 1) n) (same-region p w k) (same-procedures n (p + 1))

  module _ (clean : (at : ℕ) → at < length code → get_or start (4 * at + 3) 0 ≡ 0) where
    unmarked : marks_in start (length code) ≡ (λ at. 0)
    unmarked = fun_ext λ at.
        by-test (λ (m : ℕ). m ≡ 0) (ltb at (length code)) (get_or start (4 * at + 3) 0) 0 (λ e. clean at (ltb-true at (length code) e)) (λ e. refl)

    same-all : Same code start (cut_of code) (mark_all code start)
    unfolding cut_of mark_all
    same-all = rw unmarked at (same-procedures (entry_count code - 1) 1 start (spares-self start))

    pub marking-cuts : (mark_all code start).number ≡ 0 → cut_of code ≡ cut (marks_in (mark_all code start).workspace (length code))
    marking-cuts e = same-zero same-all e

    pub marking-refuses : (n : ℕ) → (mark_all code start).number ≡ suc n → cut_of code ≡ bad (suc n)
    marking-refuses n e = same_number same-all n e

    pub marking-keeps-length : length (mark_all code start).workspace ≡ length start
    marking-keeps-length = (same_kept same-all).long

    -- The other three halfwords of a code byte.
    pub marking-keeps-others : (a k : ℕ) → k < 3 → get_or (mark_all code start).workspace (4 * a + k) 0 ≡ get_or start (4 * a + k) 0
    marking-keeps-others a k h = (same_kept same-all).same (4 * a + k) (λ p at l e. omega arith)
