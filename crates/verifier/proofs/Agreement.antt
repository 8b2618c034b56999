-- The ways over heights and topmost labels stand for the ways over lists, shape by shape: height and topmost label decide whether an
-- instruction finds what it pops, and what it leaves.
use mathlib.Core.Bool.{Bool, true, false, cond, ◌&&◌, and-false}
use mathlib.Core.List.{List, [], ◌∷◌}
use mathlib.Core.Option.{Option, none, some, none-ne-some}
use mathlib.Core.Path.{◌≡◌, refl, sym, ◌∙◌, subst⁻¹}
use Prim.Native.Nat.{ℕ, zero, suc, ◌+◌, ◌-◌}
use native.Mathlib.Omega.{arith}
use native.Mathlib.Numerals.{add-one}
use lib.Dec.{eqb, leb, leb-suc-suc}
use lib.ListN.{length}
use borrow.Author.Tests.{le-leb, lt-leb}
use Rattle.entries.specs.Libraries.{library_in}
use Rattle.operand.specs.Distance.{place_at}
use Rattle.shape.specs.declared.Shape.{Shape}
use Rattle.shape.specs.declared.Shape.TheVariants.{Straight, Pop, Jump, JumpC, JumpTF, Iter}
use Rattle.shape.specs.declared.Shape.TheVariants.{Next, Switch, Leave, Call, CallExternal, Enter, Rtn}
use Rattle.shape.specs.declared.Table.{Table}
use Rattle.successors.specs.Successors.{switch_targets}
use Rattle.switch_table.specs.Switch.{exit_label}
use Rattle.stackmap.specs.Slots.{Slot, word, label, push_words, pop_words, pop_slots, is_words, top_origin}
use Rattle.stackmap.specs.Ways.{Subject, Way, ◌gets◌, is_iter, is_switch, after, both}
use Rattle.stackmap.specs.Ways.{to_all, straight, next_out, leave_out, ways, parameters_in, results_in}
use Rattle.stackmap.specs.StackMap.{Map}
use Rattle.compact.specs.declared.top.Top.{Top}
use Rattle.compact_ways.specs.declared.Way.{Way as Compact}
use Rattle.compact_ways.specs.declared.Ways.{Ways}
use Rattle.compact_ways.specs.declared.Ways.TheVariants.{Broken, Ended, One, Two}
use Rattle.compact.specs.Tops.{origin_under, poppable, labelled, lowered, lowered_by}
use Rattle.compact_ways.specs.Ways.{way, toward, in_order, straight_ways, pop_ways, jump_c_ways, jump_tf_ways, iter_ways}
use Rattle.compact_ways.specs.Ways.{next_from, next_ways, leave_from, leave_ways, switch_ways, rtn_ways, external_ways, ways_top}
use Rattle.verifier.proofs.Coherence.{Lies, on-iter, on_switch, Coherent, on-nothing, on_word, on-label, ShowsMap}
use Rattle.verifier.proofs.Coherence.{top_of, compact_of, Stands, broken, ended, one, two, many}
use Rattle.stackmap.proofs.Pushing.{pushed-height, pushed-origin}
use Rattle.verifier.proofs.Levels.{level, Popped, stuck, popped, popping, words-test}
use Rattle.verifier.proofs.Levels.{iter-not-switch, at_level, labelled-word, labelled-label, lowered-word, lowered-label}

-- The compact form of a way, from its parts.
to-list : {h o : ℕ} (t : ℕ) (l : List Slot) → h ≡ length l → o ≡ top_origin l → way t h o ≡ compact_of (t gets l)
to-list t l p q = rw (p, q)

stands_one : {code : List ℕ} {at : ℕ} {c : Compact} (a : Way) → c ≡ compact_of a → Stands code at (One c) (some (a ∷ []))
stands_one a e = rw e (one a)

in_order_lem : (code : List ℕ) (at : ℕ) (a b : Way) → Stands code at (in_order (compact_of a) (compact_of b)) (some (both a b))
unfolding in_order
in_order_lem code at (t gets l) (u gets k) = by (leb t u)
  where
    by : (c : Bool)
        → Stands code at
        (cond c (Two (compact_of (t gets l)) (compact_of (u gets k))) (Two (compact_of (u gets k)) (compact_of (t gets l))))
        (some (cond c (t gets l ∷ u gets k ∷ []) (u gets k ∷ t gets l ∷ [])))
    by true = two (t gets l) (u gets k)
    by false = two (u gets k) (t gets l)

stands-two : {code : List ℕ} {at : ℕ} {c d : Compact} (a b : Way) → c ≡ compact_of a → d ≡ compact_of b
    → Stands code at (in_order c d) (some (both a b))
stands-two {code} {at} a b e f = rw (e, f) (in_order_lem code at a b)

rtn-stands : (code : List ℕ) (at results : ℕ) (l : List Slot)
    → Stands code at (rtn_ways (top_of l) results) (cond (is_words results l) (some []) none)
unfolding rtn_ways
rtn-stands code at results l = rw (words-test results l) (by (eqb (length l) results && eqb (top_origin l) 0))
  where
    by : (b : Bool) → Stands code at (cond b Ended Broken) (cond b (some []) none)
    by true = ended
    by false = broken

-- Where the top slot is a word there is no label to use.
next_word : (code w : List ℕ) (next : ℕ) (t : Top) (o : ℕ) → labelled code w t ≡ false → next_from code w next t o ≡ Broken
next_word code w next t zero e = refl
next_word code w next t (suc m) e = rw (e, and-false (is_iter code m))

leave-word : (code w : List ℕ) (t : Top) (o : ℕ) → labelled code w t ≡ false → leave_from code w t o ≡ Broken
leave-word code w t zero e = refl
leave-word code w t (suc m) e = rw (e, and-false (is_switch code m))

module _ {code w : List ℕ} {π : Map} (S : ShowsMap w π) where
  -- What pops words and then goes on.
  pops-stand : (at n : ℕ) (l : List Slot) → Coherent code π l → {good : Ways} {f : List Slot → List Way}
      → ((rest : List Slot) → length l ≡ n + length rest → top_origin l ≡ top_origin rest → Stands code at good (some (f rest)))
      → Stands code at (cond (poppable code w (top_of l) n) good Broken) (after (pop_words n l) f)
  unfolding poppable
  pops-stand at n l c {good} {f} go = rw (at_level S l c) (by (popping n l))
    where
      by : {o : Option (List Slot)} → Popped n l o → Stands code at (cond (leb (n + level l) (length l)) good Broken) (after o f)
      by (stuck h) = rw (lt-leb (n + level l) (length l) h) broken
      by (popped rest h o v) = rw (le-leb (n + level l) (length l) (omega arith)) (go rest h o)

  straight-stands : (at next pops pushes : ℕ) (l : List Slot) → Coherent code π l
      → Stands code at (straight_ways code w next (top_of l) pops pushes) (straight next pops pushes l)
  unfolding straight_ways
  straight-stands at next pops pushes l c =
      pops-stand at pops l c λ rest h o.
      stands_one (next gets push_words pushes rest)
      (to-list next (push_words pushes rest) (omega (arith, pushed-height pushes rest)) (o ∙ sym (pushed-origin pushes rest)))

  slots-stand : (at next n : ℕ) (l : List Slot) (t : Top) → Coherent code π l → t ≡ top_of l
      → Stands code at (cond (leb n (length l)) (One (toward next (lowered_by code w n t))) Broken)
      (after (pop_slots n l) (λ rest. next gets rest ∷ []))
  slots-stand at next zero l t c e = rw (le-leb 0 (length l) (omega arith), e) (one (next gets l))
  slots-stand at next (suc n) l t on-nothing e = rw (lt-leb (suc n) 0 (omega arith)) broken
  slots-stand at next (suc n) l t (on_word {l = r} c) e =
      rw (leb-suc-suc n (length r)) (slots-stand at next n r (lowered code w t) c (rw e (lowered-word S r c)))
  slots-stand at next (suc n) l t (on-label {origin = m} {l = r} L c) e =
      rw (leb-suc-suc n (length r)) (slots-stand at next n r (lowered code w t) c (rw e (lowered-label S m r L)))

  pop-stands : (at next n : ℕ) (l : List Slot) → Coherent code π l
      → Stands code at (pop_ways code w next (top_of l) n) (after (pop_slots n l) (λ rest. next gets rest ∷ []))
  unfolding pop_ways
  pop-stands at next n l c = slots-stand at next n l (top_of l) c refl

  jump-c-stands : (at next d : ℕ) (l : List Slot) → Coherent code π l
      → Stands code at (jump_c_ways code w at next (top_of l) d)
      (after (pop_words 1 l) (λ rest. both (next gets rest) (place_at at d gets rest)))
  unfolding jump_c_ways
  jump-c-stands at next d l c =
      pops-stand at 1 l c λ rest h o.
      stands-two (next gets rest) (place_at at d gets rest) (to-list next rest (omega arith) o) (to-list (place_at at d) rest (omega arith) o)

  jump-tf-stands : (at next d : ℕ) (l : List Slot) → Coherent code π l
      → Stands code at (jump_tf_ways code w at next (top_of l) d)
      (after (pop_words 1 l) (λ rest. both (next gets rest) (place_at at d gets l)))
  unfolding jump_tf_ways
  jump-tf-stands at next d l c =
      pops-stand at 1 l c λ rest h o. stands-two (next gets rest) (place_at at d gets l) (to-list next rest (omega arith) o) refl

  iter-stands : (at next d : ℕ) (l : List Slot) → Coherent code π l
      → Stands code at (iter_ways code w at next (top_of l) d)
      (after (pop_words 4 l) (λ rest. both (next gets (label at ∷ l)) (place_at at d gets rest)))
  unfolding iter_ways
  iter-stands at next d l c =
      pops-stand at 4 l c λ rest h o.
      stands-two (next gets (label at ∷ l)) (place_at at d gets rest) (to-list next (label at ∷ l) (omega arith) refl)
      (to-list (place_at at d) rest (omega arith) o)

  switch-stands : (at n : ℕ) (t : Table) (l : List Slot) → Coherent code π l
      → Stands code at (switch_ways code w at (top_of l) t n)
      (after (pop_words 1 l) (λ rest. to_all (switch_targets code at t n) (label at ∷ rest)))
  unfolding switch_ways
  switch-stands at n t l c =
      pops-stand at 1 l c λ rest h o.
      let e : length l ≡ suc (length rest) = omega arith in
      rw e (many t n (label at ∷ rest))

  next-label : (at next m : ℕ) (l : List Slot) → Lies code π m l
      → Stands code at (next_from code w next (top_of (label m ∷ l)) (suc m)) (next_out code next (label m ∷ l))
  next-label at next m l (on-iter a e rest p) =
      let u : origin_under w (suc m) ≡ top_origin l = (S m l e).origin in
      rw (labelled-label S m l (on-iter a e rest p), a, p, u) (by (popping 4 l) p)
    where
      by : {o : Option (List Slot)} → Popped 4 l o → o ≡ some rest
          → Stands code at (in_order (way next (suc (length l) - 5) (top_origin l)) (compact_of ((m + 3) gets (label m ∷ l))))
          (some (both (next gets rest) ((m + 3) gets (label m ∷ l))))
      by (stuck h) q = absurd (none-ne-some rest q)
      by (popped r h o v) q =
          let s : r ≡ rest = cc in
          stands-two (next gets rest) ((m + 3) gets (label m ∷ l)) (rw (← s) (to-list next r (omega arith) o)) refl
  next-label at next m l (on_switch a b e) = rw a broken

  next-stands : (at next : ℕ) (l : List Slot) → Coherent code π l
      → Stands code at (next_ways code w next (top_of l)) (next_out code next l)
  unfolding next_ways
  next-stands at next l on-nothing = broken
  next-stands at next l (on_word {l = r} c) =
      rw (next_word code w next (top_of (word ∷ r)) (top_origin r) (labelled-word S r c)) broken
  next-stands at next l (on-label {origin = m} {l = r} L c) =
      subst⁻¹ (λ o. Stands code at (next_from code w next (top_of (label m ∷ r)) o) (next_out code next (label m ∷ r))) (add-one m)
      (next-label at next m r L)

  leave-label : (at m : ℕ) (l : List Slot) → Lies code π m l
      → Stands code at (leave_from code w (top_of (label m ∷ l)) (suc m)) (leave_out code (label m ∷ l))
  leave-label at m l (on-iter a e rest p) = rw (iter-not-switch code m a) broken
  leave-label at m l (on_switch a b e) =
      rw (labelled-label S m l (on_switch a b e), a, b)
      (stands_one (exit_label code m gets l) (to-list (exit_label code m) l (omega arith) (S m (word ∷ l) e).origin))

  leave-stands : (at : ℕ) (l : List Slot) → Coherent code π l → Stands code at (leave_ways code w (top_of l)) (leave_out code l)
  unfolding leave_ways
  leave-stands at l on-nothing = broken
  leave-stands at l (on_word {l = r} c) = rw (leave-word code w (top_of (word ∷ r)) (top_origin r) (labelled-word S r c)) broken
  leave-stands at l (on-label {origin = m} {l = r} L c) =
      subst⁻¹ (λ o. Stands code at (leave_from code w (top_of (label m ∷ r)) o) (leave_out code (label m ∷ r))) (add-one m)
      (leave-label at m r L)

pub ways-stand : (U : Subject) (p at next : ℕ) (s : Shape) (w : List ℕ) (π : Map) (l : List Slot) → Coherent U.code π l
    → ShowsMap w π
    → Stands U.code at (ways_top U.code U.libraries U.results w p at next s (top_of l)) (ways U p at next s l)
unfolding ways ways_top external_ways
ways-stand U p at next (Straight pops pushes) w π l c S = straight-stands S at next pops pushes l c
ways-stand U p at next (Pop n) w π l c S = pop-stands S at next n l c
ways-stand U p at next (Jump d) w π l c S = one (place_at at d gets l)
ways-stand U p at next (JumpC d) w π l c S = jump-c-stands S at next d l c
ways-stand U p at next (JumpTF d) w π l c S = jump-tf-stands S at next d l c
ways-stand U p at next (Iter d) w π l c S = iter-stands S at next d l c
ways-stand U p at next Next w π l c S = next-stands S at next l c
ways-stand U p at next (Switch t n) w π l c S = switch-stands S at n t l c
ways-stand U p at next Leave w π l c S = leave-stands S at l c
ways-stand U p at next (Call q) w π l c S = straight-stands S at next (parameters_in U.code q) (results_in U.results q) l c
ways-stand U p at next (CallExternal b q) w π l c S =
    let library = library_in U.libraries b in
    straight-stands S at next (parameters_in library.code q) (results_in library.results q) l c
ways-stand U p at next (Enter par) w π l c S = straight-stands S at next par 0 l c
ways-stand U p at next Rtn w π l c S = rtn-stands U.code at (results_in U.results p) l
