-- The instructions that make or use a label. ITER and the switches push the word that their origin's label must hold
-- (`LabelWords`); NEXT and LEAVE find it on top of the share.
use mathlib.Core.List.{List, [], ◌∷◌}
use mathlib.Core.Option.{some}
use mathlib.Core.Path.{◌≡◌, refl, ◌∙◌}
use Prim.Native.Nat.{ℕ, suc, ◌+◌, ◌-◌, ◌≤◌}
use native.Mathlib.Omega.{arith}
use lib.ListN.{length}
use Rattle.operand.specs.Distance.{place_at}
use Rattle.shape.specs.declared.Table.{Table}
use Rattle.effect.specs.declared.effect.Effect.TheVariants.{Go}
use Rattle.effect.specs.declared.effect.Push.TheVariants.{NoPush, PushOne}
use Rattle.effect.specs.declared.effect.Write.{Write}
use Rattle.effect.specs.declared.effect.Write.TheVariants.{NoWrite}
use Rattle.registers.specs.declared.Registers.{Registers}
use Rattle.registers.specs.Memory.{read}
use Rattle.registers.specs.Program.{Program}
use Rattle.registers.specs.Changes.{moved}
use Rattle.execute.specs.Execute.{top_words}
use Rattle.execute.proofs.Top.{found}
use Rattle.successors.specs.Successors.{switch_targets}
use Rattle.stackmap.specs.Slots.{Slot, word, label, pop_words, pop_slots}
use Rattle.stackmap.specs.Ways.{Way, ◌gets◌, is_iter, is_switch, label_word, after, both, to_all, next_out, leave_out}
use Rattle.stackmap.specs.StackMap.{here}
use Rattle.invariant.specs.Active.{share_of, Configuration}
use Rattle.invariant.proofs.Invariant.{registers_of}
use Rattle.invariant.proofs.Shares.{nothing, only_if, popped-size, popped-words, holds-top}
use Rattle.invariant.proofs.Movement.{Start, Taken, taken, among-taken, Stays, words-go, popped-go, label-goes}
use Rattle.invariant.proofs.Jumps.{among-on, among-away}
use Rattle.invariant.proofs.Tables.{In, among-all}

module _ {P : Program} {c : Configuration} {l : List Slot} {out : List Way} {Done : Type 0} (S : Start P c l out) where
  -- ITER: past the loop, or into it.
  pub iter-goes : (next d : ℕ)
      → after (pop_words 4 l) (λ rest. both (next gets (label (registers_of c).pc ∷ l))
      (place_at (registers_of c).pc d gets rest)) ≡ some out
      → Stays P c out Done (Go 4 NoPush NoWrite (moved (registers_of c) (place_at (registers_of c).pc d)))
      × ((write : Write) → next ≡ label_word P.code (registers_of c).pc
      → Stays P c out Done (Go 0 (PushOne next) write (moved (registers_of c) next)))
  iter-goes next d w =
      let q : Registers = registers_of c in
      let away : ℕ = place_at q.pc d in
      let into : List Slot = label q.pc ∷ l in
      let T : Taken (pop_words 4 l) (λ rest. both (next gets into) (away gets rest)) out = taken (pop_words 4 l) _ out w in (
        popped-go S 4 _ T NoPush NoWrite (moved q away) refl (among-away next away into T.rest),
        λ write e. label-goes S 0 next q.pc write (moved q next) refl l refl e
            (among-taken T next into (among-on next away into T.rest)),
      )

  -- SWITCH and SWITCH_X, to one of their targets.
  pub switch-goes : (t : Table) (n x place : ℕ) → x ≡ label_word P.code (registers_of c).pc
      → In place (switch_targets P.code (registers_of c).pc t n)
      → after (pop_words 1 l) (λ rest. to_all (switch_targets P.code (registers_of c).pc t n) (label (registers_of c).pc ∷ rest)) ≡
      some out
      → Stays P c out Done (Go 1 (PushOne x) NoWrite (moved (registers_of c) place))
  switch-goes t n x place e h w =
      let q : Registers = registers_of c in
      let T : Taken (pop_words 1 l) (λ rest. to_all (switch_targets P.code q.pc t n) (label q.pc ∷ rest)) out =
      taken (pop_words 1 l) _ out w in
      label-goes S 1 x q.pc NoWrite (moved q place) refl T.rest (popped-words 1 l T.rest T.found) e
      (among-taken T place (label q.pc ∷ T.rest) (among-all (label q.pc ∷ T.rest) h))

-- Their label is the top word.
label-word : {P : Program} {c : Configuration} {out : List Way} {origin : ℕ} {l : List Slot} (n : ℕ)
    → Start P c (label origin ∷ l) out → n ≤ length l
    → read (top_words (suc n) (registers_of c).height c.state.stack) n ≡ label_word P.code origin
label-word {c = c} {l = l} n S h =
    let place : (registers_of c).height - (suc n - n) ≡ share_of c.calls + length l = omega (arith, S.height) in
    found c.state.stack (registers_of c).height (suc n) n (omega (arith, S.height)) (omega arith) ∙ rw place
    (holds-top S.holds)

-- Word k of the top n.
abbrev top : Configuration → ℕ → ℕ → ℕ
top c n k = read (top_words n (registers_of c).height c.state.stack) k

module _ {P : Program} {c : Configuration} {out : List Way} {Done : Type 0} where
  -- NEXT: past the loop without the five, or round with all of them.
  pub next-goes : (next : ℕ) (write : Write) (l : List Slot) → Start P c l out → next_out P.code next l ≡ some out
      → Stays P c out Done (Go 5 NoPush write (moved (registers_of c) next))
      × Stays P c out Done (Go 0 NoPush write (moved (registers_of c) (top c 5 4)))
  next-goes next write [] S w = nothing out w
  next-goes next write (word ∷ l) S w = nothing out w
  next-goes next write (label origin ∷ l) S w =
      let back : ℕ = label_word P.code origin in
      let T : Taken (pop_words 4 l) (λ rest. both (next gets rest) (back gets (label origin ∷ l))) out =
      taken (pop_words 4 l) _ out (only_if (is_iter P.code origin) _ out w).1 in
      let five : pop_slots 5 (label origin ∷ l) ≡ some T.rest = popped-words 4 l T.rest T.found in
      let size = popped-size 5 (label origin ∷ l) T.rest five in (
        words-go S 5 NoPush write (moved (registers_of c) next) refl T.rest five
            (among-taken T next T.rest (among-on next back T.rest (label origin ∷ l))),
        rw (label-word 4 S (omega arith))
            (words-go S 0 NoPush write (moved (registers_of c) back) refl (label origin ∷ l) refl
            (among-taken T back (label origin ∷ l) (among-away next back T.rest (label origin ∷ l)))),
      )

  -- LEAVE.
  pub leave-goes : (l : List Slot) → Start P c l out → leave_out P.code l ≡ some out
      → Stays P c out Done (Go 1 NoPush NoWrite (moved (registers_of c) (top c 1 0)))
  leave-goes [] S w = nothing out w
  leave-goes (word ∷ l) S w = nothing out w
  leave-goes (label origin ∷ l) S w =
      let away : ℕ = label_word P.code origin in
      let T : Taken (some l) (λ rest. away gets l ∷ []) out = taken (some l) _ out (only_if (is_switch P.code origin) _ out w).1 in
      rw (label-word 0 S (omega arith))
      (words-go S 1 NoPush NoWrite (moved (registers_of c) away) refl l refl (among-taken T away l here))
