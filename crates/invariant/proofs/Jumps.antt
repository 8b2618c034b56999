-- POP and the jumps: each goes to one of its ways out, JUMP_T and JUMP_F with the boolean kept where they jump.
use mathlib.Core.Bool.{Bool, true, false, cond}
use mathlib.Core.List.{List, [], ◌∷◌}
use mathlib.Core.Option.{some}
use mathlib.Core.Path.{◌≡◌, refl}
use Prim.Native.Nat.{ℕ}
use lib.Dec.{leb}
use Rattle.words.proofs.Tests.{either}
use Rattle.operand.specs.Distance.{place_at}
use Rattle.effect.specs.declared.effect.Effect.TheVariants.{Go}
use Rattle.effect.specs.declared.effect.Push.TheVariants.{NoPush}
use Rattle.effect.specs.declared.effect.Write.TheVariants.{NoWrite}
use Rattle.registers.specs.Program.{Program}
use Rattle.registers.specs.Changes.{moved}
use Rattle.stackmap.specs.Slots.{Slot, pop_words, pop_slots}
use Rattle.stackmap.specs.Ways.{Way, ◌gets◌, after, both}
use Rattle.stackmap.specs.StackMap.{Among, here, there}
use Rattle.invariant.specs.Active.{Configuration}
use Rattle.invariant.proofs.Invariant.{registers_of}
use Rattle.invariant.proofs.Movement.{Start, Taken, taken, among-taken, Stays, words-go, popped-go}

pub among-on : (t u : ℕ) (k j : List Slot) → Among t k (both (t gets k) (u gets j))
among-on t u k j = either (Among t k) (leb t u) _ _ here (there here)

pub among-away : (t u : ℕ) (k j : List Slot) → Among u j (both (t gets k) (u gets j))
among-away t u k j = either (Among u j) (leb t u) _ _ (there here) here

among-either : (b : Bool) (t u : ℕ) (k : List Slot) → Among (cond b u t) k (both (t gets k) (u gets k))
among-either true t u k = among-away t u k k
among-either false t u k = among-on t u k k

module _ {P : Program} {c : Configuration} {l : List Slot} {out : List Way} {Done : Type 0} (S : Start P c l out)
    (next : ℕ) where
  pub pop_goes : (n : ℕ) → after (pop_slots n l) (λ rest. next gets rest ∷ []) ≡ some out
      → Stays P c out Done (Go n NoPush NoWrite (moved (registers_of c) next))
  pop_goes n w =
      let T : Taken (pop_slots n l) (λ rest. next gets rest ∷ []) out = taken (pop_slots n l) (λ rest. next gets rest ∷ []) out w in
      words-go S n NoPush NoWrite (moved (registers_of c) next) refl T.rest T.found (among-taken T next T.rest here)

  pub jump_goes : (d : ℕ) → some (place_at (registers_of c).pc d gets l ∷ []) ≡ some out
      → Stays P c out Done (Go 0 NoPush NoWrite (moved (registers_of c) (place_at (registers_of c).pc d)))
  jump_goes d w =
      let away : ℕ = place_at (registers_of c).pc d in
      let T : Taken (some l) (λ rest. away gets l ∷ []) out = taken (some l) _ out w in
      words-go S 0 NoPush NoWrite (moved (registers_of c) away) refl l refl (among-taken T away l here)

  pub jump-c-goes : (d : ℕ) (b : Bool)
      → after (pop_words 1 l) (λ rest. both (next gets rest) (place_at (registers_of c).pc d gets rest)) ≡ some out
      → Stays P c out Done (Go 1 NoPush NoWrite (moved (registers_of c) (cond b (place_at (registers_of c).pc d) next)))
  jump-c-goes d b w =
      let away : ℕ = place_at (registers_of c).pc d in
      let T : Taken (pop_words 1 l) (λ rest. both (next gets rest) (away gets rest)) out = taken (pop_words 1 l) _ out w in
      popped-go S 1 _ T NoPush NoWrite (moved (registers_of c) (cond b away next)) refl (among-either b next away T.rest)

  -- JUMP_T and JUMP_F: the boolean is kept where they jump, and goes where they go on.
  pub jump-tf-goes : (d : ℕ) → after (pop_words 1 l) (λ rest. both (next gets rest) (place_at (registers_of c).pc d gets l)) ≡
      some out
      → Stays P c out Done (Go 0 NoPush NoWrite (moved (registers_of c) (place_at (registers_of c).pc d)))
      × Stays P c out Done (Go 1 NoPush NoWrite (moved (registers_of c) next))
  jump-tf-goes d w =
      let away : ℕ = place_at (registers_of c).pc d in
      let T : Taken (pop_words 1 l) (λ rest. both (next gets rest) (away gets l)) out = taken (pop_words 1 l) _ out w in (
        words-go S 0 NoPush NoWrite (moved (registers_of c) away) refl l refl (among-taken T away l (among-away next away T.rest l)),
        popped-go S 1 _ T NoPush NoWrite (moved (registers_of c) next) refl (among-on next away T.rest l),
      )
