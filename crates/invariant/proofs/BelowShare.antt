-- Nothing below the share is read or changed: a step reads of the stack the words that its instruction finds, and stores
-- where those that go began, both in the share.
use mathlib.Core.Bool.{Bool, true, false, cond}
use mathlib.Core.List.{List, [], ◌∷◌}
use mathlib.Core.Path.{◌≡◌, ◌∙◌, refl, sym}
use Prim.Native.Nat.{ℕ, suc, ◌≤◌, ◌<◌, ◌+◌, ◌-◌}
use native.Mathlib.Omega.{arith}
use lib.Dec.{eqb, ltb}
use lib.ListN.{length, get_or, drop, set, length-drop, length-set}
use lib.Seq.{sets, ext_get_or, get_or-drop, get_or-set_same, get_or-set_other, set_out}
use borrow.Author.Tests.{eqb-true, eqb-false, ltb-true, ltb-false}
use Rattle.words.proofs.Sets.{sets-other}
use Rattle.std.specs.Prelude.{Ok}
use Rattle.opcode.specs.declared.instruction.Instruction.{Instruction}
use Rattle.shape.specs.Shape.{needed}
use Rattle.effect.specs.declared.effect.Effect.{Effect}
use Rattle.effect.specs.declared.effect.Effect.TheVariants.{Trap, Finish, Go}
use Rattle.effect.specs.declared.effect.Write.{Write}
use Rattle.registers.specs.declared.Registers.{Registers}
use Rattle.registers.specs.Program.{Program}
use Rattle.registers.specs.State.{State, state}
use Rattle.effect.specs.Data.{pushes}
use Rattle.execute.specs.Execute.{top_words, finding}
use Rattle.execute.proofs.Acts.{acts}
use Rattle.step.specs.declared.Outcome.{Outcome}
use Rattle.step.specs.Step.{code_after, After, after, pushed, apply, perform, step_of}
use Rattle.invariant.specs.Active.{share_of}
use Rattle.invariant.specs.Shares.{SameFrom}
use Rattle.invariant.proofs.Sizes.{stack-kept}
use Rattle.invariant.proofs.Framing.{Does, does-trap, does-finish, does-go, acts-do}
use Rattle.invariant.proofs.Invariant.{registers_of, program_in, StepUnread}

set_same : (share : ℕ) (s s' : List ℕ) (j v : ℕ) → SameFrom share s s' → SameFrom share (set s j v) (set s' j v)
set_same share s s' j v same =
    record {
      room = length-set s' j v ∙ same.room ∙ sym (length-set s j v);
      above = λ i h. by i h (eqb i j) refl
          (ltb j (length s)) refl;
    }
  where
    by : (i : ℕ) → share ≤ i → (t : Bool) → eqb i j ≡ t → (u : Bool) → ltb j (length s) ≡ u
        → get_or (set s' j v) i 0 ≡ get_or (set s j v) i 0
    by i h true e true l =
        rw (eqb-true i j e) (get_or-set_same s' j v 0 (omega (arith, ltb-true j (length s) l, same.room))
        ∙ sym (get_or-set_same s j v 0 (ltb-true j (length s) l)))
    by i h true e false l =
        rw (set_out s' j v (omega (arith, ltb-false j (length s) l, same.room)), set_out s j v (ltb-false j (length s) l))
        (same.above i h)
    by i h false e u l =
        get_or-set_other s' j i v 0 (eqb-false i j e) ∙ same.above i h ∙ sym (get_or-set_other s j i v 0 (eqb-false i j e))

sets_same : (share : ℕ) (s s' : List ℕ) (j : ℕ) (vs : List ℕ) → SameFrom share s s' → SameFrom share (sets s j vs) (sets s' j vs)
sets_same share s s' j [] same = same
sets_same share s s' j (v ∷ vs) same = sets_same share (set s j v) (set s' j v) (suc j) vs (set_same share s s' j v same)

drop-same : (share : ℕ) (s s' : List ℕ) (j : ℕ) → SameFrom share s s' → share ≤ j → drop j s' ≡ drop j s
drop-same share s s' j same h =
    ext_get_or 0 (drop j s') (drop j s) (rw (length-drop j s', length-drop j s, same.room))
    (λ i l. get_or-drop j s' i 0 ∙ same.above (j + i) (omega arith) ∙ sym (get_or-drop j s i 0))

-- Words that begin in the share.
top-same : (share : ℕ) (s s' : List ℕ) (n height : ℕ) → SameFrom share s s' → share + n ≤ height
    → top_words n height s' ≡ top_words n height s
top-same share s s' n height same h = rw (drop-same share s s' (height - n) same (omega arith))

-- What a step leaves of each of two stacks.
record Alike (share : ℕ) (s' : List ℕ) (a b : After) : Type 0 where
  outcome : b.outcome ≡ a.outcome
  registers : b.state.registers ≡ a.state.registers
  memory : b.state.memory ≡ a.state.memory
  above : SameFrom share a.state.stack b.state.stack
  own : (i : ℕ) → i < share → get_or b.state.stack i 0 ≡ get_or s' i 0

alike-cond : (share : ℕ) (s' : List ℕ) (t : Bool) (a b c d : After) → Alike share s' a c → Alike share s' b d
    → Alike share s' (cond t a b) (cond t c d)
alike-cond share s' true a b c d h k = h
alike-cond share s' false a b c d h k = k

module _ (share : ℕ) (P : Program) (q : Registers) (m s s' : List ℕ) (same : SameFrom share s s') where
  abbrev S : State
  S = state q m s

  abbrev S' : State
  S' = state q m s'

  as_before : (o : Outcome) → Alike share s' (after o S) (after o S')
  as_before o = record { outcome = refl; registers = refl; memory = refl; above = same; own = λ i h. refl }

  apply-alike : (k : ℕ) (F : Write → Registers → Type 0) (e : Effect) → share + k ≤ q.height → Does k F e
      → Alike share s' (apply P S e) (apply P S' e)
  unfolding apply
  apply-alike k F (Trap t) h does-trap = as_before _
  apply-alike k F Finish h does-finish = as_before _
  apply-alike k F (Go pops push write next) h (does-go l p) =
      rw same.room (alike-cond share s' (ltb (length s) (q.height - pops + pushes push)) _ _ _ _ (as_before _)
      (alike-cond share s' (ltb next.pc (length (code_after P next.gp))) _ _ _ _
      (record {
        outcome = refl;
        registers = refl;
        memory = rw (top-same share s s' pops q.height same (omega arith));
        above = sets_same share s s' (q.height - pops) (pushed push) same;
        own = λ i b. sets-other s' (q.height - pops) (pushed push) i (λ low high. omega arith);
      })
      (as_before _)))

  perform-alike : (i : Instruction) (next : ℕ) → share + needed i ≤ q.height
      → Alike share s' (perform P S (Ok (i, next))) (perform P S' (Ok (i, next)))
  unfolding perform
  perform-alike i next h =
      rw (top-same share s s' (needed i) q.height same h)
      (alike-cond share s' (ltb q.height (needed i)) _ _ _ _ (as_before _)
      (apply-alike (needed i) _ _ h (acts-do P (finding (needed i) S) next (acts P (finding (needed i) S) next i))))

pub step-unread : StepUnread
unfolding step_of
step-unread U E c i next D h s' same =
    let share : ℕ = share_of c.calls in
    let P : Program = program_in U E in
    let q = registers_of c in
    let m = c.state.memory in
    let a : Alike share s' (step_of P c.state) (step_of P (state q m s')) =
    rw D.decoded (perform-alike share P q m c.state.stack s' same i next h) in
    record {
      same_outcome = a.outcome;
      same_registers = a.registers;
      same_memory = a.memory;
      same_share = a.above;
      keeps_size = stack-kept P (state q m s');
      keeps_own = a.own;
    }
