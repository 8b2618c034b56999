-- The shares of suspended callers: they lie below the running call's, so that words above leave them as they are. CALL
-- suspends the caller without the words that it gives, and RTN goes back to it with the words that it gets.
use mathlib.Core.Bool.{cond, true}
use mathlib.Core.List.{List, [], ◌∷◌}
use mathlib.Core.Option.{none, some}
use mathlib.Core.Path.{◌≡◌, ◌∙◌, refl}
use Prim.Native.Nat.{ℕ, zero, suc, ◌+◌, ◌-◌, ◌<◌}
use native.Mathlib.Omega.{arith}
use lib.ListN.{length, get_or}
use borrow.Author.Tests.{ne_eqb}
use Rattle.entries.specs.Entries.{entry_at, entry_count}
use Rattle.registers.specs.declared.Registers.{Registers}
use Rattle.registers.specs.Modules.{Modules, globals_start}
use Rattle.registers.specs.Program.{Program}
use Rattle.registers.specs.State.{State}
use Rattle.registers.specs.Memory.{negated}
use Rattle.registers.specs.Changes.{returned}
use Rattle.stackmap.specs.Slots.{Slot, word, label, push_words, pop_words, is_words}
use Rattle.stackmap.specs.Ways.{Way, ◌gets◌, parameters_in, results_in, straight}
use Rattle.stackmap.specs.StackMap.{Among, here, Reached, entered}
use Rattle.stackmap.proofs.Pushing.{pushed-height}
use Rattle.step.specs.Step.{code_after}
use Rattle.step.specs.Ready.{Ready}
use Rattle.step.proofs.Running.{code-of-module}
use Rattle.invariant.specs.Active.{Call, Subjects, Configuration, running_member, running, share_of, begun_call, callers}
use Rattle.invariant.specs.Shares.{Holds, holds_none}
use Rattle.invariant.proofs.Invariant.{Framed, local_frame, external-frame, Returns, Suspended, no-caller, a-caller}
use Rattle.invariant.proofs.Invariant.{Placed, registers_of, ReturnsInside}
use Rattle.invariant.proofs.Frames.{local-link, external-link}
use Rattle.invariant.proofs.Shares.{only_if, holds_kept, holds-under, popped-size, popped-words, holds-words}
use Rattle.invariant.proofs.Movement.{Taken, taken, among-taken}
use Rattle.invariant.proofs.Places.{Together, reached-inside}

pub suspended-kept : (Us : Subjects) (n : ℕ) (s s' : List ℕ) (calls : List Call)
    → ((i : ℕ) → i < share_of calls → get_or s' i 0 ≡ get_or s i 0) → Suspended Us n s calls → Suspended Us n s' calls
suspended-kept Us n s s' [] k no-caller = no-caller
suspended-kept Us n s s' (c ∷ calls) k (a-caller l reached share holds b p rest) =
    a-caller l reached share (holds_kept s' (λ i b. k i (omega (arith, share))) holds) b p
    (suspended-kept Us n s s' calls (λ i b. k i (omega (arith, share))) rest)

-- RTN finds exactly its results.
words-length : (n : ℕ) (l : List Slot) → is_words n l ≡ true → length l ≡ n
words-length zero [] e = refl
words-length zero (x ∷ l) e = let z : ◌≡◌ {A = ℕ} 0 1 = cc in absurd (omega arith)
words-length (suc n) [] e = let z : ◌≡◌ {A = ℕ} 0 1 = cc in absurd (omega arith)
words-length (suc n) (word ∷ l) e = omega (arith, words-length n l e)
words-length (suc n) (label origin ∷ l) e = let z : ◌≡◌ {A = ℕ} 0 1 = cc in absurd (omega arith)

results-found : (n : ℕ) (l : List Slot) (out : List Way) → cond (is_words n l) (some []) none ≡ some out → length l ≡ n
results-found n l out w = words-length n l (only_if (is_words n l) (some []) out w).0

-- A place comes back from its negation.
negated-twice : (x : ℕ) → Returns x → negated (negated x) ≡ x
unfolding negated
negated-twice x (l, r) =
    rw (ne_eqb x 0 (λ e. omega arith), ne_eqb (0x1_0000_0000 - x) 0 (λ e. omega arith)) (omega arith)

-- RTN goes to the place and the module that its links say.
pub record Back (Ms : Modules) (q : Registers) (m : List ℕ) (place : ℕ) (calls : List Call) : Type 0 where
  pub pc : (returned q m).pc ≡ place
  pub gp : (returned q m).gp ≡ globals_start Ms (running_member calls)

pub goes_back : (Ms : Modules) (q : Registers) (m : List ℕ) (c : Call) (calls : List Call) → Framed Ms m q.fp (c ∷ calls)
    → q.gp ≡ globals_start Ms c.member → Back Ms q m c.back calls
goes_back Ms q m c calls (local_frame {saved = saved} same e w r s b rest) g =
    let L = local-link m q.fp c.link saved c.back r e s b in
    record { pc = rw L.0 L.1; gp = rw L.0 (g ∙ rw same) }
goes_back Ms q m c calls (external-frame {saved = saved} e w r x s b rest) g =
    let L = external-link m q.fp c.link saved c.back r _ e x s b in
    record { pc = rw (L.0, L.1) (negated-twice c.back r); gp = rw L.0 L.3 }

module _ (Ms : Modules) (Us : Subjects) (T : Together Ms Us) where
  running-member : (s : List ℕ) (calls : List Call) → Suspended Us (length Ms) s calls → running_member calls < length Ms
  running-member s [] no-caller = T.some
  running-member s (c ∷ calls) (a-caller l reached share holds b p rest) = b

  running-procedure : (s : List ℕ) (calls : List Call) → Suspended Us (length Ms) s calls
      → running calls < entry_count (Us (running_member calls)).code
  running-procedure s [] no-caller = (T.checked 0 T.some).cutted.some
  running-procedure s (c ∷ calls) (a-caller l reached share holds b p rest) = p

  -- The return place is in the code that is gone back to.
  back_inside : (P : Program) (S : State) → Ready P S → P.modules ≡ Ms → (m s : List ℕ) (q : Registers) (calls : List Call)
      → Framed Ms m q.fp calls → Suspended Us (length Ms) s calls → q.gp ≡ globals_start Ms (running_member calls)
      → 0 < length calls → (returned q m).pc < length (code_after P (returned q m).gp)
  back_inside P S R same m s q [] F H g active = absurd (omega arith)
  back_inside P S R same m s q (c ∷ calls) F (a-caller l reached share holds b p rest) g active =
      let B = goes_back Ms q m c calls F g in
      let j : ℕ = running_member calls in
      let below : running_member calls < length Ms = running-member s calls rest in
      let inside : c.back < length (Us (running_member calls)).code =
      reached-inside (Us (running_member calls)) (T.checked (running_member calls) below) (running calls)
      (running-procedure s calls rest) c.back _ reached in
      let there = code-of-module P S R (running_member calls) (rw same below) in
      rw (B.pc, B.gp, ← same, there, same, ← T.codes (running_member calls) below) inside

  pub returns-inside : (P : Program) (c : Configuration) → Ready P c.state → P.modules ≡ Ms
      → Framed Ms c.state.memory (registers_of c).fp c.calls → Suspended Us (length Ms) c.state.stack c.calls
      → (registers_of c).gp ≡ globals_start Ms (running_member c.calls) → length c.calls ≡ (registers_of c).calls
      → ReturnsInside P c
  returns-inside P c R same F H g count active =
      back_inside P c.state R same c.state.memory c.state.stack (registers_of c) c.calls F H g
      (omega (arith, count))

  -- RTN of an active call.
  pub returned-placed : (m s : List ℕ) (height : ℕ) (calls : List Call) (l : List Slot) (out : List Way) (q q' : Registers)
      → Framed Ms m q.fp calls → Suspended Us (length Ms) s calls → q.gp ≡ globals_start Ms (running_member calls)
      → (length calls ≡ 0 → ⊥)
      → cond (is_words (results_in (Us (running_member calls)).results (running calls)) l) (some []) none ≡ some out
      → height ≡ share_of calls + length l → q'.height ≡ height → q'.pc ≡ (returned q m).pc → q'.gp ≡ (returned q m).gp
      → Placed Ms Us (callers calls) q' s
  returned-placed m s height [] l out q q' F S g active w h same to global = absurd (active refl)
  returned-placed m s height (c ∷ calls) l out q q' F (a-caller k reached share u b p rest) g active w h same to global =
      let n : ℕ = results_in (Us c.member).results c.procedure in
      let B = goes_back Ms q m c calls F g in
      let at : q'.pc ≡ c.back = to ∙ B.pc in
      record {
        member = running-member s calls rest;
        global = global ∙ B.gp;
        procedure = running-procedure s calls rest;
        slots = push_words n k;
        reached = rw at reached;
        height = omega (arith, same, h, share, results-found n l out w, pushed-height n k);
        holds = holds-words n u;
        suspended = rest;
      }

  -- A call of procedure d of module j, which goes on at `next`; n words go to it and r come back.
  pub called-placed : (s : List ℕ) (calls : List Call) (l : List Slot) (out : List Way) (q q' : Registers) (words : List ℕ)
      (next j d n r : ℕ) → j < length Ms → d < entry_count (Us j).code → n ≡ parameters_in (Us j).code d
      → r ≡ results_in (Us j).results d → straight next n r l ≡ some out
      → ((k : List Slot) → Among next k out → Reached (Us (running_member calls)) (running calls) next k)
      → q.height ≡ share_of calls + length l → Holds (Us (running_member calls)).code s (share_of calls) l
      → Suspended Us (length Ms) s calls → q'.height ≡ q.height → q'.pc ≡ entry_at (Us j).code d
      → q'.gp ≡ globals_start Ms j → Placed Ms Us (begun_call Us q j d words next ∷ calls) q' s
  called-placed s calls l out q q' words next j d n r b p np nr w goes h holds S same to global =
      let K : Taken (pop_words n l) (λ rest. next gets push_words r rest ∷ []) out = taken (pop_words n l) _ out w in
      let left = popped-words n l K.rest K.found in
      let size = popped-size n l K.rest left in
      let share : q.height - parameters_in (Us j).code d ≡ share_of calls + length K.rest = omega (arith, h, size, np) in
      record {
        member = b;
        global = global;
        procedure = p;
        slots = push_words (parameters_in (Us j).code d) [];
        reached = rw to entered;
        height = omega (arith, same, h, size, np, pushed-height (parameters_in (Us j).code d) []);
        holds = holds-words (parameters_in (Us j).code d) holds_none;
        suspended =
            a-caller {c = begun_call Us q j d words next} {calls = calls} K.rest (rw (← nr) (goes (push_words r K.rest) (among-taken K next _ here))) share
            (holds-under n l K.rest left holds) b p S;
      }
