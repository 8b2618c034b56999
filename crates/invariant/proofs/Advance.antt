-- A completed step keeps the invariant. Within a procedure control goes to a way out of the stack picture; CALL and RTN go
-- from one share to another; what a step leaves alone below the share keeps the callers.
use mathlib.Core.Bool.{false}
use mathlib.Core.List.{List}
use mathlib.Core.Path.{◌≡◌, ◌∙◌, refl, sym, subst}
use Prim.Native.Nat.{ℕ, ◌≤◌, ◌<◌}
use native.Mathlib.Omega.{arith}
use lib.ListN.{length, get_or}
use Rattle.opcode.specs.Decode.{decode_at}
use Rattle.opcode.specs.declared.instruction.Instruction.{Instruction}
use Rattle.opcode.proofs.Found.{ends}
use Rattle.shape.specs.Shape.{shape_of, needed}
use Rattle.shape.specs.declared.Shape.{Shape}
use Rattle.shape.specs.declared.Shape.TheVariants.{Straight, Pop, Jump, JumpC, JumpTF, Iter}
use Rattle.shape.specs.declared.Shape.TheVariants.{Next, Switch, Leave, Call, CallExternal, Enter, Rtn}
use Rattle.shape.specs.Linkage.{Linkage, inside, calling, calling_external, entering, returning, linkage_of}
use Rattle.registers.specs.declared.Registers.{Registers}
use Rattle.registers.specs.Modules.{Modules}
use Rattle.registers.specs.Program.{Program, attributes_at, running as runningProgram}
use Rattle.registers.proofs.Bases.{number-of-base}
use Rattle.execute.proofs.Acts.{lacks}
use Rattle.stackmap.specs.Ways.{Subject, ways}
use Rattle.stackmap.specs.StackMap.{stepped}
use Rattle.step.specs.declared.Outcome.{Outcome}
use Rattle.step.specs.declared.Outcome.TheVariants.{Went}
use Rattle.step.specs.Step.{step_of}
use Rattle.step.specs.Ready.{Ready}
use Rattle.step.proofs.Preservation.{step-holds}
use Rattle.invariant.specs.Active.{Subjects, running_member, running, share_of, Configuration, calls_by, calls_decoded, step_on, advance}
use Rattle.invariant.specs.Shares.{SameFrom, Unread}
use Rattle.invariant.proofs.Invariant.{registers_of, Setting, program_in, step_in, calls_in, Returns, Placed, Inv, Doing, Within}
use Rattle.invariant.proofs.Invariant.{UnreadIn, Moves, Steps, Callable, Sound}
use Rattle.invariant.proofs.Numbers.{library-there}
use Rattle.invariant.proofs.FoundWords.{finds-words}
use Rattle.invariant.proofs.BelowShare.{step-unread}
use Rattle.invariant.proofs.Framing.{Framing}
use Rattle.invariant.proofs.Frames.{step-did, frames-kept}
use Rattle.invariant.proofs.Slots.{slots_kept}
use Rattle.invariant.proofs.Places.{Checked, AtPlace, Together, placed, callable}
use Rattle.invariant.proofs.Callers.{suspended-kept, returns-inside, returned-placed, called-placed}

-- What calls or returns has one shape.
abbrev pub Is : Shape → Linkage → Type 0
Is s inside = Unit {0}
Is s (calling p) = s ≡ Call p
Is s (calling_external k p) = s ≡ CallExternal k p
Is s (entering par) = Unit {0}
Is s returning = s ≡ Rtn

pub shape_is : (s : Shape) → Is s (linkage_of s)
shape_is (Straight pops pushes) = tt
shape_is (Pop n) = tt
shape_is (Jump d) = tt
shape_is (JumpC d) = tt
shape_is (JumpTF d) = tt
shape_is (Iter d) = tt
shape_is Next = tt
shape_is (Switch t n) = tt
shape_is Leave = tt
shape_is (Call p) = refl
shape_is (CallExternal k p) = refl
shape_is (Enter par) = tt
shape_is Rtn = refl

module _ (Ms : Modules) (Us : Subjects) (T : Together Ms Us) (c : Configuration) (I : Inv Ms Us c) where
  abbrev q : Registers
  q = registers_of c

  abbrev k : ℕ
  k = running_member c.calls

  abbrev pub U : Subject
  U = Us k

  abbrev pub E : Setting
  E = record { attributes = attributes_at Ms k; modules = Ms }

  below : k < length Ms
  below = I.placed.member

  -- The module of the last call is the one that runs.
  pub same : runningProgram Ms q.gp ≡ program_in U E
  same = rw (I.placed.global, number-of-base Ms k below, ← T.codes k below)

  R : Ready (program_in U E) c.state
  R = subst (λ (X : Program). Ready X c.state) same I.ready

  C : Checked U
  C = T.checked k below

  -- What is about to be done.
  pub at_place : AtPlace U (running c.calls) q.pc I.placed.slots
  at_place = placed U C (running c.calls) I.placed.procedure q.pc I.placed.slots I.placed.reached

  abbrev pub i : Instruction
  i = at_place.instruction

  doing : Doing U c i at_place.next
  doing = record { decoded = at_place.decoded }

  library : lacks Ms i ≡ false
  library = T.there k below (running c.calls) q.pc at_place.next i at_place.start at_place.region

  pub external : (j d : ℕ) → shape_of i ≡ CallExternal j d → (0 < j) × (j < length Ms) × Callable (Us j).code d
  external j d e =
      let there = library-there Ms i j d e library in
      let own = sym (T.callees k j d below there.0 there.1) ∙ at_place.external j d e in
      (there.0, there.1, callable (Us j) (T.checked j there.1) d own)

  sound : Sound Ms U.code i
  sound =
      record {
        library = library;
        callable = at_place.callable;
        external = λ j d e.
            let x = external j d e in
            rw (← T.codes j x.1) x.2;
      }

  unread-in : (s' : List ℕ) → SameFrom (share_of c.calls) c.state.stack s' → UnreadIn (program_in U E) c s'
  unread-in =
      let enough : needed i ≤ length I.placed.slots =
      finds-words U (running c.calls) q.pc at_place.next (shape_of i) I.placed.slots at_place.out
      at_place.ways-out in
      step-unread U E c i at_place.next doing (omega (arith, I.placed.height))

  pub unread : (s' : List ℕ) → SameFrom (share_of c.calls) c.state.stack s' → Unread Ms c s'
  unread s' h =
      let u : UnreadIn (runningProgram Ms q.gp) c s' =
      subst (λ (X : Program). UnreadIn X c s') (sym same) (unread-in s' h) in
      record {
        same_outcome = u.same_outcome;
        same_registers = u.same_registers;
        same_memory = u.same_memory;
        same_share = u.same_share;
        keeps_size = u.keeps_size;
        keeps_own = u.keeps_own;
      }

  steps-in : Steps U E c at_place.out (linkage_of (shape_of i)) (step_in U E c).outcome
  steps-in =
      slots_kept finds-words U E c i at_place.next (running c.calls) I.placed.slots at_place.out doing R
      I.placed.height I.placed.holds at_place.ways-out at_place.stays sound
      (λ e. returns-inside Ms Us T (program_in U E) c R refl I.framed I.placed.suspended I.placed.global I.counted)

  -- Nothing below the share changes.
  kept-below : (n : ℕ) → n < share_of c.calls → get_or (step_in U E c).state.stack n 0 ≡ get_or c.state.stack n 0
  kept-below = (unread-in c.state.stack (record { room = refl; above = λ n h. refl })).keeps_own

  module _ (w : (step_in U E c).outcome ≡ Went) where
    abbrev q' : Registers
    q' = (step_in U E c).state.registers

    abbrev s' : List ℕ
    s' = (step_in U E c).state.stack

    -- RTN goes on only where a call is active.
    active : shape_of i ≡ Rtn → length c.calls ≡ 0 → ⊥
    active e none =
        let did = step-did U E c i at_place.next doing w in
        (subst (λ (x : Shape). Framing q c.state.memory at_place.next (linkage_of x) did.write did.registers) e
        did.done).active
        (omega (arith, I.counted))

    within-placed : Within U.code c at_place.out q' s' → Placed Ms Us c.calls q' s'
    within-placed W =
        record {
          member = below;
          global = W.stays ∙ I.placed.global;
          procedure = I.placed.procedure;
          slots = W.slots;
          reached = stepped I.placed.reached at_place.found W.among;
          height = W.height;
          holds = W.holds;
          suspended = suspended-kept Us (length Ms) c.state.stack s' c.calls kept-below I.placed.suspended;
        }

    -- By what the instruction does with procedures, as the active calls are.
    placed-after : (x : Linkage) → Is (shape_of i) x → Moves Ms U c at_place.out q' s' x
        → Placed Ms Us (calls_by Us q at_place.next x c.calls) q' s'
    unfolding ways
    placed-after inside e m = within-placed m
    placed-after (calling d) e m =
        rw m.untouched.same-stack
        (called-placed Ms Us T c.state.stack c.calls I.placed.slots at_place.out q q' _ at_place.next k d _ _ below
        (at_place.callable d e).1 refl refl (rw e at at_place.ways-out)
        (λ l a. stepped I.placed.reached at_place.found a) I.placed.height I.placed.holds I.placed.suspended
        m.untouched.same-height m.place (m.global ∙ I.placed.global))
    placed-after (calling_external j d) e m =
        let x = external j d e in
        rw m.untouched.same-stack
        (called-placed Ms Us T c.state.stack c.calls I.placed.slots at_place.out q q' _ at_place.next j d _ _ x.1
        x.2.1 (T.parameters k j d below x.0 x.1 x.2.1) (T.results k j d below x.0 x.1)
        (rw e at at_place.ways-out) (λ l a. stepped I.placed.reached at_place.found a) I.placed.height
        I.placed.holds I.placed.suspended m.untouched.same-height (m.place ∙ rw (T.codes j x.1)) m.global)
    placed-after (entering par) e m = within-placed m
    placed-after returning e m =
        rw m.untouched.same-stack
        (returned-placed Ms Us T c.state.memory c.state.stack q.height c.calls I.placed.slots at_place.out q q'
        I.framed I.placed.suspended I.placed.global (active e) (rw e at at_place.ways-out) I.placed.height
        m.untouched.same-height m.place m.global)

    next-returns : Returns at_place.next
    next-returns =
        let within = ends U.code (length U.code) q.pc at_place.decoded in
        let short : length U.code ≤ 4096 = rw (T.codes k below) (R.short k) in
        (omega (arith, within.0), omega (arith, within.1, short))

    advances-in : Inv Ms Us (record { state = (step_in U E c).state; calls = calls_in Us U c })
    advances-in =
        let moves : Moves Ms U c at_place.out q' s' (linkage_of (shape_of i)) =
        subst (λ (o : Outcome). Steps U E c at_place.out (linkage_of (shape_of i)) o) w steps-in in
        let P : Placed Ms Us (calls_in Us U c) q' s' =
        rw doing.decoded (placed-after (linkage_of (shape_of i)) (shape_is (shape_of i)) moves) in
        let (framed, counted) =
        frames-kept Us U E c i at_place.next doing R I.placed.global next-returns I.framed I.counted w in
        record { ready = (step-holds (program_in U E) c.state R).ready; framed = framed; counted = counted; placed = P }

  -- As the definitions have it.
  abbrev next-by : Program → Configuration
  next-by X =
      record {
        state = (step_of X c.state).state;
        calls = calls_decoded Us q c.calls (decode_at X.code (length X.code) q.pc);
      }

  pub steps : Steps U E c at_place.out (linkage_of (shape_of i)) (step_on Ms c).outcome
  steps = subst (λ (X : Program). Steps U E c at_place.out (linkage_of (shape_of i)) (step_of X c.state).outcome) (sym same) steps-in

  pub advances : (step_on Ms c).outcome ≡ Went → Inv Ms Us (advance Ms Us c)
  advances w =
      subst (λ (X : Program). (step_of X c.state).outcome ≡ Went → Inv Ms Us (next-by X)) (sym same) advances-in w
