-- A completed step keeps the frames in step with the active calls: CALL writes a new frame's link words above the others, RTN
-- goes back to the one below, and every step keeps the link words there are, which are protected.
use mathlib.Core.Bool.{Bool, true, false, ◌||◌, ◌&&◌}
use mathlib.Core.List.{List, [], ◌∷◌}
use mathlib.Core.Path.{◌≡◌, ◌∙◌, refl, sym}
use Prim.Native.Nat.{ℕ, ◌+◌, ◌-◌}
use native.Mathlib.Omega.{arith}
use lib.Dec.{leb, ltb}
use lib.ListN.{length}
use lib.Seq.{sets}
use Rattle.opcode.specs.declared.instruction.Instruction.{Instruction}
use Rattle.shape.specs.Shape.{shape_of, needed}
use Rattle.shape.specs.Linkage.{Linkage, inside, calling, calling_external, entering, returning, linkage_of}
use Rattle.effect.specs.declared.effect.Effect.TheVariants.{Go}
use Rattle.effect.specs.declared.effect.Push.{Push}
use Rattle.effect.specs.declared.effect.Write.{Write}
use Rattle.registers.specs.declared.Registers.{Registers}
use Rattle.registers.specs.Memory.{read, saved_fp, return_word, global_link, negated, is_local, link_words, is_link}
use Rattle.registers.specs.Modules.{Modules, globals_start}
use Rattle.registers.specs.Program.{Program}
use Rattle.registers.specs.State.{State}
use Rattle.registers.proofs.Links.{link_near, local-words, external-words}
use Rattle.execute.specs.Execute.{top_words, finding}
use Rattle.execute.proofs.Acts.{acts}
use Rattle.stackmap.specs.Ways.{Subject}
use Rattle.step.specs.declared.Outcome.TheVariants.{Went}
use Rattle.step.specs.Step.{After, after, written, applied, step_of}
use Rattle.step.proofs.Outcomes.{perform-leaves}
use Rattle.step.proofs.Intact.{two-stored, three-stored}
use Rattle.step.proofs.Steady.{place-above, negated-below}
use Rattle.invariant.specs.Active.{Call, Subjects, running_member, Configuration, begun_call, callers, calls_by}
use Rattle.invariant.proofs.ProtectedWords.{links-kept}
use Rattle.invariant.proofs.Framing.{Does, does-go, Stays, Links, Unlinks, Framing, acts-do}
use Rattle.invariant.proofs.Invariant.{Framed, no-frame, local_frame, external-frame, registers_of, Setting, program_in}
use Rattle.invariant.proofs.Invariant.{step_in, Returns, Doing, FramesKept}

-- What a completed step did: a write and registers of which F holds.
pub record Did (F : Write → Registers → Type 0) (m : List ℕ) (a : After) : Type 0 where
  pub write : Write
  pub registers : Registers
  pub popped : List ℕ
  pub done : F write registers
  pub memory : a.state.memory ≡ written m popped write
  pub fp : a.state.registers.fp ≡ registers.fp
  pub calls : a.state.registers.calls ≡ registers.calls

did-go : (S : State) (k : ℕ) (F : Write → Registers → Type 0) (pops : ℕ) (push : Push) (write : Write) (q : Registers)
    → Does k F (Go pops push write q) → Did F S.memory (after Went (applied S pops push write q))
did-go S k F pops push write q (does-go l p) =
    record {
      write = write;
      registers = q;
      popped = top_words pops S.registers.height S.stack;
      done = p;
      memory = refl;
      fp = refl;
      calls = refl;
    }

pub step-did : (U : Subject) (E : Setting) (c : Configuration) (i : Instruction) (next : ℕ) → Doing U c i next
    → (step_in U E c).outcome ≡ Went
    → Did (Framing (registers_of c) c.state.memory next (linkage_of (shape_of i))) c.state.memory (step_in U E c)
unfolding step_of
step-did U E c i next D =
    let P : Program = program_in U E in
    let F : Write → Registers → Type 0 = Framing (registers_of c) c.state.memory next (linkage_of (shape_of i)) in
    rw D.decoded
    (perform-leaves P c.state (λ a. a.outcome ≡ Went → Did F c.state.memory a) (Does (needed i) F) (λ o n w. absurd (n w))
    (λ pops push write q h room w. did-go c.state (needed i) F pops push write q h) i next
    (acts-do P (finding (needed i) c.state) next (acts P (finding (needed i) c.state) next i)))

-- The link words of a frame that was made so.
module _ (m : List ℕ) (fp link saved back : ℕ) (r : Returns back) where
  pub local-link : fp ≡ link + 2 → read m link ≡ saved → read m (link + 1) ≡ back
      → (is_local m fp ≡ true) × (return_word m fp ≡ back) × (saved_fp m fp ≡ saved)
  local-link e s b =
      let word : fp - 1 ≡ link + 1 = omega arith in
      let place : fp - 2 ≡ link = omega arith in
      (rw (word, b) (place-above back r.0 r.1), rw (word, b), rw (place, s))

  pub external-link : (gp : ℕ) → fp ≡ link + 3 → read m link ≡ gp → read m (link + 1) ≡ saved → read m (link + 2) ≡ negated back
      → (is_local m fp ≡ false) × (return_word m fp ≡ negated back) × (saved_fp m fp ≡ saved) × (global_link m fp ≡ gp)
  external-link gp e g s b =
      let word : fp - 1 ≡ link + 2 = omega arith in
      let place : fp - 2 ≡ link + 1 = omega arith in
      let first : fp - 3 ≡ link = omega arith in
      (rw (word, b) (negated-below back r.0 r.1), rw (word, b), rw (place, s), rw (first, g))

-- Frames stay where their link words do.
later : (a b : Bool) → b ≡ true → (a || b) ≡ true
later true b e = refl
later false b e = e

framed_kept : (Ms : Modules) (m n : List ℕ) (fp : ℕ) (calls : List Call) → Framed Ms m fp calls
    → ((b : ℕ) → is_link m fp (length calls) b ≡ true → read n b ≡ read m b) → Framed Ms n fp calls
framed_kept Ms m n fp [] (no-frame e) k = no-frame e
framed_kept Ms m n fp (c ∷ calls) (local_frame {saved = saved} h e w r s b rest) k =
    let L = local-link m fp c.link saved c.back r e s b in
    let two = local-words m fp L.0 in
    local_frame h e w r (k c.link (link_near m fp (length calls) c.link (omega arith) (omega arith)) ∙ s)
    (k (c.link + 1) (link_near m fp (length calls) (c.link + 1) (omega arith) (omega arith)) ∙ b)
    (framed_kept Ms m n saved calls rest
    (λ x h. k x (later (leb fp (x + link_words m fp) && ltb x fp) (is_link m (saved_fp m fp) (length calls) x) (rw L.2 h))))
framed_kept Ms m n fp (c ∷ calls) (external-frame {saved = saved} e w r g s b rest) k =
    let L = external-link m fp c.link saved c.back r _ e g s b in
    let three = external-words m fp L.0 in
    external-frame e w r (k c.link (link_near m fp (length calls) c.link (omega arith) (omega arith)) ∙ g)
    (k (c.link + 1) (link_near m fp (length calls) (c.link + 1) (omega arith) (omega arith)) ∙ s)
    (k (c.link + 2) (link_near m fp (length calls) (c.link + 2) (omega arith) (omega arith)) ∙ b)
    (framed_kept Ms m n saved calls rest
    (λ x h. k x (later (leb fp (x + link_words m fp) && ltb x fp) (is_link m (saved_fp m fp) (length calls) x) (rw L.2 h))))

frame_below : (Ms : Modules) (m : List ℕ) (fp n : ℕ) (calls : List Call) → Framed Ms m fp calls → (n ≡ 0 → ⊥) → length calls ≡ n
    → Framed Ms m (saved_fp m fp) (callers calls) × (length (callers calls) ≡ n - 1)
frame_below Ms m fp n [] (no-frame e) h count = absurd (h (sym count))
frame_below Ms m fp n (c ∷ calls) (local_frame {saved = saved} k e w r s b rest) h count =
    (rw (local-link m fp c.link saved c.back r e s b).2 rest, omega arith)
frame_below Ms m fp n (c ∷ calls) (external-frame {saved = saved} e w r g s b rest) h count =
    (rw (external-link m fp c.link saved c.back r _ e g s b).2 rest, omega arith)

-- The frames, and how many they are.
abbrev InStep : Modules → List ℕ → Registers → List Call → Type 0
InStep Ms m q calls = Framed Ms m q.fp calls × (length calls ≡ q.calls)

module _ (Us : Subjects) (Ms : Modules) (next : ℕ) (m n popped : List ℕ) (q : Registers) (calls : List Call)
    (F : Framed Ms m q.fp calls) (global : q.gp ≡ globals_start Ms (running_member calls)) (back : Returns next)
    (count : length calls ≡ q.calls) (kept : (b : ℕ) → is_link m q.fp q.calls b ≡ true → read n b ≡ read m b) where
  same-frames : Framed Ms n q.fp calls
  same-frames = framed_kept Ms m n q.fp calls F (λ b h. kept b (rw (← count) h))

  stays-framed : (q' : Registers) → Stays q q' → InStep Ms n q' calls
  stays-framed q' y = (rw y.fp same-frames, count ∙ sym y.calls)

  called-framed : (p : ℕ) (write : Write) (q' : Registers) → Links q m (q.fp ∷ next ∷ []) write q' → n ≡ written m popped write
      → InStep Ms n q' (calls_by Us q next (calling p) calls)
  called-framed p write q' y e =
      let made : n ≡ sets m q.mp (q.fp ∷ next ∷ []) = e ∙ y.wrote popped in
      let two = two-stored m q.mp q.fp next y.room in
      let call : Call = begun_call Us q (running_member calls) p (q.fp ∷ next ∷ []) next in (
        local_frame {saved = q.fp} {c = call} refl y.fp refl back (rw made two.0) (rw made two.1) same-frames,
        omega (arith, count, y.calls),
      )

  called-external : (k p : ℕ) (write : Write) (q' : Registers) → Links q m (q.gp ∷ q.fp ∷ negated next ∷ []) write q'
      → n ≡ written m popped write → InStep Ms n q' (calls_by Us q next (calling_external k p) calls)
  called-external k p write q' y e =
      let made : n ≡ sets m q.mp (q.gp ∷ q.fp ∷ negated next ∷ []) = e ∙ y.wrote popped in
      let three = three-stored m q.mp q.gp q.fp (negated next) y.room in
      let call : Call = begun_call Us q k p (q.gp ∷ q.fp ∷ negated next ∷ []) next in (
        external-frame {saved = q.fp} {c = call} {calls = calls} y.fp (rw global) back (rw made three.0 ∙ global) (rw made three.1) (rw made three.2)
            same-frames,
        omega (arith, count, y.calls),
      )

  unlinks-framed : (write : Write) (q' : Registers) → Unlinks q m write q' → n ≡ written m popped write
      → InStep Ms n q' (calls_by Us q next returning calls)
  unlinks-framed write q' y e =
      let made : n ≡ m = e ∙ rw y.wrote in
      let f = frame_below Ms m q.fp q.calls calls F y.active count in
      (rw (y.fp, made) f.0, f.1 ∙ sym y.calls)

  -- By what the instruction does with procedures, as the active calls are.
  framed-after : (k : Linkage) (write : Write) (q' : Registers) → Framing q m next k write q' → n ≡ written m popped write
      → InStep Ms n q' (calls_by Us q next k calls)
  framed-after inside write q' y e = stays-framed q' y
  framed-after (calling p) write q' y e = called-framed p write q' y e
  framed-after (calling_external k p) write q' y e = called-external k p write q' y e
  framed-after (entering par) write q' y e = stays-framed q' y
  framed-after returning write q' y e = unlinks-framed write q' y e

pub frames-kept : FramesKept
frames-kept Us U E c i next D R global back F count w =
    let did = step-did U E c i next D w in
    let t =
    framed-after Us E.modules next c.state.memory (step_in U E c).state.memory did.popped (registers_of c)
    c.calls F global back count
    (links-kept U E c R) (linkage_of (shape_of i)) did.write did.registers did.done did.memory in
    rw (D.decoded, did.fp, did.calls) t
