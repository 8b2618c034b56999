-- Every configuration of a run of accepted modules is safe: the invariant holds of the first over the copies and every step keeps it,
-- and with it the header words, the constants and the sizes; what it says of the copies holds of the records.
use mathlib.Core.Bool.{true}
use mathlib.Core.List.{List, [], ◌∷◌}
use mathlib.Core.Path.{◌≡◌, ◌∙◌, refl, sym, subst}
use Prim.Native.Nat.{ℕ, ◌<◌, ◌+◌}
use native.Mathlib.Omega.{arith}
use lib.ListN.{length}
use Rattle.entries.specs.Entries.{entry_count}
use Rattle.module_set.specs.Members.{Members, member_at}
use Rattle.registers.specs.declared.Registers.{Registers}
use Rattle.registers.specs.Memory.{read}
use Rattle.registers.specs.Modules.{Modules, is_fixed}
use Rattle.registers.specs.Program.{running as runningProgram}
use Rattle.registers.specs.State.{State}
use Rattle.std.specs.Prelude.{Ok}
use Rattle.load.specs.Modules.{modules_of}
use Rattle.load.specs.Load.{set_load}
use Rattle.load.proofs.Modules.{modules-length}
use Rattle.stackmap.specs.Slots.{Slot}
use Rattle.stackmap.specs.Ways.{parameters_in}
use Rattle.stackmap.specs.StackMap.{Reached}
use Rattle.stackmap.proofs.Exact.{has-reached}
use Rattle.verifier.specs.Check.{libraries_of}
use Rattle.verifier.specs.Exact.{Ruled, subject, code_at, Mapped, AllBytes}
use Rattle.verifier.proofs.Exactly.{shows-reached}
use Rattle.step.specs.declared.Outcome.TheVariants.{Went}
use Rattle.step.proofs.Preservation.{step-holds}
use Rattle.relocated.proofs.Labels.{Labels}
use Rattle.relocated.proofs.Maps.{Alike, copied-reached, reached-labels}
use Rattle.invariant.specs.Active.{Call, Subjects, running_member, running, share_of, Configuration, Visits, at_first, one_more, step_on, advance}
use Rattle.invariant.specs.Shares.{Linked, SameFrom, Unread}
use Rattle.invariant.proofs.Invariant.{registers_of, Framed, no-frame, local_frame, external-frame, Inv}
use Rattle.invariant.proofs.Sizes.{memory_kept, stack-kept}
use Rattle.invariant.proofs.ProtectedWords.{fixed-protected}
use Rattle.invariant.proofs.Places.{Together}
use Rattle.invariant.proofs.Advance.{unread, advances}
use Rattle.safety.specs.Demand3.{Safe, loaded_configuration, spaces_left, AllAccepted}
use Rattle.safety.proofs.Lent.{lent_libraries}
use Rattle.safety.proofs.Copies.{copies, bytes_at, sound-at, placed_at, agree_at, count_at, parameters-at, mapped_at, together}
use Rattle.safety.proofs.Carrying.{holds-carried, advance-same}
use Rattle.safety.proofs.LoadedState.{T, loaded-holds}

-- The frames have the link words.
linked : (Ms : Modules) (m : List ℕ) (fp : ℕ) (calls : List Call) → Framed Ms m fp calls → Linked m calls
linked Ms m fp [] (no-frame e) = tt
linked Ms m fp (c ∷ calls) (local_frame {saved = saved} member e words returns first second rest) =
    (rw words (first, (second, tt)), linked Ms m saved calls rest)
linked Ms m fp (c ∷ calls) (external-frame {saved = saved} e words returns first second third rest) =
    let two : c.link + 1 + 1 ≡ c.link + 2 = omega arith in
    (rw (words, two) (first, (second, (third, tt))), linked Ms m saved calls rest)

-- The invariant, with the protected data and the sizes as they were.
pub record Keeps (Ms : Modules) (Vs : Subjects) (S0 : State) (c : Configuration) : Type 0 where
  pub inv : Inv Ms Vs c
  pub fixed : (a : ℕ) → is_fixed 0 Ms a ≡ true → read c.state.memory a ≡ read S0.memory a
  pub memory_size : length c.state.memory ≡ length S0.memory
  pub stack_size : length c.state.stack ≡ length S0.stack

module _ (Ms : Modules) (Us Vs : Subjects)
    (alike : (k p : ℕ) → k < length Ms → p < entry_count (Vs k).code → parameters_in (Vs k).code p ≡ parameters_in (Us k).code p)
    (G : Together Ms Vs) (first : Configuration) (I : Inv Ms Vs first) where
  keeps_on : (c : Configuration) → Keeps Ms Vs first.state c → (step_on Ms c).outcome ≡ Went
      → Keeps Ms Vs first.state (advance Ms Us c)
  keeps_on c k w =
      let P = runningProgram Ms (registers_of c).gp in
      record {
        inv = subst (Inv Ms Vs) (sym (advance-same Ms Us Vs alike G c k.inv)) (advances Ms Vs G c k.inv w);
        fixed = λ a h.
            (step-holds P c.state k.inv.ready).spared a (fixed-protected Ms (registers_of c) c.state.memory a h)
            ∙ k.fixed a h;
        memory_size = memory_kept P c.state ∙ k.memory_size;
        stack_size = stack-kept P c.state ∙ k.stack_size;
      }

  pub keeps : {n : ℕ} {c : Configuration} → Visits Ms Us first n c → Keeps Ms Vs first.state c
  keeps at_first = record { inv = I; fixed = λ a h. refl; memory_size = refl; stack_size = refl }
  keeps (one_more {c = c} v w) = keeps_on c (keeps v) w

module _ (S : Members) (spaces : ℕ → List ℕ) (parameters copy m s : List ℕ) (q : Registers) (bytes : AllBytes S)
    (accepted : AllAccepted S spaces) (ready : (set_load S parameters copy m s).answer ≡ Ok q) (R : Ruled S) where
  abbrev Ms : Modules
  Ms = modules_of S

  abbrev Us : Subjects
  Us = subject S R

  abbrev pub S0 : State
  S0 = T S parameters copy m s q ready

  pub as-copies : Together Ms (copies S R)
  as-copies = together S R spaces bytes accepted

  pub at_load : Inv Ms (copies S R) (loaded_configuration S0)
  at_load = loaded-holds S parameters copy m s q ready (copies S R) as-copies

  pub same-parameters : (k p : ℕ) → k < length Ms → p < entry_count (copies S R k).code
      → parameters_in (copies S R k).code p ≡ parameters_in (Us k).code p
  same-parameters k p h below =
      let inside : k < length S = omega (arith, modules-length S) in
      parameters-at S R k inside p (omega (arith, count_at S R k inside))

  pub run-keeps : {n : ℕ} {c : Configuration} → Visits Ms Us (loaded_configuration S0) n c → Keeps Ms (copies S R) S0 c
  run-keeps = keeps Ms Us (copies S R) same-parameters as-copies (loaded_configuration S0) at_load

  -- One procedure of one module.
  module _ (k : ℕ) (h : k < length S) (p : ℕ) (below : p < entry_count (code_at S k)) where
    maps : Mapped S R k
    maps = mapped_at S R k h (spaces k) bytes (accepted k h)

    reached-record : (at : ℕ) (l : List Slot) → Reached (copies S R k) p at l → Reached (Us k) p at l
    reached-record =
        copied-reached S (bytes_at S R k) (sound-at S R k h) (placed_at S R k h) (R.marks k) (R.are_cut k h) (member_at S k).results
        (libraries_of S (bytes_at S R k)) (lent_libraries S) (R.in_order k h) (agree_at S R k h) p below (maps p below).0
        (maps p below).1

    labels-record : (at : ℕ) (l : List Slot) → Reached (Us k) p at l → Labels (Alike (Us k).code (copies S R k).code) l
    labels-record =
        reached-labels S (bytes_at S R k) (sound-at S R k h) (placed_at S R k h) (R.marks k) (R.are_cut k h) (member_at S k).results
        (libraries_of S (bytes_at S R k)) (lent_libraries S) (R.in_order k h) (agree_at S R k h) p below (maps p below).0
        (maps p below).1

  -- Takes the links and what is not read from the laws about them, and so does not rest on these.
  safe-as : (c : Configuration) → Keeps Ms (copies S R) S0 c → Linked c.state.memory c.calls
      → ((s' : List ℕ) → SameFrom (share_of c.calls) c.state.stack s' → Unread Ms c s')
      → Safe Ms Us (spaces_left S spaces) S0 c
  safe-as c keep links below =
      let i = keep.inv in
      let p = i.placed in
      let k = running_member c.calls in
      let h : k < length S = omega (arith, p.member, modules-length S) in
      let within : running c.calls < entry_count (code_at S k) = omega (arith, p.procedure, count_at S R k h) in
      let at = (registers_of c).pc in
      let reached = reached-record k h (running c.calls) within at p.slots p.reached in
      record {
        member = p.member;
        global = p.global;
        procedure = within;
        active = i.counted;
        slots = p.slots;
        placed = reached;
        pictured = λ π is. has-reached (Us k) (running c.calls) π is at p.slots reached;
        height = p.height;
        labels =
            holds-carried (Us k).code (copies S R k).code c.state.stack (share_of c.calls) p.slots
            (labels-record k h (running c.calls) within at p.slots reached) p.holds;
        shown = shows-reached S k (spaces k) bytes (accepted k h) R (running c.calls) within at p.slots reached;
        fixed = keep.fixed;
        memory_size = keep.memory_size;
        stack_size = keep.stack_size;
        links = links;
        unread = below;
      }

  pub run-safe : (n : ℕ) (c : Configuration) → Visits Ms Us (loaded_configuration S0) n c → Safe Ms Us (spaces_left S spaces) S0 c
  run-safe n c v =
      let k = run-keeps v in
      safe-as c k (linked Ms c.state.memory (registers_of c).fp c.calls k.inv.framed)
      (unread Ms (copies S R) as-copies c k.inv)
