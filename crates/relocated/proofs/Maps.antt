-- The copy has the maps of the record's code: at each start, from a list whose labels are of starts, the ways out are the same.
-- So what is reached is the same, by induction on how it is reached.
use mathlib.Core.Bool.{Bool, true, false, ◌||◌}
use mathlib.Core.List.{List, [], ◌∷◌}
use mathlib.Core.Option.{some}
use mathlib.Core.Path.{◌≡◌, ◌∙◌, refl, sym}
use Prim.Native.Nat.{ℕ, ◌<◌}
use native.Mathlib.Omega.{arith}
use lib.Dec.{eqb, leb}
use borrow.Author.Tests.{leb-false}
use Rattle.header.specs.Header.{code_of}
use Rattle.record.specs.Number.{record_number}
use Rattle.entries.specs.Entries.{entry_at, entry_count, no_callee, region_end}
use Rattle.entries.specs.Libraries.{Library}
use Rattle.opcode.specs.Decode.{decode_at}
use Rattle.std.specs.Prelude.{Ok}
use Rattle.opcode.specs.declared.instruction.Instruction.{Instruction}
use Rattle.shape.specs.Shape.{shape_of}
use Rattle.shape.specs.declared.Shape.{Shape}
use Rattle.shape.specs.declared.Shape.TheVariants.{Straight, Pop, Jump, JumpC, JumpTF, Iter}
use Rattle.shape.specs.declared.Shape.TheVariants.{Next, Switch, Leave, Call, CallExternal, Enter, Rtn}
use Rattle.layout.specs.Cut.{Marks, cut, cut_of, starts_in}
use Rattle.faults.specs.Faults.{uncallable, code_number}
use Rattle.stackmap.specs.Slots.{Slot, word, label}
use Rattle.stackmap.specs.Ways.{Subject, Way, parameters_in, is_iter, is_switch, label_word, next_out, leave_out, ways}
use Rattle.stackmap.specs.StackMap.{ways_at, Map, IsMap, first_slots, Reached, entered, stepped}
use Rattle.stackmap.proofs.Exact.{has-reached}
use Rattle.module_set.specs.Members.{Members, resolved}
use Rattle.relocation.specs.Relocation.{relocation_sound, relocated}
use Rattle.relocated.proofs.EntryTable.{code-starts, copy-entry}
use Rattle.relocated.proofs.Decoding.{copy-decodes, start-import}
use Rattle.relocated.proofs.Shapes.{shape_by, renumbered-shape, calls-library}
use Rattle.relocated.proofs.Tables.{copy-iter, copy-switch, iter_label, switch_label, copy-targets}
use Rattle.relocated.proofs.Numbers.{SameLibraries, code-faultless}
use Rattle.relocated.proofs.Parameters.{copy-parameters}
use Rattle.relocated.proofs.Labels.{Labels, no_slot, a-label, Given, given-among, labels-pushed, ways-given}

-- An origin whose label two codes read alike.
pub record Alike (code copy : List ℕ) (origin : ℕ) : Type 0 where
  pub iter : is_iter copy origin ≡ is_iter code origin
  pub switch : is_switch copy origin ≡ is_switch code origin
  pub says : label_word copy origin ≡ label_word code origin

next-same : (code copy : List ℕ) (next : ℕ) (l : List Slot) → Labels (Alike code copy) l
    → next_out copy next l ≡ next_out code next l
next-same code copy next [] L = refl
next-same code copy next (word ∷ l) L = refl
next-same code copy next (label origin ∷ l) (a-label A L) = rw (A.says, A.iter)

leave_same : (code copy : List ℕ) (l : List Slot) → Labels (Alike code copy) l → leave_out copy l ≡ leave_out code l
leave_same code copy [] L = refl
leave_same code copy (word ∷ l) L = refl
leave_same code copy (label origin ∷ l) (a-label A L) = rw (A.says, A.switch)

-- What one subject reaches, another reaches, if their entries are alike and their ways out from what both reach.
module _ (P : ℕ → Type 0) (U T : Subject) (p : ℕ)
    (first : Reached T p (entry_at U.code p) (first_slots U p))
    (alike : (at : ℕ) (l : List Slot) → Reached U p at l → Reached T p at l → Labels P l → ways_at T p at l ≡ ways_at U p at l)
    (given : (at : ℕ) (l : List Slot) (out : List Way) → Reached U p at l → Reached T p at l → Labels P l
    → ways_at U p at l ≡ some out → Given P out) where
  carried : (at : ℕ) (l : List Slot) → Reached U p at l → Reached T p at l × Labels P l
  carried at l entered = (first, labels-pushed P (parameters_in U.code p) [] no_slot)
  carried at l (stepped {at = from} {l = k} {out = out} r w a) =
      let (there, L) = carried from k r in
      (stepped there (alike from k r there L ∙ w) a, given-among P (given from k out r there L w) a)

-- The record's code under check, and the copy with the same results list and starts.
abbrev pub record_subject : (r : List ℕ) → List Library → (results : List ℕ) → Marks → Subject
record_subject r L results marks = record { code = code_of r; libraries = L; results = results; marks = marks }

abbrev pub copy_subject : Members → (r : List ℕ) → List Library → (results : List ℕ) → Marks → Subject
copy_subject S r L results marks = record { code = relocated S r; libraries = L; results = results; marks = marks }

module _ (S : Members) (r : List ℕ) (sound : record_number r ≡ 0) (placed : relocation_sound r ≡ true)
    (marks : Marks) (c : cut_of (code_of r) ≡ cut marks) (results : List ℕ) (L L' : List Library)
    (clear : code_number (code_of r) L marks ≡ 0) (agree : SameLibraries S r L L') where
  abbrev pub Like : ℕ → Type 0
  Like = Alike (code_of r) (relocated S r)

  -- One start and its instruction.
  module _ (p at : ℕ) (i : Instruction) (next : ℕ) (s : starts_in marks p at ≡ true)
      (d : decode_at (code_of r) (region_end (code_of r) p) at ≡ Ok (i, next)) where
    origin-alike : label_word (relocated S r) at ≡ label_word (code_of r) at → Like at
    origin-alike e =
        record {
          iter = copy-iter S r sound placed marks c p at s i next d;
          switch = copy-switch S r sound placed marks c p at s i next d;
          says = e;
        }

    callee-counted : (q : ℕ) → shape_of i ≡ Call q → q < entry_count (code_of r)
    unfolding uncallable
    callee-counted q e =
        let none : no_callee (code_of r) q ≡ false =
        rw e at ((code-faultless r sound marks c L clear).callable p at i next s d) in
        leb-false (entry_count (code_of r)) q (second (eqb q 0) (leb (entry_count (code_of r)) q) none)
      where
        second : (a b : Bool) → (a || b) ≡ false → b ≡ false
        second true b e = let z : ◌≡◌ {A = ℕ} 0 1 = cc in absurd (omega arith)
        second false b e = e

    ways-same : (l : List Slot) → Labels Like l → (k : Shape) → shape_of i ≡ k
        → ways (copy_subject S r L' results marks) p at next (shape_by (resolved S r) k) l
        ≡ ways (record_subject r L results marks) p at next k l
    unfolding ways
    ways-same l A (Straight pops pushes) e = refl
    ways-same l A (Pop n) e = refl
    ways-same l A (Jump k) e = refl
    ways-same l A (JumpC k) e = refl
    ways-same l A (JumpTF k) e = refl
    ways-same l A (Iter k) e = refl
    ways-same l A Next e = next-same (code_of r) (relocated S r) next l A
    ways-same l A (Switch t n) e = rw (copy-targets S r sound placed marks c p at s i next d t n e)
    ways-same l A Leave e = leave_same (code_of r) (relocated S r) l A
    ways-same l A (Call q) e = rw (copy-parameters S r sound placed marks c L clear q (callee-counted q e))
    ways-same l A (CallExternal b q) e =
        let is = calls-library i b q e in
        let both = start-import S r sound placed marks c p at s i next d is.0 in
        rw (agree b (omega (arith, is.1, both.0)) (omega (arith, is.1, both.1)))
    ways-same l A (Enter par) e = refl
    ways-same l A Rtn e = refl

  module _ (p at : ℕ) (l : List Slot) (s : starts_in marks p at ≡ true) (A : Labels Like l) where
    -- The ways out are the same,
    start-ways : ways_at (copy_subject S r L' results marks) p at l ≡ ways_at (record_subject r L results marks) p at l
    unfolding ways_at
    start-ways =
        let (i, next, d) = (code-starts r sound marks c).decoded p at s in
        rw (copy-decodes S r sound placed marks c p at s i next d, d, renumbered-shape (resolved S r) i)
        (ways-same p at i next s d l A (shape_of i) refl)

    -- and hand on labels of starts.
    start-given : (out : List Way) → ways_at (record_subject r L results marks) p at l ≡ some out → Given Like out
    unfolding ways_at
    start-given out w =
        let (i, next, d) = (code-starts r sound marks c).decoded p at s in
        ways-given Like (record_subject r L results marks) p at next l out A (shape_of i)
        (λ k e. origin-alike p at i next s d (iter_label S r sound placed marks c p at s i next d k e))
        (λ t n e. origin-alike p at i next s d (switch_label S r sound placed marks c p at s i next d t n e))
        (rw d at w)

  -- A procedure whose region has a map.
  module _ (p : ℕ) (h : p < entry_count (code_of r)) (π : Map) (is : IsMap (record_subject r L results marks) p π) where
    starts : (at : ℕ) (l : List Slot) → Reached (record_subject r L results marks) p at l → starts_in marks p at ≡ true
    starts at l R = (is.obeys at l (has-reached (record_subject r L results marks) p π is at l R)).start

    first-copied : first_slots (copy_subject S r L' results marks) p ≡ first_slots (record_subject r L results marks) p
    first-copied = rw (copy-parameters S r sound placed marks c L clear p h)

    reached-on : (at : ℕ) (l : List Slot) → Reached (record_subject r L results marks) p at l
        → Reached (copy_subject S r L' results marks) p at l × Labels Like l
    reached-on =
        carried Like (record_subject r L results marks) (copy_subject S r L' results marks) p
        (rw (← first-copied, ← copy-entry S r sound placed p h) entered)
        (λ at l here there A. start-ways p at l (starts at l here) A)
        (λ at l out here there A w. start-given p at l (starts at l here) A out w)

    pub reached-copied : (at : ℕ) (l : List Slot) → Reached (record_subject r L results marks) p at l
        → Reached (copy_subject S r L' results marks) p at l
    reached-copied at l R = (reached-on at l R).0

    pub copied-reached : (at : ℕ) (l : List Slot) → Reached (copy_subject S r L' results marks) p at l
        → Reached (record_subject r L results marks) p at l
    copied-reached at l R =
        (carried Like (copy_subject S r L' results marks) (record_subject r L results marks) p
        (rw (first-copied, copy-entry S r sound placed p h) entered)
        (λ at l there here A. sym (start-ways p at l (starts at l here) A))
        (λ at l out there here A w.
        let s = starts at l here in
        start-given p at l s A out (sym (start-ways p at l s A) ∙ w))
        at l R).0

    pub reached-labels : (at : ℕ) (l : List Slot) → Reached (record_subject r L results marks) p at l → Labels Like l
    reached-labels at l R = (reached-on at l R).1

    -- A map of what is reached is one of the copy.
    pub copy-map : ((at : ℕ) (l : List Slot) → π at ≡ some l → Reached (record_subject r L results marks) p at l)
        → IsMap (copy_subject S r L' results marks) p π
    copy-map least = record {
      first = rw (first-copied, copy-entry S r sound placed p h) is.first;
      obeys = λ at l e.
          let O = is.obeys at l e in
          record {
            start = O.start;
            short = O.short;
            out = O.out;
            found = start-ways p at l O.start (reached-on at l (least at l e)).1 ∙ O.found;
            gives = O.gives;
          };
    }
