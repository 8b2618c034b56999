-- What acceptance says of a place that is reached: every region has a map, a map has what is reached, and what a map has is a
-- start, so that an instruction of the code stands there, its ways out lie in the code, and a procedure that it calls is one.
use mathlib.Core.Bool.{Bool, true, false}
use mathlib.Core.List.{List, [], ◌∷◌}
use mathlib.Core.Option.{some}
use mathlib.Core.Path.{◌≡◌, refl}
use Prim.Native.Nat.{ℕ, zero, suc, ◌+◌, ◌<◌}
use native.Mathlib.Omega.{arith}
use lib.Dec.{eqb, leb}
use lib.ListN.{length}
use borrow.Author.Tests.{eqb-true, eqb-false, leb-false}
use Rattle.words.specs.Refusal.{Test, ◌when◌}
use Rattle.words.proofs.Refusal.{cleared}
use Rattle.entries.specs.Entries.{entry_at, entry_count, no_callee, region_end}
use Rattle.entries.specs.Libraries.{Library, library_in}
use Rattle.opcode.specs.Decode.{decode_at}
use Rattle.std.specs.Prelude.{Ok}
use Rattle.opcode.specs.declared.instruction.Instruction.{Instruction}
use Rattle.shape.specs.Shape.{shape_of}
use Rattle.shape.specs.declared.Shape.TheVariants.{Call, CallExternal}
use Rattle.shape.proofs.Origins.{decoded-wider}
use Rattle.layout.specs.Cut.{Marks, starts_in}
use Rattle.faults.specs.Faults.{strays, misplaced, uncallable, test_at, any_from, anywhere, code_number}
use Rattle.layout.proofs.Cutting.{Cutted}
use Rattle.stackmap.specs.Slots.{Slot}
use Rattle.registers.specs.Modules.{Modules, module_at}
use Rattle.execute.proofs.Acts.{lacks}
use Rattle.stackmap.specs.Ways.{Subject, Way, parameters_in, results_in, ways}
use Rattle.invariant.specs.Active.{Subjects}
use Rattle.stackmap.specs.StackMap.{ways_at, Map, Obeys, IsMap, Reached, stepped}
use Rattle.stackmap.proofs.Exact.{has-reached}
use Rattle.step.proofs.Intact.{apart}
use Rattle.invariant.proofs.Invariant.{InCode, Callable}

-- A module that the check accepts.
pub record Checked (U : Subject) : Type 0 where
  pub cutted : Cutted U.code U.marks
  pub in_order : code_number U.code U.libraries U.marks ≡ 0
  pub maps : (p : ℕ) → p < entry_count U.code → (π : Map) × IsMap U p π

-- A test that fails everywhere fails at each offset.
none_from : (f : ℕ → Bool) (at n k : ℕ) → any_from f at n ≡ false → k < n → f (at + k) ≡ false
none_from f at zero k e h = absurd (omega arith)
none_from f at (suc n) zero e h =
    let z : at + 0 ≡ at = omega arith in
    rw z (apart (f at) (any_from f (at + 1) n) e).0
none_from f at (suc n) (suc k) e h =
    let z : at + suc k ≡ at + 1 + k = omega arith in
    rw z (none_from f (at + 1) n k (apart (f at) (any_from f (at + 1) n) e).1 (omega arith))

-- No number, so none of the three tests holds.
all-callable : (code : List ℕ) (libraries : List Library) (marks : Marks) → code_number code libraries marks ≡ 0 → (at : ℕ)
    → at < length code → test_at code (marks at) (uncallable code libraries) at ≡ false
unfolding code_number anywhere
all-callable code libraries marks e at h =
    let z : 0 + at ≡ at = omega arith in
    let tests : List Test =
    12 when anywhere code marks (strays code marks)
    ∷ 13 when anywhere code marks (misplaced code)
    ∷ 14 when anywhere code marks (uncallable code libraries)
    ∷ [] in
    rw z at
    (none_from (λ (k : ℕ). test_at code (marks k) (uncallable code libraries) k) 0 (length code) at (cleared tests refl e).1.1.0 h)

-- What stands at a place that is reached with a list.
pub record AtPlace (U : Subject) (p at : ℕ) (l : List Slot) : Type 0 where
  pub inside : at < length U.code
  pub instruction : Instruction
  pub next : ℕ
  pub decoded : decode_at U.code (length U.code) at ≡ Ok (instruction, next)
  pub out : List Way
  pub found : ways_at U p at l ≡ some out
  pub ways-out : ways U p at next (shape_of instruction) l ≡ some out
  pub stays : InCode U.code out
  pub callable : (d : ℕ) → shape_of instruction ≡ Call d → Callable U.code d
  pub external : (k d : ℕ) → shape_of instruction ≡ CallExternal k d → no_callee (library_in U.libraries k).code d ≡ false
  pub region : decode_at U.code (region_end U.code p) at ≡ Ok (instruction, next)
  pub start : starts_in U.marks p at ≡ true

-- A procedure of an accepted module.
pub callable : (U : Subject) → Checked U → (d : ℕ) → no_callee U.code d ≡ false → Callable U.code d
callable U C d t =
    let (low, most) = apart (eqb d 0) (leb (entry_count U.code) d) t in
    let high = leb-false (entry_count U.code) d most in
    (omega (arith, eqb-false d 0 low), high, C.cutted.inside d (entry_at U.code d) (C.cutted.entered d high))

module _ (U : Subject) (C : Checked U) (p : ℕ) (h : p < entry_count U.code) where
  obeyed : (at : ℕ) (l : List Slot) → Reached U p at l → Obeys U p (C.maps p h).0 at l
  obeyed at l r =
      let (π, is) = C.maps p h in
      is.obeys at l (has-reached U p π is at l r)

  pub reached-inside : (at : ℕ) (l : List Slot) → Reached U p at l → at < length U.code
  reached-inside at l r = C.cutted.inside p at (obeyed at l r).start

  calls-only : (at next : ℕ) (i : Instruction) → starts_in U.marks p at ≡ true
      → decode_at U.code (region_end U.code p) at ≡ Ok (i, next)
      → (d : ℕ) → shape_of i ≡ Call d → Callable U.code d
  unfolding uncallable
  calls-only at next i s e d k =
      let mark : U.marks at ≡ suc p = omega (arith, eqb-true (U.marks at) (p + 1) s) in
      let t : no_callee U.code d ≡ false =
      rw (mark, e, k) at (all-callable U.code U.libraries U.marks C.in_order at (C.cutted.inside p at s)) in
      callable U C d t

  calls-external : (at next : ℕ) (i : Instruction) → starts_in U.marks p at ≡ true
      → decode_at U.code (region_end U.code p) at ≡ Ok (i, next)
      → (k d : ℕ) → shape_of i ≡ CallExternal k d → no_callee (library_in U.libraries k).code d ≡ false
  unfolding uncallable
  calls-external at next i s e k d is =
      let mark : U.marks at ≡ suc p = omega (arith, eqb-true (U.marks at) (p + 1) s) in
      rw (mark, e, is) at (all-callable U.code U.libraries U.marks C.in_order at (C.cutted.inside p at s))

  pub placed : (at : ℕ) (l : List Slot) → Reached U p at l → AtPlace U p at l
  unfolding ways_at
  placed at l r =
      let o = obeyed at l r in
      let (i, next, e) = C.cutted.decoded p at o.start in
      record {
        inside = reached-inside at l r;
        instruction = i;
        next = next;
        decoded = decoded-wider U.code (region_end U.code p) at next i e (length U.code) (C.cutted.ends p h);
        out = o.out;
        found = o.found;
        ways-out = rw e at o.found;
        stays = λ t k a. reached-inside t k (stepped r o.found a);
        callable = calls-only at next i o.start e;
        external = calls-external at next i o.start e;
        region = e;
        start = o.start;
      }

-- The modules of a set, accepted one and all: the codes are those that run, a library's procedures are its module's own, and the library
-- numbers of the instructions are there.
pub record Together (Ms : Modules) (Us : Subjects) : Type 0 where
  pub some : 0 < length Ms
  pub codes : (k : ℕ) → k < length Ms → (Us k).code ≡ (module_at Ms k).code
  pub checked : (k : ℕ) → k < length Ms → Checked (Us k)
  pub there : (k : ℕ) → k < length Ms → (p at next : ℕ) (i : Instruction) → starts_in (Us k).marks p at ≡ true
      → decode_at (Us k).code (region_end (Us k).code p) at ≡ Ok (i, next) → lacks Ms i ≡ false
  pub callees : (k l d : ℕ) → k < length Ms → 0 < l → l < length Ms
      → no_callee (library_in (Us k).libraries l).code d ≡ no_callee (Us l).code d
  pub parameters : (k l d : ℕ) → k < length Ms → 0 < l → l < length Ms → d < entry_count (Us l).code
      → parameters_in (library_in (Us k).libraries l).code d ≡ parameters_in (Us l).code d
  pub results : (k l d : ℕ) → k < length Ms → 0 < l → l < length Ms
      → results_in (library_in (Us k).libraries l).results d ≡ results_in (Us l).results d
