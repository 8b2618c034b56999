-- The copies are accepted together, where the records are: each copy has the cut of its record's code, no number from 12 to 14, and a
-- map of every region; its library numbers are those of modules, and what a call sees of a library is the library's own.
use mathlib.Core.Bool.{true, false}
use mathlib.Core.List.{List}
use mathlib.Core.Path.{◌≡◌, ◌∙◌, refl, sym, subst}
use Prim.Native.Nat.{ℕ, ◌≤◌, ◌<◌}
use native.Mathlib.Omega.{arith}
use borrow.Author.Tests.{lt-leb, ne_eqb}
use lib.ListN.{length}
use Rattle.entries.specs.Entries.{entry_count, region_end}
use Rattle.record.specs.Number.{record_number}
use Rattle.opcode.specs.Decode.{decode_at}
use Rattle.std.specs.Prelude.{Ok}
use Rattle.opcode.specs.declared.instruction.Base.{Base}
use Rattle.opcode.specs.declared.instruction.Base.TheVariants.{Local, Global, Constant, Popped, External}
use Rattle.opcode.specs.declared.instruction.Instruction.{Instruction}
use Rattle.opcode.specs.declared.instruction.Instruction.TheVariants.{LoadConstant, Load, LoadAddress, Store, Pop, Swap, Nop}
use Rattle.opcode.specs.declared.instruction.Instruction.TheVariants.{Operate, Alloc, Free, Jump, JumpC, JumpT, JumpF, Iter}
use Rattle.opcode.specs.declared.instruction.Instruction.TheVariants.{Next, Switch, SwitchX, Leave, Call, CallExternal}
use Rattle.opcode.specs.declared.instruction.Instruction.TheVariants.{Enter, Rtn}
use Rattle.layout.specs.Cut.{Marks, cut, starts_in}
use Rattle.module_set.specs.Members.{Members, member_at}
use Rattle.relocation.specs.Places.{outside, is_external}
use Rattle.relocation.specs.Relocation.{relocation_sound}
use Rattle.relocation.proofs.Sound.{SetSound, set_sound}
use Rattle.registers.specs.Modules.{Modules, no_library}
use Rattle.effect.specs.Data.{no_base}
use Rattle.execute.proofs.Acts.{lacks}
use Rattle.load.specs.Modules.{modules_of}
use Rattle.load.proofs.Modules.{modules-length, module-at, set-some}
use Rattle.stackmap.specs.Ways.{Subject, parameters_in}
use Rattle.stackmap.specs.StackMap.{Map, IsMap}
use Rattle.verifier.specs.Check.{set_check, libraries_of}
use Rattle.verifier.specs.Exact.{Ruled, code_at, Mapped, AllBytes}
use Rattle.verifier.proofs.Exactly.{accepts-exactly}
use Rattle.relocated.proofs.Renumbering.{base_library, library_of as libraryNumber}
use Rattle.relocated.proofs.EntryTable.{copy-count}
use Rattle.relocated.proofs.Recutting.{copy-starts}
use Rattle.relocated.proofs.Modules.{copy-number}
use Rattle.relocated.proofs.Numbers.{SameLibraries, copy-numberless}
use Rattle.relocated.proofs.Parameters.{copy-parameters}
use Rattle.relocated.proofs.Maps.{copy_subject}
use Rattle.relocated.proofs.EveryRegion.{copy-maps}
use Rattle.invariant.specs.Active.{Subjects}
use Rattle.invariant.proofs.Places.{Checked, Together}
use Rattle.safety.specs.Demand3.{AllAccepted}
use Rattle.safety.proofs.Lent.{lent_libraries, lent_at, same-libraries}

-- A number of a library is there.
there-number : (Ms : Modules) (l : ℕ) → 1 ≤ l → l < length Ms → no_library Ms l ≡ false
there-number Ms l some most = rw (ne_eqb l 0 (λ e. omega arith), lt-leb (length Ms) l most)

there-base : (Ms : Modules) (base : Base) → (outside base ≡ true → (1 ≤ base_library base) × (base_library base < length Ms))
    → no_base Ms base ≡ false
there-base Ms Local h = refl
there-base Ms Global h = refl
there-base Ms Constant h = refl
there-base Ms Popped h = refl
there-base Ms (External l) h = there-number Ms l (h refl).0 (h refl).1

-- So no instruction lacks its library whose number is that of one.
none-lacks : (Ms : Modules) (i : Instruction)
    → (is_external i ≡ true → (1 ≤ libraryNumber i) × (libraryNumber i < length Ms)) → lacks Ms i ≡ false
none-lacks Ms (LoadConstant n) h = refl
none-lacks Ms (Load base mode n) h = there-base Ms base h
none-lacks Ms (LoadAddress base n) h = there-base Ms base h
none-lacks Ms (Store base mode n) h = there-base Ms base h
none-lacks Ms (Pop n) h = refl
none-lacks Ms Swap h = refl
none-lacks Ms Nop h = refl
none-lacks Ms (Operate op) h = refl
none-lacks Ms Alloc h = refl
none-lacks Ms Free h = refl
none-lacks Ms (Jump d) h = refl
none-lacks Ms (JumpC d) h = refl
none-lacks Ms (JumpT d) h = refl
none-lacks Ms (JumpF d) h = refl
none-lacks Ms (Iter d) h = refl
none-lacks Ms Next h = refl
none-lacks Ms (Switch n) h = refl
none-lacks Ms (SwitchX n) h = refl
none-lacks Ms Leave h = refl
none-lacks Ms (Call p) h = refl
none-lacks Ms (CallExternal l p) h = there-number Ms l (h refl).0 (h refl).1
none-lacks Ms (Enter par dat) h = refl
none-lacks Ms Rtn h = refl

module _ (S : Members) (R : Ruled S) where
  -- The copies as subjects, by the numbers of their modules.
  abbrev pub copies : Subjects
  copies k = copy_subject S (member_at S k).bytes (lent_libraries S) (member_at S k).results (R.marks k)

  abbrev pub bytes_at : ℕ → List ℕ
  bytes_at k = (member_at S k).bytes

  sounds : SetSound S
  sounds = set_sound S R.set_sound

  -- One module.
  module _ (k : ℕ) (h : k < length S) where
    pub sound-at : record_number (bytes_at k) ≡ 0
    sound-at = sounds.sound k h

    pub placed_at : relocation_sound (bytes_at k) ≡ true
    placed_at = sounds.relocations k h

    pub agree_at : SameLibraries S (bytes_at k) (libraries_of S (bytes_at k)) (lent_libraries S)
    agree_at = same-libraries S (bytes_at k) sounds.linked k h refl

    pub count_at : entry_count (copies k).code ≡ entry_count (code_at S k)
    count_at = copy-count S (bytes_at k) sound-at placed_at

    pub parameters-at : (p : ℕ) → p < entry_count (code_at S k) → parameters_in (copies k).code p ≡ parameters_in (code_at S k) p
    parameters-at =
        copy-parameters S (bytes_at k) sound-at placed_at (R.marks k) (R.are_cut k h) (libraries_of S (bytes_at k)) (R.in_order k h)

    number-at : (p at next : ℕ) (i : Instruction) → starts_in (R.marks k) p at ≡ true
        → decode_at (copies k).code (region_end (copies k).code p) at ≡ Ok (i, next) → lacks (modules_of S) i ≡ false
    number-at p at next i s d =
        none-lacks (modules_of S) i
        (λ x.
        let range = copy-number S (bytes_at k) sounds.linked k h refl sound-at placed_at (R.marks k) (R.are_cut k h) p at s i next d x in
        (range.0, omega (arith, range.1, modules-length S)))

    -- Its regions have maps for every way to meet the rules, for there is one cut.
    pub mapped_at : (w : List ℕ) → AllBytes S → (set_check S k w).number ≡ 0 → Mapped S R k
    mapped_at w bytes accepted =
        let (room, Q, maps) = (accepts-exactly S k w bytes).0 accepted in
        let same : Q.marks k ≡ R.marks k = one (sym (Q.are_cut k h) ∙ R.are_cut k h) in
        subst (λ (m : Marks). (p : ℕ) → p < entry_count (code_at S k) → (π : Map) × IsMap (over m) p π) same maps
      where
        one : {m m' : Marks} → cut m ≡ cut m' → m ≡ m'
        one e = cc

        over : Marks → Subject
        over m = record {
          code = code_at S k;
          libraries = libraries_of S (bytes_at k);
          results = (member_at S k).results;
          marks = m;
        }

    checked-at : Mapped S R k → AllBytes S → Checked (copies k)
    checked-at maps bytes =
        record {
          cutted = copy-starts S (bytes_at k) sound-at placed_at (R.marks k) (R.are_cut k h);
          in_order =
              copy-numberless S (bytes_at k) sound-at placed_at (R.marks k) (R.are_cut k h) (libraries_of S (bytes_at k)) (R.in_order k h)
              (lent_libraries S) agree_at;
          maps = λ p below.
              let L =
              copy-maps S (bytes_at k) sound-at placed_at (R.marks k) (R.are_cut k h) (member_at S k).results
              (libraries_of S (bytes_at k)) (lent_libraries S) (bytes k) (R.in_order k h) agree_at maps p (omega (arith, count_at)) in
              (L.map, L.is-map);
        }

  below : (k : ℕ) → k < length (modules_of S) → k < length S
  below k h = omega (arith, modules-length S)

  pub together : (spaces : ℕ → List ℕ) → AllBytes S → AllAccepted S spaces → Together (modules_of S) copies
  together spaces bytes accepted =
      record {
        some = omega (arith, modules-length S, set-some S R.set_sound);
        codes = λ k h. rw (module-at S k (below k h));
        checked = λ k h. checked-at k (below k h) (mapped_at k (below k h) (spaces k) bytes (accepted k (below k h))) bytes;
        there = λ k h. number-at k (below k h);
        callees = λ k l d h some most. rw (lent_at S l some (below l most), count_at l (below l most));
        parameters = λ k l d h some most least.
            rw (lent_at S l some (below l most)) (sym (parameters-at l (below l most) d (omega (arith, count_at l (below l most)))));
        results = λ k l d h some most. rw (lent_at S l some (below l most));
      }
