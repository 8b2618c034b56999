-- CALL, ENTER and RTN complete where their tests pass: each by its effect, carried out on the registers.
use mathlib.Core.Path.{◌≡◌, ◌∙◌, refl, ap}
use mathlib.Core.Bool.{true}
use mathlib.Core.List.{List}
use Prim.Native.Nat.{ℕ, suc, ◌+◌, ◌*◌, ◌-◌, ◌≤◌, ◌<◌}
use native.Mathlib.Numerals.{add-one}
use native.Mathlib.Omega.{arith}
use lib.ListN.{length, set, take, drop, length-drop}
use lib.Seq.{sets, take-suc, get_or-drop, length-take-le}
use borrow.Author.Tests.{ne_eqb, lt-leb, le-leb, lt-ltb}
use Rattle.words.specs.Bytes.{byte_at, halfword_at}
use Rattle.words.proofs.Sets.{sets_behind}
use Rattle.words.proofs.Slices.{drop-one}
use Rattle.entries.specs.Entries.{entry_at, entry_count}
use Rattle.opcode.specs.declared.instruction.Instruction.TheVariants.{Call, Enter, Rtn}
use Rattle.shape.specs.Shape.{shape_of}
use Rattle.effect.specs.declared.effect.Push.TheVariants.{NoPush}
use Rattle.effect.specs.declared.effect.Write.TheVariants.{NoWrite, WriteTwo, WritePopped}
use Rattle.control.specs.Control.{call_effect, enter_effect, rtn_effect}
use Rattle.registers.specs.declared.Attributes.{Attributes}
use Rattle.registers.specs.Program.{Program}
use Rattle.registers.specs.State.{State}
use Rattle.registers.specs.Memory.{read, above_zero, is_local}
use Rattle.registers.specs.Changes.{called, sized}
use Rattle.registers.proofs.Links.{link-range, local-words, chain-lower}
use Rattle.execute.specs.Execute.{execute}
use Rattle.state.proofs.Fitting.{Fitting}
use Rattle.fast.specs.Fast.{Completed}
use Rattle.fast.proofs.Goes.{went}
use Rattle.fast_frames.specs.Frames.{registers_at, framed}
use Rattle.fast.specs.Fast.{Decodes}

-- The entry of a callee, by its two bytes.
pub entry-bytes : (code : List ℕ) (p : ℕ) → entry_at code p ≡ byte_at code (2 * p) * 256 + byte_at code (2 * p + 1)
unfolding entry_at halfword_at
entry-bytes code p = refl

-- One word of a part, and two, stored.
pub copied-one : (m s : List ℕ) (a low : ℕ) → low < length s → set m a (read s low) ≡ sets m a (take 1 (drop low s))
copied-one m s a low h = rw (drop-one s low h)

pub copied-two : (m s : List ℕ) (a low : ℕ) → low + 1 < length s
    → set (set m a (read s low)) (a + 1) (read s (low + 1)) ≡ sets m a (take 2 (drop low s))
copied-two m s a low h = rw (drop-one s low (omega arith), drop-one s (low + 1) h, add-one a)

-- One word more of a part is stored behind those before it.
pub copied_next : (m s : List ℕ) (a low i : ℕ) → low + i < length s
    → set (sets m a (take i (drop low s))) (a + i) (read s (low + i)) ≡ sets m a (take (i + 1) (drop low s))
copied_next m s a low i h =
    let rest = drop low s in
    let more : i < length rest = simp length-drop (omega arith) in
    let behind : a + i ≡ a + length (take i rest) = ap (λ (k : ℕ). a + k) (omega (arith, length-take-le i rest (omega arith))) in
    rw (← get_or-drop low s i 0, add-one i, take-suc rest i 0 more)
    (sets_behind m a (a + i) (take i rest) _ behind)

-- An active call's frame has two link words or more below it.
pub linked : (A : Attributes) (pc fp mp gp h n : ℕ) (m s : List ℕ) → Fitting A (framed pc fp mp gp h n m s) → (n ≡ 0 → ⊥)
    → 2 ≤ fp
linked A pc fp mp gp h n m s F some =
    let more : n ≡ suc (n - 1) = omega arith in
    omega (arith, link-range m fp, chain-lower m A.frames fp (n - 1) (rw more at F.links))

-- A return word that is a place in a short code, and not 0, is above 0 as a signed number.
locally : (m : List ℕ) (fp size : ℕ) → size ≤ 4096 → read m (fp - 1) < size → (read m (fp - 1) ≡ 0 → ⊥) → is_local m fp ≡ true
unfolding above_zero
locally m fp size short inside some =
    rw (lt-ltb 0 (read m (fp - 1)) (omega arith), lt-ltb (read m (fp - 1)) 0x8000_0000 (omega arith))

module _ (P : Program) (pc fp mp gp h n : ℕ) (m s : List ℕ) (F : Fitting P.attributes (framed pc fp mp gp h n m s)) where
  abbrev S : State
  S = framed pc fp mp gp h n m s

  pub call-done : (next p : ℕ) → Decodes P.code pc (Call p) next → (p ≡ 0 → ⊥) → p < entry_count P.code → n < 64
      → mp + 2 ≤ length m → (entry : ℕ) → entry ≡ entry_at P.code p → entry < length P.code
      → Completed true P S (framed entry (mp + 2) (mp + 2) gp h (n + 1) (set (set m mp fp) (mp + 1) next) s)
  unfolding execute shape_of call_effect
  call-done next p d some l c room entry is inside =
      let none : h - 0 + 0 ≡ h = omega arith in (
        inside,
        went P S (Call p) next 0 NoPush (WriteTwo mp fp next) (called S.registers 2 gp entry) d (omega arith)
            (rw (is, ne_eqb p 0 some, lt-leb (entry_count P.code) p l, lt-leb 64 n c, le-leb (mp + 2) (length m) room))
            (omega (arith, F.height)) F.global inside ∙ rw (none, add-one mp),
      )

  pub enter-done : (next par dat : ℕ) → Decodes P.code pc (Enter par dat) next → par ≤ h → mp + par + dat ≤ length m
      → next < length P.code
      → Completed true P S (framed next fp (mp + par + dat) gp (h - par) n (sets m mp (take par (drop (h - par) s))) s)
  unfolding execute shape_of enter_effect
  enter-done next par dat d enough room inside =
      let none : h - par + 0 ≡ h - par = omega arith in (
        inside,
        went P S (Enter par dat) next par NoPush (WritePopped mp) (sized S.registers next (mp + par + dat)) d enough
            (rw (le-leb (mp + par + dat) (length m) room)) (omega (arith, F.height)) F.global inside ∙ rw none,
      )

  pub rtn-done : (next : ℕ) → Decodes P.code pc Rtn next → (n ≡ 0 → ⊥) → length P.code ≤ 4096
      → read m (fp - 1) < length P.code → (read m (fp - 1) ≡ 0 → ⊥)
      → Completed true P S (framed (read m (fp - 1)) (read m (fp - 2)) (fp - 2) gp h (n - 1) m s)
  unfolding execute shape_of rtn_effect
  rtn-done next d some short inside back =
      let none : h - 0 + 0 ≡ h = omega arith in
      let near = locally m fp (length P.code) short inside back in (
        inside,
        went P S Rtn next 0 NoPush NoWrite (registers_at (read m (fp - 1)) (read m (fp - 2)) (fp - 2) gp h (n - 1)) d
            (omega arith) (rw (ne_eqb n 0 some, local-words m fp near, near)) (omega (arith, F.height)) F.global inside
            ∙ rw none,
      )
