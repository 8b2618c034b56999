-- What an effect keeps of memory and frames in a state that fits: a store passed the protected test, a call adds a link, a
-- return takes one away.
use Prim.Native.Nat.{ℕ, suc, ◌+◌, ◌-◌, ◌≤◌, ◌<◌}
use mathlib.Core.Path.{◌≡◌, ◌∙◌, refl, sym}
use mathlib.Core.Bool.{Bool, true, false, cond, ◌||◌, true≢false, and-eq-true_iff}
use mathlib.Core.List.{List, [], ◌∷◌}
use native.Mathlib.Nat.{lt_of_not-le}
use native.Mathlib.Omega.{arith}
use lib.ListN.{length, set}
use lib.Seq.{sets, get_or-set_other}
use borrow.Author.Tests.{le-leb, lt-ltb, le-ltb, ne_eqb}
use Rattle.words.proofs.Sets.{sets-other}
use Rattle.opcode.specs.declared.instruction.Mode.{Mode}
use Rattle.opcode.specs.declared.instruction.Mode.TheVariants.{Normal, Double}
use Rattle.effect.specs.declared.effect.Effect.{Effect}
use Rattle.effect.specs.declared.effect.Effect.TheVariants.{Trap, Finish, Go}
use Rattle.effect.specs.declared.effect.Push.{Push}
use Rattle.effect.specs.declared.effect.Write.TheVariants.{NoWrite, WriteOne, WriteTwo, WriteThree, WritePopped}
use Rattle.registers.specs.declared.Registers.{Registers}
use Rattle.registers.specs.Modules.{Modules, frames_start, globals_start, is_fixed, is_base}
use Rattle.registers.specs.Memory.{read, saved_fp, global_link, above_zero, negated, is_local, link_words, is_link, chained}
use Rattle.registers.specs.Memory.{link_based, links_based, protects}
use Rattle.effect.specs.Data.{protects_any, stored}
use Rattle.registers.specs.Changes.{moved, sized, called, returned}
use Rattle.registers.proofs.Links.{local-words, external-words, chain-lower, chain-rest}
use Rattle.registers.proofs.Protected.{free-above}
use Rattle.registers.proofs.Bases.{base_there}
use Rattle.step.specs.Step.{written}
use Rattle.step.proofs.Intact.{apart, Intact, intact-none, intact-then, two-stored, three-stored, stored-above}
use Rattle.step.proofs.Intact.{stored as Stored-one}

-- What a state that fits tells of registers and memory.
pub record Frames (Ms : Modules) (q : Registers) (m : List ℕ) : Type 0 where
  pub base : is_base Ms q.gp ≡ true
  pub frame : q.fp ≤ q.mp
  pub within : q.mp ≤ length m
  pub depth : q.calls ≤ 64
  pub links : chained m (frames_start Ms) q.fp q.calls ≡ true
  pub based : links_based Ms m q.fp q.calls ≡ true

-- The registers q lie rightly in the memory n, which came of m under the registers q₀ with each protected word as it was.
pub record Steady (Ms : Modules) (q₀ q : Registers) (m n : List ℕ) : Type 0 where
  pub size : length n ≡ length m
  pub frames : Frames Ms q n
  pub spared : (a : ℕ) → protects Ms q₀ m a ≡ true → read n a ≡ read m a

-- An effect leaves registers and memory so, whatever words go.
abbrev pub Keeps : Modules → Registers → List ℕ → Effect → Type 0
Keeps Ms q₀ m (Trap t) = Unit {0}
Keeps Ms q₀ m Finish = Unit {0}
Keeps Ms q₀ m (Go pops push write q) = (vs : List ℕ) → Steady Ms q₀ q m (written m vs write)

-- The return word of a local call is above 0, that of an external one is not.
pub place-above : (x : ℕ) → 0 < x → x < 0x8000_0000 → above_zero x ≡ true
unfolding above_zero
place-above x l r = rw (lt-ltb 0 x l, lt-ltb x 0x8000_0000 r)

pub negated-below : (x : ℕ) → 0 < x → x < 0x8000_0000 → above_zero (negated x) ≡ false
unfolding above_zero negated
negated-below x l r =
    rw (
      ne_eqb x 0 (λ e. omega arith),
      lt-ltb 0 (0x1_0000_0000 - x) (omega arith),
      le-ltb (0x1_0000_0000 - x) 0x8000_0000 (omega arith),
    )

module _ (Ms : Modules) (q : Registers) (m : List ℕ) (F : Frames Ms q m) where
  abbrev start : ℕ
  start = frames_start Ms

  -- Memory intact, and MP where it was or moved within memory.
  intact-sized : (n : List ℕ) (place mp : ℕ) → Intact Ms m n start q.fp q.calls → q.fp ≤ mp → mp ≤ length m
      → ((a : ℕ) → protects Ms q m a ≡ true → read n a ≡ read m a) → Steady Ms q (sized q place mp) m n
  intact-sized n place mp i l r p =
      record {
        size = i.size;
        frames = record {
          base = F.base;
          frame = l;
          within = rw i.size r;
          depth = F.depth;
          links = i.links ∙ F.links;
          based = i.based ∙ F.based;
        };
        spared = p;
      }

  pub sized-keeps : (pops : ℕ) (push : Push) (place mp : ℕ) → q.fp ≤ mp → mp ≤ length m
      → Keeps Ms q m (Go pops push NoWrite (sized q place mp))
  sized-keeps pops push place mp l r =
      λ vs. intact-sized m place mp (intact-none Ms m start q.fp q.calls) l r (λ a p. refl)

  pub moved_keeps : (pops : ℕ) (push : Push) (place : ℕ) → Keeps Ms q m (Go pops push NoWrite (moved q place))
  moved_keeps pops push place = sized-keeps pops push place q.mp F.frame F.within

  free-link : (a : ℕ) → protects Ms q m a ≡ false → (is_fixed 0 Ms a ≡ false) × (is_link m q.fp q.calls a ≡ false)
  unfolding protects
  free-link a h = apart (is_fixed 0 Ms a) (is_link m q.fp q.calls a) h

  -- A protected word is another than one that is not, and lies below FP.
  other : (a b : ℕ) → protects Ms q m a ≡ true → protects Ms q m b ≡ false → a ≡ b → ⊥
  other a b p h e = true≢false (sym p ∙ rw e h)

  pub low : (a : ℕ) → protects Ms q m a ≡ true → a < q.fp
  low a p = lt_of_not-le (λ l. true≢false (sym p ∙ free-above Ms q m a F.links l))

  -- A store to an address that is not protected.
  pub stored-keeps : (a x pops : ℕ) (push : Push) (place : ℕ) → protects Ms q m a ≡ false
      → Keeps Ms q m (Go pops push (WriteOne a x) (moved q place))
  stored-keeps a x pops push place h =
      let t = free-link a h in
      λ vs. intact-sized (set m a x) place q.mp (Stored-one Ms m start q.fp q.calls a x F.links t.1 t.0)
      F.frame F.within (λ b p. get_or-set_other m a b x 0 (other b a p h))

  stored-two : (a x y pops : ℕ) (push : Push) (place : ℕ) → protects Ms q m a ≡ false → protects Ms q m (a + 1) ≡ false
      → Keeps Ms q m (Go pops push (WriteTwo a x y) (moved q place))
  stored-two a x y pops push place h k =
      let t = free-link a h in
      let u = free-link (a + 1) k in
      let one : Intact Ms m (set m a x) start q.fp q.calls =
      Stored-one Ms m start q.fp q.calls a x F.links t.1 t.0 in
      let two : Intact Ms (set m a x) (set (set m a x) (a + 1) y) start q.fp q.calls =
      Stored-one Ms (set m a x) start q.fp q.calls (a + 1) y (one.links ∙ F.links) (one.same (a + 1) ∙ u.1) u.0 in
      λ vs. rw (← native.Mathlib.Numerals.add-one a) (intact-sized (set (set m a x) (a + 1) y) place q.mp
      (intact-then Ms m (set m a x) (set (set m a x) (a + 1) y) start q.fp q.calls one two) F.frame F.within
      (λ b p. get_or-set_other (set m a x) (a + 1) b y 0 (other b (a + 1) p k) ∙ get_or-set_other m a b x 0 (other b a p h)))

  pub mode-keeps : (a : ℕ) (mode : Mode) (x y pops : ℕ) (push : Push) (place : ℕ) → protects_any Ms q m a mode ≡ false
      → Keeps Ms q m (Go pops push (stored a mode x y) (moved q place))
  mode-keeps a Normal x y pops push place h = stored-keeps a x pops push place h
  mode-keeps a Double x y pops push place h =
      let t = apart (protects Ms q m a) (protects Ms q m (a + 1)) h in
      stored-two a x y pops push place t.0 t.1

  -- Words stored from MP on, and MP moved past them.
  pub entered-keeps : (pops : ℕ) (push : Push) (place mp : ℕ) → q.fp ≤ mp → mp ≤ length m
      → Keeps Ms q m (Go pops push (WritePopped q.mp) (sized q place mp))
  entered-keeps pops push place mp l r =
      λ vs. intact-sized (sets m q.mp vs) place mp (stored-above Ms m q.fp q.calls q.mp vs F.links F.frame) l r
      (λ b p. sets-other m q.mp vs b (λ l r. omega (arith, low b p, F.frame)))

  -- A new frame above MP, whose link words are these.
  new-frame : (links gp entry : ℕ) (vs : List ℕ) → is_base Ms gp ≡ true → q.calls < 64 → q.mp + links ≤ length m
      → let n = sets m q.mp vs in
      let fp = q.mp + links in
      saved_fp n fp ≡ q.fp → link_words n fp ≡ links → link_based Ms n fp ≡ true → Steady Ms q (called q links gp entry) m n
  new-frame links gp entry vs b c r saved words own =
      let n : List ℕ = sets m q.mp vs in
      let i : Intact Ms m n start q.fp q.calls = stored-above Ms m q.fp q.calls q.mp vs F.links F.frame in
      let k : q.calls + 1 ≡ suc q.calls = omega arith in
      record {
        size = i.size;
        frames = record {
          base = b;
          frame = omega arith;
          within = rw i.size r;
          depth = omega arith;
          links = rw (k, saved, words, le-leb (q.fp + links) (q.mp + links) (omega (arith, F.frame))) (i.links ∙ F.links);
          based = rw (k, own, saved) (i.based ∙ F.based);
        };
        spared = λ b p. sets-other m q.mp vs b (λ l r. omega (arith, low b p, F.frame));
      }

  -- CALL: the new frame's links are its own two words.
  pub called-keeps : (pops : ℕ) (push : Push) (next entry : ℕ) → 0 < next → next < 0x8000_0000 → q.calls < 64
      → q.mp + 2 ≤ length m → Keeps Ms q m (Go pops push (WriteTwo q.mp q.fp next) (called q 2 q.gp entry))
  called-keeps pops push next entry l h c r =
      let n : List ℕ = sets m q.mp (q.fp ∷ next ∷ []) in
      let e : q.mp + 2 - 2 ≡ q.mp = omega arith in
      let f : q.mp + 2 - 1 ≡ q.mp + 1 = omega arith in
      let two = two-stored m q.mp q.fp next r in
      let here : is_local n (q.mp + 2) ≡ true = rw (f, two.1) (place-above next l h) in
      λ vs. new-frame 2 q.gp entry (q.fp ∷ next ∷ []) F.base c r (rw e two.0) (local-words n (q.mp + 2) here) (rw here)

  -- CALL_E: the new frame's links are its own three words.
  pub called-external-keeps : (pops : ℕ) (push : Push) (next l entry : ℕ) → 0 < next → next < 0x8000_0000 → l < length Ms
      → q.calls < 64 → q.mp + 3 ≤ length m
      → Keeps Ms q m (Go pops push (WriteThree q.mp q.gp q.fp (negated next)) (called q 3 (globals_start Ms l) entry))
  called-external-keeps pops push next l entry low high below c r =
      let n : List ℕ = sets m q.mp (q.gp ∷ q.fp ∷ negated next ∷ []) in
      let e : q.mp + 3 - 2 ≡ q.mp + 1 = omega arith in
      let f : q.mp + 3 - 1 ≡ q.mp + 2 = omega arith in
      let g : q.mp + 3 - 3 ≡ q.mp = omega arith in
      let three = three-stored m q.mp q.gp q.fp (negated next) r in
      let out : is_local n (q.mp + 3) ≡ false = rw (f, three.2) (negated-below next low high) in
      λ vs. new-frame 3 (globals_start Ms l) entry (q.gp ∷ q.fp ∷ negated next ∷ []) (base_there Ms l below) c r
      (rw e three.1) (external-words n (q.mp + 3) out) (rw (out, g, three.0) F.base)

  -- RTN: the frame below.
  pub returned-keeps : (pops : ℕ) (push : Push) → (q.calls ≡ 0 → ⊥) → Keeps Ms q m (Go pops push NoWrite (returned q m))
  returned-keeps pops push c =
      let k : q.calls ≡ suc (q.calls - 1) = omega arith in
      let h : chained m start q.fp (suc (q.calls - 1)) ≡ true = rw k at F.links in
      let b : links_based Ms m q.fp (suc (q.calls - 1)) ≡ true = rw k at F.based in
      let parts = (and-eq-true_iff (link_based Ms m q.fp) (links_based Ms m (saved_fp m q.fp) (q.calls - 1))).0 b in
      let lower : saved_fp m q.fp + link_words m q.fp ≤ q.fp = chain-lower m start q.fp (q.calls - 1) h in
      λ vs. record {
        size = refl;
        frames = record {
          base = back (is_local m q.fp) parts.0;
          frame = omega arith;
          within = omega (arith, F.frame, F.within);
          depth = omega (arith, F.depth);
          links = chain-rest m start q.fp (q.calls - 1) h;
          based = parts.1;
        };
        spared = λ b p. refl;
      }
    where
      back : (t : Bool) → (t || is_base Ms (global_link m q.fp)) ≡ true
          → is_base Ms (cond t q.gp (global_link m q.fp)) ≡ true
      back true e = F.base
      back false e = e
