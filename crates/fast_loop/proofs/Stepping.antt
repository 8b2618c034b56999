-- Steps one after the other: a turn of a loop is one more, and two runs make one. A step that keeps GP keeps the program ready.
use mathlib.Core.Path.{◌≡◌, ◌∙◌, refl, sym, ap, subst}
use mathlib.Core.Bool.{true, false}
use mathlib.Core.List.{List}
use Prim.Native.Nat.{ℕ, zero, suc, ◌+◌, ◌-◌, ◌≤◌, ◌<◌}
use native.Mathlib.Nat.{add-suc, add-zero}
use native.Mathlib.Omega.{arith}
use lib.ListN.{length}
use Rattle.registers.specs.declared.Attributes.{Attributes}
use Rattle.registers.specs.declared.Registers.{Registers}
use Rattle.registers.specs.Modules.{modules_in}
use Rattle.registers.specs.Program.{Program, program, running}
use Rattle.registers.specs.State.{State}
use Rattle.state.specs.Fits.{bounded}
use Rattle.state.proofs.Fitting.{bounds-held}
use Rattle.step.specs.declared.Outcome.TheVariants.{Went}
use Rattle.step.specs.Step.{after, step_of}
use Rattle.step.specs.Ready.{Ready}
use Rattle.step.proofs.Preservation.{Holds, step-holds}
use Rattle.fast.specs.Fast.{spot, state_at, Completed, Steps, none, more, Ahead}
use Rattle.fast.proofs.Plain.{ready-fitting}
use Rattle.fast_frames.specs.Frames.{registers_at, framed}

-- What runs, as code holds its set of modules.
abbrev pub program_in : (table copy code : List ℕ) → Attributes → Program
program_in table copy code A = program code A (modules_in table copy)

module _ (P : Program) where
  steps_then : (S S' S'' : State) (n k : ℕ) → Steps P S n S' → Steps P S' k S'' → Steps P S (n + k) S''
  steps_then S S' S'' n zero a none = rw (add-zero n) a
  steps_then S S' S'' n (suc k) a (more b e r) = rw (add-suc n k) (more (steps_then S S' _ n k a b) e r)

  pub ahead-start : (S : State) (budget : ℕ) → Ready P S → Ahead P S budget budget S
  ahead-start S budget R =
      let nothing : budget - budget ≡ 0 = omega arith in
      record { most = omega arith; ready = R; steps = rw nothing none }

  module _ (S S' : State) (budget left : ℕ) (a : Ahead P S budget left S') where
    pub ahead-then : (S'' : State) (rest : ℕ) → Ahead P S' left rest S'' → Ahead P S budget rest S''
    ahead-then S'' rest b =
        let both : budget - rest ≡ (budget - left) + (left - rest) = omega (arith, a.most, b.most) in
        record {
          most = omega (arith, a.most, b.most);
          ready = b.ready;
          steps = rw both (steps_then S S' S'' (budget - left) (left - rest) a.steps b.steps);
        }

    pub ahead-turn : (left ≡ 0 → ⊥) → (S'' : State) → step_of P S' ≡ after Went S'' → S''.registers.gp ≡ S'.registers.gp
        → Ahead P S budget (left - 1) S''
    ahead-turn some S'' g stays =
        let one : budget - (left - 1) ≡ suc (budget - left) = omega (arith, a.most) in
        let H : Holds P.modules S' (after Went S'') = rw (← g) (step-holds P S' a.ready) in
        let same = ap (λ gp. running P.modules gp) stays ∙ sym a.ready.is_running in
        let again = subst (λ X. Ready X S'') same H.ready in
        record { most = omega (arith, a.most); ready = again; steps = rw one (more a.steps g again) }

-- What holds at each turn of a loop: also that the place is a word, and the sizes as they were.
pub record Reaching (P : Program) (S : State) (budget left : ℕ) (S' : State) : Type 0 where
  pub ahead : Ahead P S budget left S'
  pub small : S'.registers.pc < 0x1_0000_0000
  pub memory : length S'.memory ≡ length S.memory
  pub stack : length S'.stack ≡ length S.stack

module _ (P : Program) (S : State) (budget : ℕ) where
  pub reaching-start : Ready P S → S.registers.pc < 0x1_0000_0000 → Reaching P S budget budget S
  reaching-start R l = record { ahead = ahead-start P S budget R; small = l; memory = refl; stack = refl }

  module _ (left : ℕ) (S' : State) (r : Reaching P S budget left S') where
    pub reaching-same : (S'' : State) → (Ready P S' → Completed false P S' S'') → Reaching P S budget left S''
    reaching-same S'' e = rw (e r.ahead.ready) r

    pub reaching-then : (rest : ℕ) (S'' : State) → Reaching P S' left rest S'' → Reaching P S budget rest S''
    reaching-then rest S'' b =
        record {
          ahead = ahead-then P S S' budget left r.ahead S'' rest b.ahead;
          small = b.small;
          memory = b.memory ∙ r.memory;
          stack = b.stack ∙ r.stack;
        }

    pub reaching-bounded : bounded P.attributes S' ≡ true
    reaching-bounded = bounds-held P S' r.ahead.ready.fit

    pub reaching-next : (left ≡ 0 → ⊥) → length P.code ≤ 4096 → (S'' : State) → S''.registers.gp ≡ S'.registers.gp
        → (Ready P S' → Completed true P S' S'') → length S''.memory ≡ length S'.memory
        → length S''.stack ≡ length S'.stack → Reaching P S budget (left - 1) S''
    reaching-next some short S'' stays does m s =
        let (inside, g) = does r.ahead.ready in
        record {
          ahead = ahead-turn P S S' budget left r.ahead some S'' g stays;
          small = omega (arith, inside);
          memory = m ∙ r.memory;
          stack = s ∙ r.stack;
        }

    -- The registers and what is left are words.
    pub reaching-words : budget < 0x1_0000_0000
        → let q = S'.registers in
        (left < 0x1_0000_0000)
        × ((q.pc < 0x1_0000_0000)
        × ((q.fp < 0x1_0000_0000)
        × ((q.mp < 0x1_0000_0000)
        × ((q.gp < 0x1_0000_0000) × ((q.height < 0x1_0000_0000) × (q.calls < 0x1_0000_0000))))))
    reaching-words b =
        let F = ready-fitting P S' r.ahead.ready in (
          omega (arith, r.ahead.most),
          (
            r.small,
            (
              omega (arith, F.frame, F.within, F.room),
              (
                omega (arith, F.within, F.room),
                (
                  omega (arith, F.global, F.first, F.second, F.attributes, F.room),
                  (omega (arith, F.height, F.deep), omega (arith, F.depth)),
                ),
              ),
            ),
          ),
        )

-- The registers as the inner loop has them, and what it reached.
module _ (P : Program) (S : State) (budget left pc fp mp gp h n : ℕ) (m s : List ℕ) (q : Registers)
    (is : q ≡ registers_at pc fp mp gp h n) (r : Reaching P S budget left (framed pc fp mp gp h n m s)) where
  pub inner-ready : Ready P (state_at q (spot pc h m s))
  inner-ready = rw is r.ahead.ready

  pub reaching-data : (rest pc' h' : ℕ) (m' s' : List ℕ)
      → (pc' < 0x1_0000_0000) × Ahead P (state_at q (spot pc h m s)) left rest (state_at q (spot pc' h' m' s'))
      → length m' ≡ length m → length s' ≡ length s → Reaching P S budget rest (framed pc' fp mp gp h' n m' s')
  reaching-data rest pc' h' m' s' (small, a) k l =
      reaching-then P S budget left (framed pc fp mp gp h n m s) r rest (framed pc' fp mp gp h' n m' s')
      (record { ahead = rw is at a; small = small; memory = k; stack = l })
