-- A step leaves a state that fits: what an instruction can do keeps memory and frames, and carrying it out keeps the stack.
use Prim.Native.Nat.{ℕ, ◌+◌, ◌-◌, ◌≤◌, ◌<◌}
use mathlib.Core.Path.{◌≡◌, ◌∙◌, refl, sym, subst}
use mathlib.Core.Bool.{true, false}
use mathlib.Core.List.{List}
use native.Mathlib.Omega.{arith}
use lib.ListN.{length}
use lib.Seq.{length-sets}
use Rattle.opcode.specs.declared.instruction.Instruction.{Instruction}
use Rattle.opcode.proofs.Found.{ends}
use Rattle.shape.specs.declared.Shape.{Shape}
use Rattle.shape.specs.Shape.{needed}
use Rattle.effect.specs.declared.effect.Effect.{Effect}
use Rattle.effect.specs.declared.effect.Effect.TheVariants.{Go}
use Rattle.effect.specs.declared.effect.Push.{Push}
use Rattle.effect.specs.declared.effect.Push.TheVariants.{NoPush}
use Rattle.effect.specs.declared.effect.Write.{Write}
use Rattle.effect.specs.declared.effect.Write.TheVariants.{NoWrite, WriteOne}
use Rattle.effect.specs.Data.{pushes}
use Rattle.registers.specs.declared.Registers.{Registers}
use Rattle.registers.specs.Modules.{Modules, frames_start, is_fixed, is_base, number_at}
use Rattle.registers.specs.Program.{Program, running}
use Rattle.registers.specs.State.{State, state}
use Rattle.registers.specs.Memory.{read, protects}
use Rattle.registers.specs.Changes.{moved}
use Rattle.execute.specs.Execute.{top_words, finding}
use Rattle.execute.proofs.Acts.{Acts, acts, traps, no-library, passes, resizes, stores, drops, jumps, branches, keeps-boolean, pops-boolean}
use Rattle.execute.proofs.Acts.{skips-loop, enters-loop, leaves_loop, leaves-by-sum, repeats-loop, switches}
use Rattle.execute.proofs.Acts.{leaves-switch, no-callee, calls, no-external-callee, calls-external, enters, finishes, returns}
use Rattle.state.specs.Fits.{fits}
use Rattle.registers.proofs.Bases.{base-below, base-number}
use Rattle.registers.proofs.Protected.{data-within}
use Rattle.state.proofs.Headers.{headers-same}
use Rattle.state.proofs.Fitting.{Fit, fit_parts, fit-whole}
use Rattle.step.specs.declared.Outcome.TheVariants.{Went}
use Rattle.step.specs.Step.{After, after, pushed, written, applied, step_of}
use Rattle.step.specs.Ready.{Short, Ready}
use Rattle.step.proofs.Outcomes.{step-leaves}
use Rattle.step.proofs.Steady.{Frames, Steady, Keeps, sized-keeps, moved_keeps, stored-keeps, mode-keeps, entered-keeps}
use Rattle.step.proofs.Steady.{called-keeps, called-external-keeps, returned-keeps}

-- The stack is of no account here, so that the state as the instruction sees it (`ws`) does for the state (`s`).
module _ (P : Program) (q : Registers) (m ws : List ℕ) (next : ℕ) (F : Frames P.modules q m) (after-start : 0 < next)
    (short : next < 0x8000_0000) where
  -- `Keeps` does not look at the words that go and come.
  on : (place : ℕ) → Keeps P.modules q m (Go 0 NoPush NoWrite (moved q place))
  on place = moved_keeps P.modules q m F 0 NoPush place

  put : (a x place : ℕ) → protects P.modules q m a ≡ false
      → Keeps P.modules q m (Go 0 NoPush (WriteOne a x) (moved q place))
  put a x place p = stored-keeps P.modules q m F a x 0 NoPush place p

  acts-keep : {i : Instruction} {k : Shape} {e : Effect} → Acts P (state q m ws) next i k e → Keeps P.modules q m e
  acts-keep (traps d) = tt
  acts-keep (no-library l) = tt
  acts-keep (passes p) = on _
  acts-keep (resizes p f r) = sized-keeps P.modules q m F 0 NoPush next _ (f F.frame) (r F.within)
  acts-keep (stores a x y mode p) = mode-keeps P.modules q m F a mode x y 0 NoPush next p
  acts-keep drops = on _
  acts-keep jumps = on _
  acts-keep (branches b) = on _
  acts-keep keeps-boolean = on _
  acts-keep pops-boolean = on _
  acts-keep skips-loop = on _
  acts-keep (enters-loop a x p) = put a x _ p
  acts-keep (leaves_loop a x p) = put a x _ p
  acts-keep leaves-by-sum = on _
  acts-keep (repeats-loop a x p) = put a x _ p
  acts-keep (switches x) = on _
  acts-keep leaves-switch = on _
  acts-keep (no-callee p) = tt
  acts-keep (calls c r) = called-keeps P.modules q m F 0 NoPush next _ after-start short c r
  acts-keep (no-external-callee p) = tt
  acts-keep (calls-external l c r) =
      called-external-keeps P.modules q m F 0 NoPush next _ _ after-start short l c r
  acts-keep (enters mp l r) = entered-keeps P.modules q m F 0 NoPush next _ (omega (arith, F.frame)) r
  acts-keep finishes = tt
  acts-keep (returns c) = returned-keeps P.modules q m F 0 NoPush c

-- What holds of a step's result: the program that then runs is ready, and the protected words are as they were.
pub record Holds (Ms : Modules) (S : State) (a : After) : Type 0 where
  pub ready : Ready (running Ms a.state.registers.gp) a.state
  pub spared : (b : ℕ) → protects Ms S.registers S.memory b ≡ true → read a.state.memory b ≡ read S.memory b

fixed-protected : (Ms : Modules) (q : Registers) (m : List ℕ) (a : ℕ) → is_fixed 0 Ms a ≡ true → protects Ms q m a ≡ true
unfolding protects
fixed-protected Ms q m a h = rw h

module _ (Ms : Modules) (S : State) (b : is_base Ms S.registers.gp ≡ true) (short : Short Ms)
    (f : fits (running Ms S.registers.gp) S ≡ true) where
  abbrev P : Program
  P = running Ms S.registers.gp

  abbrev q : Registers
  q = S.registers

  abbrev m : List ℕ
  m = S.memory

  abbrev s : List ℕ
  s = S.stack

  F : Fit P S
  F = fit_parts P S f

  frames : Frames Ms q m
  frames =
      let O = F.own in
      record { base = b; frame = O.frame; within = O.within; depth = O.depth; links = O.links; based = F.based }

  -- A module's constants begin before the frames of calls.
  constants-low : (gp : ℕ) → is_base Ms gp ≡ true → (running Ms gp).attributes.constants ≤ frames_start Ms
  constants-low gp h =
      let within = data-within 0 Ms (number_at Ms gp) (base-below Ms gp h) in
      omega (arith, within.1)

  went : (pops : ℕ) (push : Push) (write : Write) (r : Registers) → Keeps Ms q m (Go pops push write r)
      → q.height - pops + pushes push ≤ length s → Holds Ms S (after Went (applied S pops push write r))
  went pops push write r k room =
      let n : List ℕ = written m (top_words pops q.height s) write in
      let y : Steady Ms q r m n = k (top_words pops q.height s) in
      let deep = length-sets s (q.height - pops) (pushed push) in
      let O = F.own in
      let Y = y.frames in
      record {
        ready = record {
          base = Y.base;
          is_running = refl;
          short = short;
          fit = fit-whole (running Ms r.gp) _ (record {
            own = record {
              first = omega arith;
              second = constants-low r.gp Y.base;
              attributes = rw y.size O.attributes;
              room = rw y.size O.room;
              deep = rw deep O.deep;
              global = sym (base-number Ms r.gp Y.base);
              frame = Y.frame;
              within = Y.within;
              height = rw deep room;
              depth = Y.depth;
              links = Y.links;
            };
            headers = headers-same 0 0 Ms m n (λ a h. y.spared a (fixed-protected Ms q m a h)) ∙ F.headers;
            based = Y.based;
          });
        };
        spared = y.spared;
      }

  running-holds : Holds Ms S (step_of P S)
  running-holds =
      step-leaves P S (Holds Ms S) (Keeps Ms q m)
      (λ o n. record { ready = record { base = b; is_running = refl; short = short; fit = f }; spared = λ a p. refl }) went
      (λ i next d.
      let within = ends P.code (length P.code) q.pc d in
      acts-keep P q m _ next frames (omega (arith, within.0))
      (omega (arith, within.1, short (number_at Ms q.gp))) (acts P (finding (needed i) S) next i))

pub step-holds : (P : Program) (S : State) → Ready P S → Holds P.modules S (step_of P S)
step-holds P S r =
    subst (λ X. Holds P.modules S (step_of X S)) (sym r.is_running)
    (running-holds P.modules S r.base r.short (subst (λ X. fits X S ≡ true) r.is_running r.fit))
