-- Where an effect goes within its procedure: to a way out, with the words that go taken off the share and words or a label
-- put on it.
use mathlib.Core.List.{List, [], ◌∷◌}
use mathlib.Core.Option.{Option, none, some}
use mathlib.Core.Path.{◌≡◌, refl, subst}
use Prim.Native.Nat.{ℕ, ◌+◌, ◌-◌, ◌<◌}
use native.Mathlib.Omega.{arith}
use lib.ListN.{length}
use Rattle.effect.specs.declared.effect.Effect.{Effect}
use Rattle.effect.specs.declared.effect.Effect.TheVariants.{Go}
use Rattle.effect.specs.declared.effect.Push.{Push}
use Rattle.effect.specs.declared.effect.Push.TheVariants.{PushOne}
use Rattle.effect.specs.declared.effect.Write.{Write}
use Rattle.registers.specs.declared.Registers.{Registers}
use Rattle.effect.specs.Data.{pushes}
use Rattle.stackmap.specs.Slots.{Slot, label, push_words, pop_words, pop_slots}
use Rattle.stackmap.specs.Ways.{Way, ◌gets◌, after, straight, label_word}
use Rattle.stackmap.specs.StackMap.{Among, here}
use Rattle.registers.specs.Program.{Program}
use Rattle.step.specs.Step.{code_after, pushed}
use Rattle.invariant.specs.Active.{share_of, Configuration}
use Rattle.invariant.specs.Shares.{Holds}
use Rattle.invariant.proofs.Invariant.{registers_of, Within, InCode}
use Rattle.stackmap.proofs.Pushing.{pushed-height}
use Rattle.invariant.proofs.Shares.{nothing, holds-under, popped-size, popped-words, holds-words, holds-below, holds-made}
use Rattle.invariant.proofs.Application.{Good, good-go}

-- What is known before a step: the share is as the slots say, and every way out lies in the code.
pub record Start (P : Program) (c : Configuration) (l : List Slot) (out : List Way) : Type 0 where
  pub height : (registers_of c).height ≡ share_of c.calls + length l
  pub holds : Holds P.code c.state.stack (share_of c.calls) l
  pub inside : InCode P.code out
  pub own : code_after P (registers_of c).gp ≡ P.code

-- What was taken off, where something follows.
pub record Taken (o : Option (List Slot)) (f : List Slot → List Way) (out : List Way) : Type 0 where
  pub rest : List Slot
  pub found : o ≡ some rest
  pub ways : f rest ≡ out

pub taken : (o : Option (List Slot)) (f : List Slot → List Way) (out : List Way) → after o f ≡ some out → Taken o f out
taken none f out e = nothing out e
taken (some rest) f out e = record { rest = rest; found = refl; ways = cc }

pub among-taken : {o : Option (List Slot)} {f : List Slot → List Way} {out : List Way} (T : Taken o f out) (t : ℕ) (k : List Slot)
    → Among t k (f T.rest) → Among t k out
among-taken T t k a = subst (λ (ws : List Way). Among t k ws) T.ways a

-- What the share has where so many slots go.
left : {P : Program} {c : Configuration} {l : List Slot} {out : List Way} → Start P c l out → (n : ℕ) (rest : List Slot)
    → pop_slots n l ≡ some rest
    → ((registers_of c).height - n ≡ share_of c.calls + length rest) × Holds P.code c.state.stack (share_of c.calls) rest
left {l = l} S n rest e =
    (omega (arith, S.height, popped-size n l rest e), holds-under n l rest e S.holds)

-- GP stays, so that the place is tested against the running code.
goes-inside : (P : Program) (gp : ℕ) (q : Registers) → code_after P gp ≡ P.code → q.gp ≡ gp → q.pc < length P.code
    → q.pc < length (code_after P q.gp)
goes-inside P gp q own g l = rw (g, own) l

abbrev pub Stays : Program → Configuration → List Way → Type 0 → Effect → Type 0
Stays P c out Done e = Good P c Done (Within P.code c out) e

module _ {P : Program} {c : Configuration} {l : List Slot} {out : List Way} {Done : Type 0} (S : Start P c l out) where
  -- Words that go, and words that come.
  pub words-go : (pops : ℕ) (push : Push) (write : Write) (q : Registers) → q.gp ≡ (registers_of c).gp → (rest : List Slot)
      → pop_slots pops l ≡ some rest → Among q.pc (push_words (pushes push) rest) out → Stays P c out Done (Go pops push write q)
  words-go pops push write q g rest e a =
      let (h, k) = left S pops rest e in
      good-go {pops = pops} {push = push} {q = q} (goes-inside P (registers_of c).gp q S.own g (S.inside _ _ a))
      (λ room. record {
        slots = push_words (pushes push) rest;
        among = a;
        height = omega (arith, h, pushed-height (pushes push) rest);
        stays = g;
        holds = holds-words (pushes push) (holds-below ((registers_of c).height - pops) (pushed push) (omega (arith, h)) k);
      })

  -- Words that go, and a label that comes.
  pub label-goes : (pops x origin : ℕ) (write : Write) (q : Registers) → q.gp ≡ (registers_of c).gp → (rest : List Slot)
      → pop_slots pops l ≡ some rest
      → x ≡ label_word P.code origin → Among q.pc (label origin ∷ rest) out → Stays P c out Done (Go pops (PushOne x) write q)
  label-goes pops x origin write q g rest e w a =
      let (h, k) = left S pops rest e in
      good-go {pops = pops} {push = PushOne x} {q = q} (goes-inside P (registers_of c).gp q S.own g (S.inside _ _ a))
      (λ room. record {
        slots = label origin ∷ rest;
        among = a;
        height = omega (arith, h);
        stays = g;
        holds = rw h (holds-made x origin w (omega (arith, h, room)) k);
      })

  -- Words that are popped, and words that come.
  pub popped-go : (pops : ℕ) (f : List Slot → List Way) (T : Taken (pop_words pops l) f out) (push : Push) (write : Write)
      (q : Registers) → q.gp ≡ (registers_of c).gp
      → Among q.pc (push_words (pushes push) T.rest) (f T.rest) → Stays P c out Done (Go pops push write q)
  popped-go pops f T push write q g a =
      words-go pops push write q g T.rest (popped-words pops l T.rest T.found) (among-taken T q.pc _ a)

  -- The instructions that take and give words alone, and go on.
  pub straight-goes : (next come : ℕ) {pops : ℕ} {push : Push} {write : Write} {q : Registers} → pushes push ≡ come → q.pc ≡ next
      → q.gp ≡ (registers_of c).gp
      → straight next pops come l ≡ some out → Stays P c out Done (Go pops push write q)
  straight-goes next come {pops} {push} {write} {q} n p g w =
      popped-go pops _ (taken (pop_words pops l) (λ rest. next gets push_words come rest ∷ []) out w) push write q g (rw (p, n) here)
