-- Check, load and run of a record in one call: what the three in turn answer and leave. 01: "printer and console check before they
-- load".
use Rattle.std.specs.Prelude.{cond, List, ◌≡◌, ℕ, eqb}
use Rattle.verifier.specs.Check.{check_of}
use Rattle.words.specs.Bytes.{Bytes}
use Rattle.load.specs.Loaded.{Loaded}
use Rattle.std.specs.Prelude.{Err, Ok}
use Rattle.run.specs.Answer.{Answer}
use Rattle.std.specs.Prelude.{Err, Ok}
use Rattle.registers.specs.State.{state}
use Rattle.load.specs.Load.{load_of}
use Rattle.run.specs.Run.{Result, run_of}
use Rattle.safety.specs.Demand3.{Proper}
use Rattle.guarantees.specs.Answers.{UpTo}

pub record Joined : Type 0 where
  pub answer : Answer
  pub workspace : List ℕ
  pub memory : List ℕ
  pub stack : List ℕ

abbrev pub joined : Answer → List ℕ → List ℕ → List ℕ → Joined
joined a w m s = record { answer = a; workspace = w; memory = m; stack = s }

abbrev pub then_run : List ℕ → Result → Joined
then_run w a = joined a.answer w a.state.memory a.state.stack

abbrev pub then_load : List ℕ → ℕ → List ℕ → List ℕ → Loaded → List ℕ → Joined
then_load r budget w s (Err n) m = joined (Err n) w m s
then_load r budget w s (Ok q) m = then_run w (run_of r budget (state q m s))

unfoldable pub joined_of : (r results w parameters : List ℕ) (budget : ℕ) (m s : List ℕ) → Joined
joined_of r results w parameters budget m s =
    let c = check_of r results w in
    let l = load_of r parameters m s in
    cond (eqb c.number 0) (then_load r budget c.workspace s l.answer l.memory)
    (joined (Err c.number) c.workspace m s)

-- A refusal is one of the check's or the load's: 1 to 15, 17 or 18; a run ends properly: "never in one of the four code traps".
abbrev pub ProperAnswer : Answer → Type 0
ProperAnswer (Err n) = UpTo 15 n
ProperAnswer (Ok e) = Proper e.ending

-- 00, demand 1: "A refused record leaves memory and stack as they were".
abbrev pub RefusedJoined : Type 0
RefusedJoined =
    (r results w parameters : List ℕ) (budget : ℕ) (m s : List ℕ) (n : ℕ) → Bytes r
    → (joined_of r results w parameters budget m s).answer ≡ Err n
    → ((joined_of r results w parameters budget m s).memory ≡ m) × ((joined_of r results w parameters budget m s).stack ≡ s)
