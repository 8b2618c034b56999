-- 01's plates marked P, and loops to both ends of the range (02, K3), as a table: code, parameters and globals, what the
-- check answers, and what loading and running gives.
-- "Globals as given, constants none; memory 64, stack 16, budget 1,000 unless named."
use Rattle.std.specs.Prelude.{List, [], ◌∷◌, ◌++◌, map, ◌≡◌, ℕ, ◌*◌, ◌/◌, ◌%◌, length, take, drop, replicate}
use Rattle.verifier.specs.Check.{check_of}
use Rattle.registers.specs.Modules.{header_words}
use Rattle.registers.specs.State.{state}
use Rattle.load.specs.Loaded.{Loaded}
use Rattle.std.specs.Prelude.{Err, Ok}
use Rattle.run.specs.Answer.{Answer}
use Rattle.std.specs.Prelude.{Err, Ok}
use Rattle.load.specs.Load.{load_of}
use Rattle.run.specs.Run.{end_number, run_of}

pub record Case : Type 0 where
  pub code : List ℕ
  pub parameters : List ℕ
  pub globals : ℕ

-- A refusal; or the end, its place, the completed steps, the globals and the stack words then.
pub data Outcome : Type 0 where
  refused : ℕ → Outcome
  ended : ℕ → ℕ → ℕ → List ℕ → List ℕ → Outcome

pub record Row : Type 0 where
  pub input : Case
  pub number : ℕ
  pub outcome : Outcome

word : ℕ → List ℕ
word n = n / 16777216 % 256 ∷ n / 65536 % 256 ∷ n / 256 % 256 ∷ n % 256 ∷ []

-- The record of a case: header and code, with no other part.
unfoldable pub record_for : Case → List ℕ
unfolding word
record_for c =
    word 0 ++ (word (length c.code) ++ (word c.globals ++ (word 0 ++ (word 0 ++ (word 0 ++ (word 0 ++ c.code))))))

abbrev pub shown : Case → Answer → List ℕ → List ℕ → Outcome
shown c (Err n) m s = refused n
shown c (Ok e) m s =
    ended (end_number e.ending) e.registers.pc e.steps (take c.globals (drop header_words m)) (take e.registers.height s)

abbrev pub outcome_of : Case → Loaded → List ℕ → List ℕ → Outcome
outcome_of c (Err n) m s = refused n
outcome_of c (Ok q) m s =
    let a = run_of (record_for c) 1000 (state q m s) in
    shown c a.answer a.state.memory a.state.stack

-- Loaded into 64 words of memory with a stack of 16, and run for at most 1,000 steps.
unfoldable pub played : Case → Outcome
played c =
    let l = load_of (record_for c) c.parameters (replicate 64 0) (replicate 16 0) in
    outcome_of c l.answer l.memory (replicate 16 0)

-- Checked with one procedure, without results, and just enough workspace.
unfoldable pub checked : Case → ℕ
checked c = (check_of (record_for c) (0 ∷ []) (replicate (4 * length c.code) 0)).number

row : List ℕ → List ℕ → ℕ → ℕ → Outcome → Row
row code parameters globals number outcome =
    record {
      input = record { code = code; parameters = parameters; globals = globals };
      number = number;
      outcome = outcome;
    }

-- -6 is the word 4,294,967,290. Of plate 8 the paper gives the check's answer alone: its jump lands inside itself, and it runs to a
-- finish.
unfoldable pub table : List Row
unfolding row
table =
    row (0x00 ∷ 0x02 ∷ 0xE9 ∷ []) [] 0 0 (ended 0 2 1 [] [])  -- 1
    ∷ row (0x00 ∷ 0x02 ∷ 0x20 ∷ 0x21 ∷ 0xA1 ∷ 0x52 ∷ 0xE9 ∷ []) (9 ∷ 9 ∷ []) 3 0 (ended 0 6 5 (9 ∷ 9 ∷ 0 ∷ []) [])  -- 2
    ∷ row (0x00 ∷ 0x02 ∷ 0x20 ∷ 0x21 ∷ 0xA5 ∷ 0x52 ∷ 0xE9 ∷ []) (7 ∷ 0 ∷ []) 3 0 (ended 30 4 2 (7 ∷ 0 ∷ 0 ∷ []) (7 ∷ 0 ∷ []))  -- 3
    ∷ row (0x00 ∷ 0x02 ∷ 0x20 ∷ 0x21 ∷ 0xA5 ∷ 0x52 ∷ 0xE9 ∷ []) (7 ∷ 3 ∷ []) 3 0 (ended 0 6 5 (7 ∷ 3 ∷ 1 ∷ []) [])  -- 4
    ∷ row
    (0x00 ∷ 0x02 ∷ 0x8E ∷ 0x00 ∷ 0x01 ∷ 0x03 ∷ 0x01 ∷ 0xE0 ∷ 0x00 ∷ 0x08 ∷ 0x21 ∷ 0x20 ∷ 0xA1 ∷ 0x51 ∷ 0xE1 ∷ 0xE9 ∷ [])
    [] 2 0 (ended 0 15 21 (4 ∷ 4294967290 ∷ []) [])  -- 5
    ∷ row
    (0x00 ∷ 0x02 ∷ 0x8E ∷ 0x00 ∷ 0x03 ∷ 0x01 ∷ 0x01 ∷ 0xE0 ∷ 0x00 ∷ 0x08 ∷ 0x21 ∷ 0x20 ∷ 0xA1 ∷ 0x51 ∷ 0xE1 ∷ 0xE9 ∷ [])
    [] 2 0 (ended 0 15 6 (0 ∷ 0 ∷ []) [])  -- 6
    ∷ row (0x00 ∷ 0x02 ∷ 0xA1 ∷ 0xE9 ∷ []) [] 0 15 (ended 22 2 0 [] [])  -- 7
    ∷ row (0x00 ∷ 0x02 ∷ 0xDA ∷ 0x01 ∷ 0xE9 ∷ []) [] 0 12 (ended 0 4 3 [] (1 ∷ []))  -- 8
    ∷ row (0x00 ∷ 0x02 ∷ 0x01 ∷ 0xE9 ∷ []) [] 0 15 (ended 0 3 2 [] (1 ∷ []))  -- 9
    ∷ row (0x00 ∷ 0x02 ∷ []) [] 0 7 (refused 7)  -- 10
    ∷ row
    (0x00 ∷ 0x02 ∷ 0x8E ∷ 0x02 ∷ 0x20 ∷ 0x84 ∷ 0x7F ∷ 0xFF ∷ 0xFF ∷ 0xFF ∷ 0x21 ∷ 0xE0 ∷ 0x00 ∷ 0x08 ∷ 0x23 ∷ 0x01 ∷ 0xA0 ∷ 0x53
    ∷ 0xE1 ∷ 0xE9 ∷ [])
    (2147483644 ∷ 1 ∷ []) 4 0 (ended 0 19 26 (2147483644 ∷ 1 ∷ 2147483647 ∷ 4 ∷ []) [])  -- 02, K3: up
    ∷ row
    (0x00 ∷ 0x02 ∷ 0x8E ∷ 0x02 ∷ 0x20 ∷ 0x84 ∷ 0x80 ∷ 0x00 ∷ 0x00 ∷ 0x00 ∷ 0x21 ∷ 0xE0 ∷ 0x00 ∷ 0x08 ∷ 0x23 ∷ 0x01 ∷ 0xA0 ∷ 0x53
    ∷ 0xE1 ∷ 0xE9 ∷ [])
    (2147483650 ∷ 4294967295 ∷ []) 4 0 (ended 0 19 21 (2147483650 ∷ 4294967295 ∷ 2147483648 ∷ 3 ∷ []) [])  -- 02, K3: down
    ∷ []

-- Each case of the table has the number and the outcome that stand beside it.
abbrev pub Stands : Type 0
Stands =
    (map (λ r. checked r.input) table ≡ map (λ r. r.number) table)
    × (map (λ r. played r.input) table ≡ map (λ r. r.outcome) table)
