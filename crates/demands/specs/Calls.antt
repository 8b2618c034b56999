-- Demand 3 for callers that make the calls in turn, through C: icode_set_check for each module, icode_bench_set_load and
-- icode_bench_set_run, whose promises equal `set_check`, `bench_load` and `bench_set_run`; and of a record icode_check, icode_bench_load and
-- icode_bench_run: `check_of`, `record_load` and `record_run`.
use Rattle.std.specs.Prelude.{Bool, true, List, [], ◌≡◌, ℕ}
use Rattle.words.specs.Bytes.{Bytes}
use Rattle.header.specs.Header.{code_of}
use Rattle.module_set.specs.Members.{Members, single}
use Rattle.verifier.specs.Check.{check_of}
use Rattle.verifier.specs.Exact.{AllBytes}
use Rattle.run.specs.Run.{set_run}
use Rattle.safety.specs.Demand3.{AllAccepted}
use Rattle.icode.specs.Bench.{record_state, record_outcome, set_state, set_outcome, record_taken, set_taken, placed_state}
use Rattle.icode.specs.Bench.{BenchLoaded, bench_load, bench_run, run_reply}
use Rattle.demands.specs.Fresh.{Fresh, load_left, loaded_state}

-- The calls speak of a fresh run: the same lists, what the load left, and what the run then answers and leaves. Load and run get the set
-- M, which may lack the results lists of S; states have so many words, and outcomes so many, in a list that is `taken` by its length.
pub record InTurn (words places : ℕ) (taken : List ℕ → Bool) (S M : Members)
    (spaces : ℕ → List ℕ) (parameters copy given m s : List ℕ) (L : BenchLoaded) (F : Fresh) : Type 0 where
  pub members : F.members ≡ S
  pub workspaces : F.spaces ≡ spaces
  pub parameter_words : F.parameters ≡ parameters
  pub lent_copy : F.copy ≡ copy
  pub lent_memory : F.memory ≡ m
  pub stack : F.stack ≡ s
  pub left_copy : given ≡ (load_left F).copy
  pub memory : L.memory ≡ (loaded_state F).memory
  pub state : L.state ≡ placed_state words F.registers 0
  pub run : (budget : ℕ) (o : List ℕ) → taken o ≡ true
      → let a = set_run S (load_left F).copy budget 0 (loaded_state F) in
      bench_run words places (taken o) M given budget L.memory s L.state o
      ≡ run_reply words places a.answer a.state.memory a.state.stack L.state o

abbrev pub SetInTurn : Type 0
SetInTurn =
    (S : Members) (spaces : ℕ → List ℕ) (parameters copy m s u : List ℕ) → AllBytes S → AllAccepted S spaces
    → let L = bench_load set_state S parameters copy m s u in
    L.answer ≡ 0 → (F : Fresh) × InTurn set_state set_outcome set_taken S S spaces parameters copy L.copy m s L F

-- The run of a record gets its code as the copy.
abbrev pub RecordInTurn : Type 0
RecordInTurn =
    (r results w parameters m s u : List ℕ) → Bytes r → (check_of r results w).number ≡ 0
    → let L = bench_load record_state (single r []) parameters (code_of r) m s u in
    L.answer ≡ 0
    → (F : Fresh)
    × InTurn record_state record_outcome record_taken (single r results) (single r []) (λ k. w) parameters (code_of r) (code_of r) m s L F
