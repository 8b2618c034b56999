-- Load and run of a record by itself do not look at its results list, and what a load leaves as its copy is its code.
use mathlib.Core.List.{List, [], append-nil}
use mathlib.Core.Path.{◌≡◌, ◌∙◌, refl, sym, ap}
use Prim.Native.Nat.{ℕ, zero, suc}
use lib.ListN.{length, drop}
use lib.Seq.{drop-length}
use Rattle.words.specs.Bytes.{byte_at}
use Rattle.words.proofs.Series.{series-same}
use Rattle.header.specs.Header.{code_of}
use Rattle.module_set.specs.Members.{single, number_of, resolved}
use Rattle.module_set.specs.Linked.{records_number, linked}
use Rattle.relocation.specs.Relocation.{set_number, relocated_byte, relocated, copy_of}
use Rattle.words.specs.Lent.{over}
use Rattle.relocation.proofs.Alone.{copy-alone}
use Rattle.registers.specs.declared.Registers.{Registers}
use Rattle.registers.specs.State.{State}
use Rattle.std.specs.Prelude.{Ok}
use Rattle.load.specs.Modules.{modules_of}
use Rattle.load.specs.Load.{Loading, initial_data, loaded_memory, set_load_number, set_load, load_of}
use Rattle.load.proofs.Loading.{loads, ready-number, ready-parts}
use Rattle.run.specs.Run.{set_run_number, set_run}

module _ (r results : List ℕ) where
  pub number_same : set_number (single r results) ≡ set_number (single r [])
  unfolding set_number records_number linked
  number_same = refl

  resolved-same : (l : ℕ) → resolved (single r results) r l ≡ resolved (single r []) r l
  unfolding resolved number_of
  resolved-same zero = refl
  resolved-same (suc l) = refl

  relocated-same : relocated (single r results) r ≡ relocated (single r []) r
  unfolding relocated
  relocated-same =
      series-same (relocated_byte (single r results) r) (relocated_byte (single r []) r) 0 (length (code_of r))
      (λ i a b. rw (resolved-same (byte_at (code_of r) i)))

  copy-same : copy_of (single r results) ≡ copy_of (single r [])
  unfolding copy_of
  copy-same = rw relocated-same

  modules-same : modules_of (single r results) ≡ modules_of (single r [])
  unfolding modules_of
  modules-same = rw relocated-same

  memory-same : (ps : List ℕ) (size : ℕ) → loaded_memory (single r results) ps size ≡ loaded_memory (single r []) ps size
  unfolding loaded_memory initial_data
  memory-same ps size = rw modules-same

  load-number-same : (ps copy m s : List ℕ) → set_load_number (single r results) ps copy m s ≡ set_load_number (single r []) ps copy m s
  unfolding set_load_number
  load-number-same ps copy m s = rw (number_same, modules-same, copy-same)

  pub load-alone : (ps copy m s : List ℕ) → set_load (single r results) ps copy m s ≡ set_load (single r []) ps copy m s
  unfolding set_load
  load-alone ps copy m s = rw (load-number-same ps copy m s, modules-same, copy-same, memory-same ps (length m))

  run-number-same : (copy : List ℕ) (k : ℕ) (T : State)
      → set_run_number (single r results) copy k T ≡ set_run_number (single r []) copy k T
  unfolding set_run_number
  run-number-same copy k T = rw (number_same, modules-same, copy-same)

  pub run_alone : (copy : List ℕ) (budget k : ℕ) (T : State)
      → set_run (single r results) copy budget k T ≡ set_run (single r []) copy budget k T
  unfolding set_run
  run_alone copy budget k T = rw (run-number-same copy k T, modules-same)

pub copy-left : (r ps m s : List ℕ) (q : Registers) → (load_of r ps m s).answer ≡ Ok q → (load_of r ps m s).copy ≡ code_of r
copy-left r ps m s q ready =
    let code = code_of r in
    let (taken, start) = ready-number (single r []) ps code m s q ready in
    let sound = (ready-parts (single r []) ps code m s taken).0 in
    let left : (load_of r ps m s).copy ≡ over (copy_of (single r [])) code =
    ap (λ (l : Loading). l.copy) (sym (loads (single r []) ps code m s taken)) in
    let behind : drop (length code) code ≡ [] = drop-length code in
    left ∙ rw (copy-alone r [] sound, behind) (append-nil code)
