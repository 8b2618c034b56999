-- The invariant holds of a set that is freshly loaded: no call is active, the stack is empty, and the entry of the main module's
-- procedure 0 is where its stack map begins.
use mathlib.Core.List.{List, []}
use mathlib.Core.Path.{◌≡◌}
use Prim.Native.Nat.{ℕ, ◌<◌}
use native.Mathlib.Omega.{arith}
use lib.ListN.{length}
use Rattle.module_set.specs.Members.{Members}
use Rattle.relocation.specs.Relocation.{copy_of}
use Rattle.words.specs.Lent.{over}
use Rattle.registers.specs.declared.Registers.{Registers}
use Rattle.registers.specs.Modules.{Modules}
use Rattle.registers.specs.Program.{program_at}
use Rattle.registers.specs.State.{State, state}
use Rattle.std.specs.Prelude.{Ok}
use Rattle.load.specs.Modules.{modules_of}
use Rattle.load.specs.Load.{Loading, loading, loaded_memory, start_of, set_load_number, set_load}
use Rattle.load.proofs.Modules.{modules-length, set-some}
use Rattle.load.proofs.Loading.{loads, ready-number, ready-parts, begins-over, start_fits}
use Rattle.run.specs.Run.{set_run_number}
use Rattle.run.proofs.Taking.{taken-whole, taken-ready}
use Rattle.stackmap.specs.StackMap.{entered}
use Rattle.invariant.specs.Active.{Subjects}
use Rattle.invariant.specs.Shares.{holds_none}
use Rattle.invariant.proofs.Invariant.{no-frame, no-caller, Inv}
use Rattle.invariant.proofs.Places.{Together}
use Rattle.safety.specs.Demand3.{loaded_configuration}

module _ (S : Members) (parameters copy m s : List ℕ) (q : Registers)
    (ready : (set_load S parameters copy m s).answer ≡ Ok q) where
  abbrev pub L : Loading
  L = set_load S parameters copy m s

  abbrev Ms : Modules
  Ms = modules_of S

  abbrev pub T : State
  T = state q L.memory s

  taken : set_load_number S parameters copy m s ≡ 0
  taken = (ready-number S parameters copy m s q ready).0

  start : q ≡ start_of (program_at Ms 0)
  start = (ready-number S parameters copy m s q ready).1

  left : loading (Ok (start_of (program_at Ms 0))) (over (copy_of S) copy) (loaded_memory S parameters (length m)) ≡ L
  left = loads S parameters copy m s taken

  first : 0 < length Ms
  first = omega (arith, modules-length S, set-some S (ready-parts S parameters copy m s taken).0)

  fit-state : T ≡ state (start_of (program_at Ms 0)) (loaded_memory S parameters (length m)) s
  fit-state = rw (start, ← left)

  -- A run of it is not refused.
  pub run-taken : set_run_number S L.copy 0 T ≡ 0
  run-taken =
      taken-whole S L.copy 0 T (record {
        sound = (ready-parts S parameters copy m s taken).0;
        copied = rw (← left) (begins-over (copy_of S) copy);
        there = first;
        fit = rw fit-state (start_fits S parameters copy m s taken);
      })

  pub loaded-holds : (Us : Subjects) → Together Ms Us → Inv Ms Us (loaded_configuration T)
  unfolding start_of
  loaded-holds Us together =
      record {
        ready = taken-ready S L.copy 0 T run-taken;
        framed = no-frame {fp = q.fp} (rw start);
        counted = rw start;
        placed = record {
          member = first;
          global = rw start;
          procedure = (together.checked 0 first).cutted.some;
          slots = [];
          reached = rw (start, ← together.codes 0 first) entered;
          height = rw start;
          holds = holds_none;
          suspended = no-caller;
        };
      }
