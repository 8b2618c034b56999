-- The sentences of demand 3, each of every fresh run (`Fresh`), and of its configuration after every number of steps (`ComesTo`).
use Rattle.std.specs.Prelude.{true, List, ◌≡◌, ℕ, suc, ◌<◌, length}
use Rattle.std.proofs.Math.Option.{some}
use Rattle.entries.specs.Entries.{entry_count}
use Rattle.registers.specs.Modules.{globals_start, is_fixed}
use Rattle.registers.specs.Memory.{read}
use Rattle.stackmap.specs.Slots.{Slot}
use Rattle.stackmap.specs.StackMap.{Map, IsMap}
use Rattle.run.specs.Run.{set_run}
use Rattle.step.specs.declared.Outcome.TheVariants.{Went}
use Rattle.invariant.specs.Active.{Configuration, running_member, running, share_of, step_on, advance}
use Rattle.invariant.specs.Shares.{Linked, SameFrom, Unread}
use Rattle.safety.specs.Demand3.{Ends}
use Rattle.demands.specs.Fresh.{Fresh, modules_in, subjects_in, load_left, loaded_state, first_of, ComesTo, Pictured, Shared}

-- "Whatever memory and stack held before, the run finishes, spends its budget, or ends in one of the nine data traps, never in
-- one of the four code traps", "with demand 2's steps and step count and any step budget". It gets the load's copy and goes from the
-- main module.
abbrev pub EndsProperly : Type 0
EndsProperly =
    (F : Fresh) (budget : ℕ)
    → Ends (modules_in F) (subjects_in F) (first_of F) budget (set_run F.members (load_left F).copy budget 0 (loaded_state F))

-- "After every number of its steps, from none to the last": a run comes to what was loaded, and from there on with each completed step.
abbrev pub ComesOn : Type 0
ComesOn =
    (F : Fresh)
    → ComesTo F 0 (first_of F)
    × ((n : ℕ) (c : Configuration) → ComesTo F n c → (step_on (modules_in F) c).outcome ≡ Went
    → ComesTo F (suc n) (advance (modules_in F) (subjects_in F) c))

-- What holds of each configuration that it comes to.
abbrev pub Always : (Fresh → Configuration → Type 0) → Type 0
Always Property = (F : Fresh) (n : ℕ) (c : Configuration) → ComesTo F n c → Property F c

-- "the place is one that the running procedure's stack picture has."
abbrev pub HasPlace : Type 0
HasPlace =
    Always (λ F c. (running c.calls < entry_count (subjects_in F (running_member c.calls)).code)
    × (slots : List Slot) × Pictured F c slots)

-- 02, K1: "A place names its module": it is one of the set's, and GP points at its globals.
abbrev pub HasModule : Type 0
HasModule =
    Always (λ F c. (running_member c.calls < length (modules_in F))
    × (c.state.registers.gp ≡ globals_start (modules_in F) (running_member c.calls)))

-- The picture is one: whatever stack map the procedure's region has, it has just that list there.
abbrev pub HasPicture : Type 0
HasPicture =
    Always (λ F c. (slots : List Slot) → Pictured F c slots
    → (π : Map) → IsMap (subjects_in F (running_member c.calls)) (running c.calls) π → π c.state.registers.pc ≡ some slots)

-- "That procedure's share of the stack has exactly the height and labels of the picture there, and the check's workspace, as
-- the check left it, shows that height and the topmost label."
abbrev pub HasShare : Type 0
HasShare = Always (λ F c. (slots : List Slot) → Pictured F c slots → Shared F c slots)

-- "Header words and constants are as loaded", those of every module.
abbrev pub KeepsFixed : Type 0
KeepsFixed =
    Always (λ F c. (a : ℕ) → is_fixed 0 (modules_in F) a ≡ true → read c.state.memory a ≡ read (loaded_state F).memory a)

-- Memory and stack keep their sizes.
abbrev pub KeepsSizes : Type 0
KeepsSizes =
    Always (λ F c. (length c.state.memory ≡ length (loaded_state F).memory)
    × (length c.state.stack ≡ length (loaded_state F).stack))

-- "each active call's link words are as that call wrote them." They are as many as the machine counts.
abbrev pub KeepsLinks : Type 0
KeepsLinks = Always (λ F c. (length c.calls ≡ c.state.registers.calls) × Linked c.state.memory c.calls)

-- "No step, a trapped one included, reads or changes a stack word below the share that it starts with."
abbrev pub LeavesBelow : Type 0
LeavesBelow = Always (λ F c. (s' : List ℕ) → SameFrom (share_of c.calls) c.state.stack s' → Unread (modules_in F) c s')
