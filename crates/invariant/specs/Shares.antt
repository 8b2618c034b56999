-- What a configuration has on the share of its procedure, the link words of its calls, and what a step leaves unread.
use Rattle.std.specs.Prelude.{List, [], ◌∷◌, ◌≡◌, ℕ, ◌≤◌, ◌<◌, ◌+◌, length, get_or}
use Rattle.registers.specs.Memory.{read}
use Rattle.registers.specs.Modules.{Modules}
use Rattle.registers.specs.State.{state}
use Rattle.stackmap.specs.Slots.{Slot, word, label}
use Rattle.stackmap.specs.Ways.{label_word}
use Rattle.invariant.specs.Active.{Call, share_of, Configuration, step_on}

-- The words of a share, the top first, are as the slots say: "A label slot holds the word that its maker pushes."
pub data Holds (code : List ℕ) (s : List ℕ) : ℕ → List Slot → Type 0 where
  holds_none : {bottom : ℕ} → Holds code s bottom []
  holds_word : {bottom : ℕ} {l : List Slot} → Holds code s bottom l → Holds code s bottom (word ∷ l)
  holds_label : {bottom origin : ℕ} {l : List Slot} → get_or s (bottom + length l) 0 ≡ label_word code origin → Holds code s bottom l → Holds code s bottom (label origin ∷ l)

-- Each call's link words are as that call wrote them, two of a local call and three of an external one.
abbrev pub Written : List ℕ → ℕ → List ℕ → Type 0
Written m a [] = Unit {0}
Written m a (x ∷ xs) = (read m a ≡ x) × Written m (a + 1) xs

abbrev pub Linked : List ℕ → List Call → Type 0
Linked m [] = Unit {0}
Linked m (c ∷ calls) = Written m c.link c.words × Linked m calls

-- Two stacks that differ only in words below a share.
pub record SameFrom (share : ℕ) (s s' : List ℕ) : Type 0 where
  pub room : length s' ≡ length s
  pub above : (i : ℕ) → share ≤ i → get_or s' i 0 ≡ get_or s i 0

-- "a state that differs from the run's only in stack words below the share takes the same step or trap, with the same outcome but for
-- those words, which each state keeps".
abbrev pub other : Configuration → List ℕ → Configuration
other c s' = record { state = state c.state.registers c.state.memory s'; calls = c.calls }

pub record Unread (Ms : Modules) (c : Configuration) (s' : List ℕ) : Type 0 where
  pub same_outcome : (step_on Ms (other c s')).outcome ≡ (step_on Ms c).outcome
  pub same_registers : (step_on Ms (other c s')).state.registers ≡ (step_on Ms c).state.registers
  pub same_memory : (step_on Ms (other c s')).state.memory ≡ (step_on Ms c).state.memory
  pub same_share : SameFrom (share_of c.calls) (step_on Ms c).state.stack (step_on Ms (other c s')).state.stack
  pub keeps_size : length (step_on Ms (other c s')).state.stack ≡ length s'
  pub keeps_own : (i : ℕ) → i < share_of c.calls → get_or (step_on Ms (other c s')).state.stack i 0 ≡ get_or s' i 0
