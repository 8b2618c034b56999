-- The arms of loads and stores in two words: what a leaf did is the step of the instruction that is decoded, whatever its form.
use mathlib.Core.Path.{◌≡◌}
use mathlib.Core.Bool.{Bool, true}
use mathlib.Core.List.{List}
use Prim.Native.Nat.{ℕ, ◌+◌, ◌≤◌, ◌<◌}
use native.Mathlib.Omega.{arith}
use lib.ListN.{length}
use Rattle.opcode.specs.Decode.{decode_at}
use Rattle.std.specs.Prelude.{Ok}
use Rattle.opcode.specs.declared.instruction.Instruction.{Instruction}
use Rattle.opcode.specs.declared.instruction.Instruction.TheVariants.{Load, Store}
use Rattle.opcode.specs.declared.instruction.Base.TheVariants.{Local, Global, Constant, Popped}
use Rattle.opcode.specs.declared.instruction.Mode.TheVariants.{Double}
use Rattle.registers.specs.declared.Attributes.{Attributes}
use Rattle.registers.specs.declared.Registers.{Registers}
use Rattle.registers.specs.Modules.{Modules}
use Rattle.registers.specs.Program.{Program, program}
use Rattle.registers.specs.Memory.{chained}
use Rattle.state.specs.Fits.{bounded}
use Rattle.state.proofs.Fitting.{fitting}
use Rattle.fast.specs.Fast.{Spot, spot, state_at, Did}
use Rattle.fast.specs.Leaves.{LoadsTwo, LoadsTwoPopped, StoresTwo, StoresTwoPopped}
use Rattle.fast.proofs.Goes.{did}
use Rattle.fast.proofs.Plain.{constants-at}
use Rattle.fast.proofs.Data.{load-two-local-goes, load-two-global-goes, load-two-constant-goes, load-two-popped-goes}
use Rattle.fast.proofs.Data.{store-two-local-goes, store-two-global-goes, store-two-popped-goes}

-- What a store through an address asks of the state and of its offset.
pub reaches : (A : Attributes) (q : Registers) (T : Spot) → bounded A (state_at q T) ≡ true → (n : ℕ) → n < 65536
    → (q.mp ≤ length T.memory) × ((T.height ≤ length T.stack) × ((n < 65536)
    × ((chained T.memory A.frames q.fp q.calls ≡ true) × (q.fp ≤ length T.memory))))
reaches A q T f n small =
    let F = fitting A (state_at q T) f in
    (F.within, (F.height, (small, (F.links, omega (arith, F.frame, F.within)))))

module _ (code : List ℕ) (A : Attributes) (q : Registers) (pc h : ℕ) (m s : List ℕ) (t : Bool) (T' : Spot) (next : ℕ)
    (inside : next < length code) where
  abbrev L : Modules → Program
  L = program code A

  abbrev T : Spot
  T = spot pc h m s

  abbrev Decodes : Instruction → Type 0
  Decodes i = decode_at code (length code) pc ≡ Ok (i, next)

  abbrev Done : Type 0
  Done = Did t L q T T'

  pub load-two-local-arm : (n : ℕ) → Decodes (Load Local Double n) → LoadsTwo t next q.mp (q.fp + n) T T' → Done
  load-two-local-arm n d = did t L q _ T _ T' (λ Ms R c. load-two-local-goes (L Ms) q pc h m s R next inside n d c)

  pub load-two-global-arm : (n : ℕ) → Decodes (Load Global Double n) → LoadsTwo t next q.mp (q.gp + n) T T' → Done
  load-two-global-arm n d = did t L q _ T _ T' (λ Ms R c. load-two-global-goes (L Ms) q pc h m s R next inside n d c)

  pub load-two-popped-arm : (n : ℕ) → Decodes (Load Popped Double n) → LoadsTwoPopped t next q.mp n T T' → Done
  load-two-popped-arm n d = did t L q _ T _ T' (λ Ms R c. load-two-popped-goes (L Ms) q pc h m s R next inside n d c)

  pub store-two-local-arm : (n : ℕ) → Decodes (Store Local Double n) → StoresTwo t A next q.fp q.mp (q.fp + n) T T'
      → Done
  store-two-local-arm n d = did t L q _ T _ T' (λ Ms R c. store-two-local-goes (L Ms) q pc h m s R next inside n d c)

  pub store-two-global-arm : (n : ℕ) → Decodes (Store Global Double n) → StoresTwo t A next q.fp q.mp (q.gp + n) T T'
      → Done
  store-two-global-arm n d = did t L q _ T _ T' (λ Ms R c. store-two-global-goes (L Ms) q pc h m s R next inside n d c)

  pub store-two-popped-arm : (n : ℕ) → Decodes (Store Popped Double n) → StoresTwoPopped t A q next n T T' → Done
  store-two-popped-arm n d = did t L q _ T _ T' (λ Ms R c. store-two-popped-goes (L Ms) q pc h m s R next inside n d c)

  pub load-two-constant-arm : (n : ℕ) → Decodes (Load Constant Double n) → LoadsTwo t next q.mp (A.constants + n) T T' → Done
  load-two-constant-arm n d =
      did t L q _ T _ T'
      (λ Ms R. rw (constants-at (L Ms) (state_at q T) R) at (load-two-constant-goes (L Ms) q pc h m s R next inside n d))
