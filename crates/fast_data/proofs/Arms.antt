-- The arms of loads, stores and stack instructions: what a leaf did is the step of the instruction that is decoded, whatever
-- its form.
use mathlib.Core.Path.{◌≡◌}
use mathlib.Core.Bool.{Bool}
use mathlib.Core.List.{List}
use Prim.Native.Nat.{ℕ, ◌+◌, ◌<◌}
use lib.ListN.{length}
use Rattle.opcode.specs.Decode.{decode_at}
use Rattle.std.specs.Prelude.{Ok}
use Rattle.opcode.specs.declared.instruction.Instruction.{Instruction}
use Rattle.opcode.specs.declared.instruction.Instruction.TheVariants.{LoadConstant, Load, LoadAddress, Store, Pop, Swap}
use Rattle.opcode.specs.declared.instruction.Base.TheVariants.{Local, Global, Constant, Popped}
use Rattle.opcode.specs.declared.instruction.Mode.TheVariants.{Normal}
use Rattle.registers.specs.declared.Attributes.{Attributes}
use Rattle.registers.specs.declared.Registers.{Registers}
use Rattle.registers.specs.Modules.{Modules}
use Rattle.registers.specs.Program.{Program, program}
use Rattle.fast.specs.Fast.{Spot, spot, state_at, Did}
use Rattle.fast.specs.Leaves.{Pushes, Loads, LoadsPopped, AddressPopped, Drops, Swaps}
use Rattle.fast.specs.Leaves.{Stores, StoresPopped}
use Rattle.fast.proofs.Goes.{did}
use Rattle.fast.proofs.Plain.{constants-at}
use Rattle.fast.proofs.Data.{constant-goes, pop_goes, swap-goes}
use Rattle.fast.proofs.Data.{load-local-goes, load-global-goes, load-constant-goes, load-popped-goes}
use Rattle.fast.proofs.Data.{address-local-goes, address-global-goes, address-constant-goes, address-popped-goes}
use Rattle.fast.proofs.Data.{store-local-goes, store-global-goes, store-popped-goes}

module _ (code : List ℕ) (A : Attributes) (q : Registers) (pc h : ℕ) (m s : List ℕ) (t : Bool) (T' : Spot) (next : ℕ)
    (inside : next < length code) where
  abbrev L : Modules → Program
  L = program code A

  abbrev T : Spot
  T = spot pc h m s

  abbrev Decodes : Instruction → Type 0
  Decodes i = decode_at code (length code) pc ≡ Ok (i, next)

  abbrev Done : Type 0
  Done = Did t L q T T'

  pub constant-arm : (n : ℕ) → Decodes (LoadConstant n) → Pushes t next n T T' → Done
  constant-arm n d = did t L q _ T _ T' (λ Ms R c. constant-goes (L Ms) q pc h m s R next inside n d c)

  pub load-local-arm : (n : ℕ) → Decodes (Load Local Normal n) → Loads t next q.mp (q.fp + n) T T' → Done
  load-local-arm n d = did t L q _ T _ T' (λ Ms R c. load-local-goes (L Ms) q pc h m s R next inside n d c)

  pub load-global-arm : (n : ℕ) → Decodes (Load Global Normal n) → Loads t next q.mp (q.gp + n) T T' → Done
  load-global-arm n d = did t L q _ T _ T' (λ Ms R c. load-global-goes (L Ms) q pc h m s R next inside n d c)

  pub load-popped-arm : (n : ℕ) → Decodes (Load Popped Normal n) → LoadsPopped t next q.mp n T T' → Done
  load-popped-arm n d = did t L q _ T _ T' (λ Ms R c. load-popped-goes (L Ms) q pc h m s R next inside n d c)

  pub address-local-arm : (n : ℕ) → Decodes (LoadAddress Local n) → q.fp + n < 0x1_0000_0000 → Pushes t next (q.fp + n) T T'
      → Done
  address-local-arm n d l = did t L q _ T _ T' (λ Ms R c. address-local-goes (L Ms) q pc h m s R next inside n d l c)

  pub address-global-arm : (n : ℕ) → Decodes (LoadAddress Global n) → q.gp + n < 0x1_0000_0000 → Pushes t next (q.gp + n) T T'
      → Done
  address-global-arm n d l = did t L q _ T _ T' (λ Ms R c. address-global-goes (L Ms) q pc h m s R next inside n d l c)

  pub address-popped-arm : (n : ℕ) → Decodes (LoadAddress Popped n) → AddressPopped t next n T T' → Done
  address-popped-arm n d = did t L q _ T _ T' (λ Ms R c. address-popped-goes (L Ms) q pc h m s R next inside n d c)

  pub store-local-arm : (n : ℕ) → Decodes (Store Local Normal n) → Stores t A next q.fp q.mp (q.fp + n) T T' → Done
  store-local-arm n d = did t L q _ T _ T' (λ Ms R c. store-local-goes (L Ms) q pc h m s R next inside n d c)

  pub store-global-arm : (n : ℕ) → Decodes (Store Global Normal n) → Stores t A next q.fp q.mp (q.gp + n) T T' → Done
  store-global-arm n d = did t L q _ T _ T' (λ Ms R c. store-global-goes (L Ms) q pc h m s R next inside n d c)

  pub store-popped-arm : (n : ℕ) → Decodes (Store Popped Normal n) → StoresPopped t A q next n T T' → Done
  store-popped-arm n d = did t L q _ T _ T' (λ Ms R c. store-popped-goes (L Ms) q pc h m s R next inside n d c)

  pub pop-arm : (n : ℕ) → Decodes (Pop n) → Drops t next n T T' → Done
  pop-arm n d = did t L q _ T _ T' (λ Ms R c. pop_goes (L Ms) q pc h m s R next inside n d c)

  pub swap-arm : Decodes Swap → Swaps t next T T' → Done
  swap-arm d = did t L q _ T _ T' (λ Ms R c. swap-goes (L Ms) q pc h m s R next inside d c)

  pub load-constant-arm : (n : ℕ) → Decodes (Load Constant Normal n) → Loads t next q.mp (A.constants + n) T T' → Done
  load-constant-arm n d =
      did t L q _ T _ T'
      (λ Ms R. rw (constants-at (L Ms) (state_at q T) R) at (load-constant-goes (L Ms) q pc h m s R next inside n d))

  pub address-constant-arm : (n : ℕ) → Decodes (LoadAddress Constant n) → A.constants + n < 0x1_0000_0000
      → Pushes t next (A.constants + n) T T' → Done
  address-constant-arm n d l =
      did t L q _ T _ T'
      (λ Ms R. (rw (constants-at (L Ms) (state_at q T) R) at (address-constant-goes (L Ms) q pc h m s R next inside n d)) l)
