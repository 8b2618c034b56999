-- SWITCH and SWITCH_X that complete: the exit label stands for the selector, and the place at the distance is within the code,
-- so neither sum wraps.
use mathlib.Core.Path.{◌≡◌, ◌∙◌, refl}
use mathlib.Core.Bool.{Bool}
use mathlib.Core.List.{List}
use Prim.Native.Nat.{ℕ, ◌+◌, ◌-◌, ◌*◌, ◌≤◌, ◌<◌}
use native.Mathlib.Omega.{arith}
use lib.ListN.{length, set}
use borrow.Author.Tests.{le-leb, lt-leb, ne_eqb}
use Rattle.words.specs.Bytes.{halfword_at}
use Rattle.operand.specs.Distance.{place_at}
use Rattle.switch_table.specs.Switch.{exit_distance, else_distance, branch_distance, search_distance}
use Rattle.opcode.specs.declared.instruction.Instruction.{Instruction}
use Rattle.opcode.specs.declared.instruction.Instruction.TheVariants.{Switch, SwitchX}
use Rattle.shape.specs.declared.Table.{Table}
use Rattle.shape.specs.declared.Table.TheVariants.{Branches, Ranges}
use Rattle.shape.specs.Shape.{shape_of, needed}
use Rattle.registers.specs.declared.Attributes.{Attributes}
use Rattle.registers.specs.declared.Registers.{Registers}
use Rattle.registers.specs.Modules.{Modules}
use Rattle.registers.specs.Program.{Program, program}
use Rattle.registers.specs.Memory.{read}
use Rattle.control.specs.Control.{switch_distance, switch_effect}
use Rattle.execute.specs.Execute.{execute, executed}
use Rattle.execute.proofs.Top.{top-found}
use Rattle.fast.specs.Fast.{Spot, spot, state_at, Became, Did}
use Rattle.fast.proofs.Goes.{did}
use Rattle.fast.proofs.Plain.{ready-fitting}
use Rattle.fast.proofs.Forms.{gives_one}
use Rattle.fast.specs.Fast.{Decodes}

unwrapped : (pc d : ℕ) → pc + d < 0x1_0000_0000 → place_at pc d ≡ pc + d
unwrapped pc d l = omega arith

module _ (code : List ℕ) (A : Attributes) (q : Registers) (pc h : ℕ) (m s : List ℕ) (room : h ≤ length s)
    (small : length code ≤ 65535) (one : 1 ≤ h) (next : ℕ) where
  abbrev L : Modules → Program
  L = program code A

  abbrev T : Spot
  T = spot pc h m s

  abbrev label : ℕ
  label = pc + halfword_at code (pc + 3)

  -- What went to the place at a distance did a step.
  abbrev Branching : (d : ℕ) → Type 0
  Branching d =
      (t : Bool) (T' : Spot)
      → Became t ((pc + d < length code) × (label < 0x1_0000_0000)) T (spot (pc + d) h m (set s (h - 1) label)) T'
      → Did t L q T T'

  branching : (i : Instruction) (table : Table) (n d : ℕ) → Decodes code pc i next → needed i ≤ h
      → ((Ms : Modules) → executed (L Ms) (state_at q T) next i
      ≡ switch_effect code (state_at q T).registers table n (read s (h - 1)))
      → switch_distance code pc table n (read s (h - 1)) ≡ d → Branching d
  unfolding switch_effect exit_distance
  branching i table n d stands enough does e t T' =
      did t L q _ T _ T'
      (λ Ms R c. gives_one (L Ms) q pc h m s i next (pc + d) stands enough (ready-fitting (L Ms) (state_at q T) R).global
      c.0 1 (h - 1) h label refl (omega arith)
      (does Ms ∙ rw (e, unwrapped pc d (omega (arith, c.0)), unwrapped pc (halfword_at code (pc + 3)) c.1)) (omega arith))

  switch-branches : (n d : ℕ) → Decodes code pc (Switch n) next → switch_distance code pc Branches n (read s (h - 1)) ≡ d
      → Branching d
  unfolding execute shape_of
  switch-branches n d stands = branching (Switch n) Branches n d stands one (λ Ms. rw (top-found s h one))

  pub switch-goes : (n x : ℕ) → Decodes code pc (Switch n) next → read s (h - 1) ≡ x → x ≤ n
      → Branching (halfword_at code (pc + 7 + 2 * x))
  unfolding branch_distance
  switch-goes n x stands e l = switch-branches n (halfword_at code (pc + 7 + 2 * x)) stands (rw (e, le-leb x n l))

  pub switch-else : (n : ℕ) → Decodes code pc (Switch n) next → n < read s (h - 1) → Branching (halfword_at code (pc + 5))
  unfolding else_distance
  switch-else n stands l = switch-branches n (halfword_at code (pc + 5)) stands (rw (lt-leb (read s (h - 1)) n l))

  switch-x-branches : (n d : ℕ) → Decodes code pc (SwitchX n) next → switch_distance code pc Ranges n (read s (h - 1)) ≡ d
      → Branching d
  unfolding execute shape_of
  switch-x-branches n d stands = branching (SwitchX n) Ranges n d stands one (λ Ms. rw (top-found s h one))

  pub switch-x-goes : (n d : ℕ) → Decodes code pc (SwitchX n) next → d ≡ search_distance code pc n (read s (h - 1)) → (d ≡ 0 → ⊥)
      → Branching d
  switch-x-goes n d stands e some = switch-x-branches n d stands (rw (← e, ne_eqb d 0 some))

  pub switch-x-else : (n d : ℕ) → Decodes code pc (SwitchX n) next → d ≡ search_distance code pc n (read s (h - 1)) → d ≡ 0
      → Branching (halfword_at code (pc + 5))
  unfolding else_distance
  switch-x-else n d stands e none = switch-x-branches n (halfword_at code (pc + 5)) stands (rw (← e, none))
