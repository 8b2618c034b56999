-- The words that an instruction finds are those at their depths in the stack.
use Prim.Native.Nat.{ℕ, ◌+◌, ◌-◌, ◌<◌, ◌≤◌}
use mathlib.Core.Path.{◌≡◌, ◌∙◌, refl, ap}
use mathlib.Core.Bool.{Bool}
use mathlib.Core.List.{List}
use native.Mathlib.Omega.{arith}
use lib.ListN.{drop}
use lib.Seq.{get_or-take, get_or-drop}
use Rattle.opcode.specs.declared.instruction.Mode.{Mode}
use Rattle.opcode.specs.declared.instruction.Mode.TheVariants.{Normal, Double}
use Rattle.opcode.specs.declared.instruction.Base.{Base}
use Rattle.opcode.specs.declared.instruction.Base.TheVariants.{Local, Global, Constant, Popped, External}
use Rattle.opcode.specs.declared.instruction.Operation.{Operation}
use Rattle.opcode.specs.declared.instruction.Operation.TheVariants.{Signed, Unsigned, Negate, Equal, NotEqual}
use Rattle.opcode.specs.declared.instruction.Operation.TheVariants.{CompareSigned, CompareUnsigned, Set, Not}
use Rattle.opcode.specs.declared.instruction.Instruction.TheVariants.{Store, Iter, Next}
use Rattle.operate.specs.Operation.{operation_value}
use Rattle.shape.specs.Counts.{popped, words_in, operands}
use Rattle.shape.specs.Shape.{shape_of}
use Rattle.registers.specs.declared.Registers.{Registers}
use Rattle.registers.specs.Modules.{Modules}
use Rattle.registers.specs.Program.{Program}
use Rattle.registers.specs.Memory.{read}
use Rattle.effect.specs.Data.{base_of, load_effect, load_address_effect, store_effect, operate_effect}
use Rattle.control.specs.Control.{iter_effect, next_effect}
use Rattle.registers.specs.State.{state}
use Rattle.effect.specs.declared.effect.Effect.{Effect}
use Rattle.execute.specs.Execute.{top_words, executed, execute}
use Rattle.operate.specs.Value.{Value}

-- Word j of the top n stands at depth n - j.
pub found : (s : List ℕ) (h n j : ℕ) → n ≤ h → j < n → read (top_words n h s) j ≡ read s (h - (n - j))
found s h n j l k =
    let e : h - n + j ≡ h - (n - j) = omega arith in
    get_or-take n (drop (h - n) s) j 0 k ∙ (get_or-drop (h - n) s j 0 ∙ ap (read s) e)

pub top-found : (s : List ℕ) (h : ℕ) → 1 ≤ h → read (top_words 1 h s) 0 ≡ read s (h - 1)
top-found s h l = found s h 1 0 l (omega arith)

-- What looks at two words, or at one.
two-found : (f : ℕ → ℕ → Value) (s : List ℕ) (h : ℕ) → 2 ≤ h
    → f (read (top_words 2 h s) 0) (read (top_words 2 h s) 1) ≡ f (read s (h - 2)) (read s (h - 1))
two-found f s h l = rw (found s h 2 0 l (omega arith), found s h 2 1 l (omega arith))

one_found : (f : ℕ → Value) (s : List ℕ) (h : ℕ) → 1 ≤ h → f (read (top_words 1 h s) 0) ≡ f (read s (h - 1))
one_found f s h l = ap f (top-found s h l)

operation-found : (wraps : Bool) (op : Operation) (s : List ℕ) (h : ℕ) → operands op ≤ h
    → let ws = top_words (operands op) h s in
    operation_value wraps op (read ws 0) (read ws 1) ≡ operation_value wraps op (read s (h - operands op)) (read s (h - 1))
unfolding operation_value
operation-found wraps (Signed op) = two-found (operation_value wraps (Signed op))
operation-found wraps (Unsigned op) = two-found (operation_value wraps (Unsigned op))
operation-found wraps Negate = one_found (λ x. operation_value wraps Negate x 0)
operation-found wraps Equal = two-found (operation_value wraps Equal)
operation-found wraps NotEqual = two-found (operation_value wraps NotEqual)
operation-found wraps (CompareSigned order) = two-found (operation_value wraps (CompareSigned order))
operation-found wraps (CompareUnsigned order) = two-found (operation_value wraps (CompareUnsigned order))
operation-found wraps (Set op) = two-found (operation_value wraps (Set op))
operation-found wraps Not = one_found (λ x. operation_value wraps Not x 0)

base-found : (Ms : Modules) (q : Registers) (m s : List ℕ) (base : Base) → popped base ≤ q.height
    → base_of Ms q m (read (top_words (popped base) q.height s) 0) base ≡ base_of Ms q m (read s (q.height - 1)) base
base-found Ms q m s Local l = refl
base-found Ms q m s Global l = refl
base-found Ms q m s Constant l = refl
base-found Ms q m s Popped l = found s q.height 1 0 l (omega arith)
base-found Ms q m s (External k) l = refl

pub load_found : (Ms : Modules) (q : Registers) (m s : List ℕ) (next : ℕ) (base : Base) (mode : Mode) (n : ℕ) → popped base ≤ q.height
    → load_effect Ms q m next base mode n (read (top_words (popped base) q.height s) 0)
    ≡ load_effect Ms q m next base mode n (read s (q.height - 1))
unfolding load_effect
load_found Ms q m s next base mode n l = rw (base-found Ms q m s base l)

pub load-address-found : (Ms : Modules) (q : Registers) (m s : List ℕ) (next : ℕ) (base : Base) (n : ℕ) → popped base ≤ q.height
    → load_address_effect Ms q m next base n (read (top_words (popped base) q.height s) 0)
    ≡ load_address_effect Ms q m next base n (read s (q.height - 1))
unfolding load_address_effect
load-address-found Ms q m s next base n l = rw (base-found Ms q m s base l)

pub operate-found : (wraps : Bool) (op : Operation) (q : Registers) (s : List ℕ) (next : ℕ) → operands op ≤ q.height
    → let ws = top_words (operands op) q.height s in
    operate_effect wraps q next op (read ws 0) (read ws 1)
    ≡ operate_effect wraps q next op (read s (q.height - operands op)) (read s (q.height - 1))
operate-found wraps op q s next l = rw (operation-found wraps op s q.height l)

-- The words of STOR, by their depth in the stack.
abbrev pub store_at : Program → Registers → List ℕ → List ℕ → ℕ → Base → Mode → ℕ → Effect
store_at P q m s next base mode n =
    store_effect P.modules q m next base mode n (read s (q.height - (popped base + words_in mode)))
    (read s (q.height - words_in mode)) (read s (q.height - (words_in mode - 1)))

pub store_found : (P : Program) (q : Registers) (m s : List ℕ) (next : ℕ) (base : Base) (mode : Mode) (n : ℕ)
    → popped base + words_in mode ≤ q.height
    → executed P (state q m s) next (Store base mode n) ≡ store_at P q m s next base mode n
unfolding execute shape_of store_effect
store_found P q m s next Local Normal n l = rw (found s q.height 1 0 l (omega arith))
store_found P q m s next Global Normal n l = rw (found s q.height 1 0 l (omega arith))
store_found P q m s next Constant Normal n l = rw (found s q.height 1 0 l (omega arith))
store_found P q m s next (External k) Normal n l = rw (found s q.height 1 0 l (omega arith))
store_found P q m s next Popped Normal n l =
    rw (found s q.height 2 0 l (omega arith), found s q.height 2 1 l (omega arith))
store_found P q m s next Local Double n l =
    rw (found s q.height 2 0 l (omega arith), found s q.height 2 1 l (omega arith))
store_found P q m s next Global Double n l =
    rw (found s q.height 2 0 l (omega arith), found s q.height 2 1 l (omega arith))
store_found P q m s next Constant Double n l =
    rw (found s q.height 2 0 l (omega arith), found s q.height 2 1 l (omega arith))
store_found P q m s next (External k) Double n l =
    rw (found s q.height 2 0 l (omega arith), found s q.height 2 1 l (omega arith))
store_found P q m s next Popped Double n l =
    rw (found s q.height 3 0 l (omega arith), found s q.height 3 1 l (omega arith), found s q.height 3 2 l (omega arith))

pub iter-found : (P : Program) (q : Registers) (m s : List ℕ) (next d : ℕ) → 4 ≤ q.height
    → executed P (state q m s) next (Iter d)
    ≡ iter_effect P.modules q m next d (read s (q.height - 4)) (read s (q.height - 3)) (read s (q.height - 2))
    (read s (q.height - 1))
unfolding execute shape_of
iter-found P q m s next d l =
    rw (
      found s q.height 4 0 l (omega arith),
      found s q.height 4 1 l (omega arith),
      found s q.height 4 2 l (omega arith),
      found s q.height 4 3 l (omega arith),
    )

pub next-found : (P : Program) (q : Registers) (m s : List ℕ) (next : ℕ) → 5 ≤ q.height
    → executed P (state q m s) next Next
    ≡ next_effect P.modules q m next (read s (q.height - 5)) (read s (q.height - 3)) (read s (q.height - 2))
    (read s (q.height - 1))
unfolding execute shape_of
next-found P q m s next l =
    rw (
      found s q.height 5 0 l (omega arith),
      found s q.height 5 2 l (omega arith),
      found s q.height 5 3 l (omega arith),
      found s q.height 5 4 l (omega arith),
    )
