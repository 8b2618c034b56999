-- What an instruction finds on its list of slots and gives to its successors. 01: "Each pictured instruction finds what it pops,
-- leaves what the manual leaves, and gives every successor exactly that list. Labels are made only by ITER and SWITCH, used only by
-- NEXT and LEAVE respectively, and may be dropped by POP; nothing else touches one."
use Rattle.std.specs.Prelude.{Bool, cond, ◌||◌, List, [], ◌∷◌, ℕ, ◌+◌, eqb, leb, get_or}
use Rattle.std.proofs.Math.Option.{Option, none, some}
use Rattle.words.specs.Bytes.{byte_at}
use Rattle.entries.specs.Entries.{entry_at}
use Rattle.entries.specs.Libraries.{Library, library_in}
use Rattle.operand.specs.Operand.{fixed_of, operand}
use Rattle.operand.specs.Distance.{place_at}
use Rattle.opcode.specs.Codes.{iter_code, switch_code, switch_x_code, iter_operands, enter_operands}
use Rattle.shape.specs.declared.Shape.{Shape}
use Rattle.shape.specs.declared.Shape.TheVariants.{Straight, Pop, Jump, JumpC, JumpTF, Iter}
use Rattle.shape.specs.declared.Shape.TheVariants.{Next, Switch, Leave, Call, CallExternal, Enter, Rtn}
use Rattle.layout.specs.Cut.{Marks}
use Rattle.successors.specs.Successors.{switch_targets}
use Rattle.switch_table.specs.Switch.{exit_label}
use Rattle.stackmap.specs.Slots.{Slot, word, label, push_words, pop_words, pop_slots, is_words}

-- The code under check, the libraries of its module in the order of its import list, its results list, and its starts.
pub record Subject : Type 0 where
  pub code : List ℕ
  pub libraries : List Library
  pub results : List ℕ
  pub marks : Marks

-- "the parameter words of its ENTER (procedure 0: none)".
abbrev pub parameters_in : List ℕ → ℕ → ℕ
parameters_in code p = cond (eqb p 0) 0 (operand enter_operands code (entry_at code p))

-- "The results list, one byte 0 to 2 per procedure from 0 up".
abbrev pub results_in : List ℕ → ℕ → ℕ
results_in results p = get_or results p 0

-- "SWITCH_X counts as SWITCH here". An origin is a start, and DOUBLE stands before none of the three, so that its first byte is its
-- code.
abbrev pub is_iter : List ℕ → ℕ → Bool
is_iter code origin = eqb (byte_at code origin) iter_code

abbrev pub is_switch : List ℕ → ℕ → Bool
is_switch code origin = eqb (byte_at code origin) switch_code || eqb (byte_at code origin) switch_x_code

-- The place after an ITER.
abbrev pub iter_start : ℕ → ℕ
iter_start origin = origin + fixed_of iter_operands

-- The word that a label's origin pushes: ITER the next place, a switch its exit label.
abbrev pub label_word : List ℕ → ℕ → ℕ
label_word code origin = cond (is_iter code origin) (iter_start origin) (exit_label code origin)

-- A successor, and the list that it is given.
pub data Way : Type 0 where
  ◌gets◌ : ℕ → List Slot → Way

infix 70 ◌gets◌
abbrev pub place : Way → ℕ
place (t gets l) = t

-- What follows where slots could be taken off.
abbrev pub after : Option (List Slot) → (List Slot → List Way) → Option (List Way)
after none f = none
after (some rest) f = some (f rest)

-- Two ways in rising offset, the one that goes on first where they meet (02, K9: "hands its list to its successors in rising offset");
-- what the walk finds does not depend on the order.
abbrev pub both : Way → Way → List Way
both on away = cond (leb (place on) (place away)) (on ∷ away ∷ []) (away ∷ on ∷ [])

abbrev pub to_all : List ℕ → List Slot → List Way
to_all [] l = []
to_all (t ∷ ts) l = t gets l ∷ to_all ts l

-- Pops and pushes words, and goes on.
abbrev pub straight : ℕ → ℕ → ℕ → List Slot → Option (List Way)
straight next pops pushes l = after (pop_words pops l) (λ rest. next gets push_words pushes rest ∷ [])

-- NEXT [ adr, first, last, step, label ]: past the loop without the five, or round with all of them.
abbrev pub next_out : List ℕ → ℕ → List Slot → Option (List Way)
next_out code next [] = none
next_out code next (word ∷ l) = none
next_out code next (label origin ∷ l) =
    cond (is_iter code origin)
    (after (pop_words 4 l) (λ rest. both (next gets rest) (label_word code origin gets (label origin ∷ l)))) none

-- LEAVE [ label ].
abbrev pub leave_out : List ℕ → List Slot → Option (List Way)
leave_out code [] = none
leave_out code (word ∷ l) = none
leave_out code (label origin ∷ l) = cond (is_switch code origin) (some (label_word code origin gets l ∷ [])) none

-- The ways out of the instruction at an offset of procedure p, of a shape, before `next`, from a list; none where the list is not
-- as it must be. "JUMP_T and JUMP_F keep the boolean when they jump. CALL takes the callee's parameter words and leaves its result
-- words. RTN finds exactly its own procedure's result words." CALL_E (02, K1): "a callee's entry (14), parameters and results taken
-- from its own module".
unfoldable pub ways : Subject → ℕ → ℕ → ℕ → Shape → List Slot → Option (List Way)
ways U p at next (Straight pops pushes) l = straight next pops pushes l
ways U p at next (Pop n) l = after (pop_slots n l) (λ rest. next gets rest ∷ [])
ways U p at next (Jump d) l = some (place_at at d gets l ∷ [])
ways U p at next (JumpC d) l = after (pop_words 1 l) (λ rest. both (next gets rest) (place_at at d gets rest))
ways U p at next (JumpTF d) l = after (pop_words 1 l) (λ rest. both (next gets rest) (place_at at d gets l))
ways U p at next (Iter d) l = after (pop_words 4 l) (λ rest. both (next gets (label at ∷ l)) (place_at at d gets rest))
ways U p at next Next l = next_out U.code next l
ways U p at next (Switch t n) l = after (pop_words 1 l) (λ rest. to_all (switch_targets U.code at t n) (label at ∷ rest))
ways U p at next Leave l = leave_out U.code l
ways U p at next (Call c) l = straight next (parameters_in U.code c) (results_in U.results c) l
ways U p at next (CallExternal l c) k =
    straight next (parameters_in (library_in U.libraries l).code c) (results_in (library_in U.libraries l).results c) k
ways U p at next (Enter par) l = straight next par 0 l
ways U p at next Rtn l = cond (is_words (results_in U.results p) l) (some []) none
