-- `execute::execute_store` meets its contract: the words by their depths.
use Prim.Native.Nat.{ℕ, ◌-◌}
use mathlib.Core.List.{List}
use mathlib.Core.Path.{◌≡◌}
use native.Mathlib.Omega.{arith}
use Rattle.shape.specs.Shape.{shape_of}
use Rattle.shape.proofs.Counting.{popped-small, words_small}
use Rattle.registers.specs.Modules.{modules_in}
use Rattle.registers.specs.Program.{program}
use Rattle.registers.specs.Memory.{read}
use Rattle.effect.specs.Data.{store_effect}
use Rattle.execute.proofs.Top.{store_found}
use Rattle.execute.proofs.execute_store.Goals.{After-peek-x, After-store_effect}
use Rattle.execute.proofs.execute_store.Goals as goal

first_found : (c : After-peek-x) →
    let words-in = c.words_in-words in
    let a = c.args in
    c.peek-x.result ≡ read a.s.now (a.q.height - words-in.result)
first_found c = c.peek-x.ensures

stores : (c : After-store_effect) (copy : List ℕ) →
    let a = c.args in
    c.store_effect.result ≡ store_effect (modules_in a.table.now copy) a.q a.m.now a.next a.base a.mode a.offset
    c.peek-popped.result c.peek-x.result c.peek-y.result
stores c copy = c.store_effect.ensures copy

pub overflow_add-popped_words : goal.overflow_add-popped_words
overflow_add-popped_words c =
    let popped-words = c.popped_words in
    let words-in = c.words_in-words in
    let a = c.args in
    record { fits = omega (arith, popped-words.ensures, words-in.ensures, popped-small a.base, words_small a.mode) }

pub overflow_sub-words : goal.overflow_sub-words
overflow_sub-words c =
    let words-in = c.words_in-words in
    let a = c.args in
    omega (arith, words-in.ensures, words_small a.mode)

pub returns : goal.returns
unfolding shape_of
returns c =
    let peek3 = c.peek-y in
    let peek = c.peek-popped in
    let popped-words = c.popped_words in
    let words-in = c.words_in-words in
    let a = c.args in
    let pre = c.requires in
    let q = a.q in
    let m = a.m.now in
    let s = a.s.now in
    λ code copy. rw (
      store_found (program code a.attributes (modules_in a.table.now copy)) q m s a.next a.base a.mode a.offset pre.offset_bound,
      stores (goal.at.returns c).After-store_effect copy,
      peek.ensures,
      first_found (goal.at.returns c).After-peek-x,
      peek3.ensures,
      popped-words.ensures,
      words-in.ensures,
    )
