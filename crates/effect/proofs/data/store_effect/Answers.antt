-- `effect::data::store_effect` meets its contract: the library, then live, then unprotected.
use Prim.Native.Nat.{◌+◌, ◌≤◌}
use mathlib.Core.Path.{◌≡◌}
use native.Mathlib.Omega.{arith}
use Rattle.effect.specs.Data.{store_effect, stored}
use Rattle.shape.proofs.Counting.{popped-small, words_small}
use Rattle.registers.proofs.Protected.{live_below}
use Rattle.effect.proofs.data.store_effect.Goals.{After-stored, Else-not-is_live}
use Rattle.effect.proofs.data.store_effect.Goals as goal

below : (c : Else-not-is_live) →
    let a = c.args in
    c.base_of.result + a.offset + c.words_in-2.result ≤ a.q.mp
below c =
    let a = c.args in
    let live = c.is_live in
    live_below a.q (c.base_of.result + a.offset) c.words_in-2.result live.result live.ensures
    (c.if-not-is_live.false)

-- The words go to the address in their order.
stored-told : (c : After-stored) →
    let a = c.args in
    c.stored.result ≡ stored (c.base_of.result + a.offset) a.mode a.x a.y
stored-told c = c.stored.ensures

pub returns-then-is_no_base : goal.returns-then-is_no_base
unfolding store_effect
returns-then-is_no_base c =
    let if1 = c.if-is_no_base in
    let is-no-base = c.is_no_base in
    λ copy. rw (← is-no-base.ensures copy, if1.true)

pub returns-then-not-is_live : goal.returns-then-not-is_live
unfolding store_effect
returns-then-not-is_live c =
    let if2 = c.if-not-is_live in
    let is_live = c.is_live in
    let words-in2 = c.words_in-2 in
    let base-of = c.base_of in
    let if1 = c.if-is_no_base in
    let is-no-base = c.is_no_base in
    λ copy. rw (
      ← is-no-base.ensures copy,
      if1.false,
      ← base-of.ensures.0 copy,
      ← words-in2.ensures,
      ← is_live.ensures,
      if2.true,
    )

pub overflow_add-pops : goal.overflow_add-pops
overflow_add-pops c =
    let words-in = c.words_in in
    let popped-words = c.popped_words in
    let a = c.args in
    record { fits = omega (arith, popped-words.ensures, words-in.ensures, popped-small a.base, (words_small a.mode).1) }

pub is_any_protected-requires : goal.is_any_protected-requires
is_any_protected-requires c =
    let pre = c.requires in
    record {
      table_len_bound = pre.table_len_bound;
      calls_value = pre.calls_value;
      a_bound = omega (arith, below (goal.at.is_any_protected-requires c).Else-not-is_live);
    }

pub returns-then-is_any_protected : goal.returns-then-is_any_protected
unfolding store_effect
returns-then-is_any_protected c =
    let if3 = c.if-is_any_protected in
    let is-any-protected = c.is_any_protected in
    let if2 = c.if-not-is_live in
    let is_live = c.is_live in
    let words-in2 = c.words_in-2 in
    let base-of = c.base_of in
    let if1 = c.if-is_no_base in
    let is-no-base = c.is_no_base in
    λ copy. rw (
      ← is-no-base.ensures copy,
      if1.false,
      ← base-of.ensures.0 copy,
      ← words-in2.ensures,
      ← is_live.ensures,
      if2.false,
      ← is-any-protected.ensures copy,
      if3.true,
    )

pub overflow_cast-a-2 : goal.overflow_cast-a-2
overflow_cast-a-2 c = record { fits = omega (arith, below (goal.at.overflow_cast-a-2 c).Else-not-is_live) }

pub returns : goal.returns
unfolding store_effect
returns c =
    let moved = c.moved in
    let if3 = c.if-is_any_protected in
    let is-any-protected = c.is_any_protected in
    let if2 = c.if-not-is_live in
    let is_live = c.is_live in
    let words-in2 = c.words_in-2 in
    let words-in = c.words_in in
    let popped-words = c.popped_words in
    let base-of = c.base_of in
    let if1 = c.if-is_no_base in
    let is-no-base = c.is_no_base in
    λ copy. rw (
      ← is-no-base.ensures copy,
      if1.false,
      ← base-of.ensures.0 copy,
      stored-told (goal.at.returns c).After-stored,
      popped-words.ensures,
      words-in.ensures,
      moved.ensures,
      ← words-in2.ensures,
      ← is_live.ensures,
      if2.false,
      ← is-any-protected.ensures copy,
      if3.false,
    )
