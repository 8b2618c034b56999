-- `effect::data::load_address_effect` meets its contract: 23 where there is no such library; else the sum is a word, or trap 31.
use borrow.Author.Tests.{lt-ltb, le-ltb}
use Prim.Native.Nat.{◌+◌, ◌≤◌}
use native.Mathlib.Omega.{arith}
use Rattle.effect.specs.Data.{load_address_effect}
use Rattle.effect.proofs.data.load_address_effect.Goals.{Else-a-lt4294967296}
use Rattle.effect.proofs.data.load_address_effect.Goals as goal

pub returns-then-is_no_base : goal.returns-then-is_no_base
unfolding load_address_effect
returns-then-is_no_base c =
    let if1 = c.if-is_no_base in
    let is-no-base = c.is_no_base in
    λ copy. rw (← is-no-base.ensures copy, if1.true)

pub returns-then-a-lt4294967296 : goal.returns-then-a-lt4294967296
unfolding load_address_effect
returns-then-a-lt4294967296 c =
    let push-effect = c.push_effect in
    let popped-words = c.popped_words in
    let if2 = c.if-a-lt4294967296 in
    let base-of = c.base_of in
    let if1 = c.if-is_no_base in
    let is-no-base = c.is_no_base in
    let a = c.args in
    let at = base-of.result + a.offset in
    λ copy. rw (
      ← is-no-base.ensures copy,
      if1.false,
      ← base-of.ensures.0 copy,
      lt-ltb at 0x1_0000_0000 (omega (arith, if2.true)),
      push-effect.ensures,
      popped-words.ensures,
    )

abbrev Large : Else-a-lt4294967296 → Type 0
Large c = 0x1_0000_0000 ≤ c.base_of.result + c.args.offset

-- The sum is no word, and the trap is then 31.
large : (c : Else-a-lt4294967296) → Large c
large c = omega (arith, c.if-a-lt4294967296.false)

large-is-31 : ((c : Else-a-lt4294967296) → Large c) → goal.returns
unfolding load_address_effect
large-is-31 past c =
    let base-of = c.base_of in
    let is-no-base = c.is_no_base in
    let a = c.args in
    λ copy. rw (
      ← is-no-base.ensures copy,
      c.if-is_no_base.false,
      ← base-of.ensures.0 copy,
      le-ltb (base-of.result + a.offset) 0x1_0000_0000 (past (goal.at.returns c).Else-a-lt4294967296),
    )

pub returns : goal.returns
returns = large-is-31 large
