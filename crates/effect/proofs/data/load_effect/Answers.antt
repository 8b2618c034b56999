-- `effect::data::load_effect` meets its contract: 23 where there is no such library, 32 where the words are not live,
-- else they are read.
use native.Mathlib.Omega.{arith}
use Prim.Native.Nat.{◌+◌}
use mathlib.Core.Path.{◌≡◌}
use Rattle.shape.specs.Counts.{popped}
use Rattle.effect.specs.Data.{loaded, load_effect}
use Rattle.registers.proofs.Protected.{live_below}
use Rattle.effect.proofs.data.load_effect.Goals.{After-loaded, After-popped_words}
use Rattle.effect.proofs.data.load_effect.Goals as goal

popped-told : (c : After-popped_words) →
    c.popped_words.result ≡ popped c.args.base
popped-told c = c.popped_words.ensures

loaded-told : (c : After-loaded) →
    let a = c.args in
    c.loaded.result ≡ loaded a.m.now (c.base_of.result + a.offset) a.mode
loaded-told c = c.loaded.ensures

pub returns-then-is_no_base : goal.returns-then-is_no_base
unfolding load_effect
returns-then-is_no_base c =
    let if1 = c.if-is_no_base in
    let is-no-base = c.is_no_base in
    λ copy. rw (← is-no-base.ensures copy, if1.true)

pub returns-then-not-is_live : goal.returns-then-not-is_live
unfolding load_effect
returns-then-not-is_live c =
    let if2 = c.if-not-is_live in
    let is_live = c.is_live in
    let words-in = c.words_in in
    let base-of = c.base_of in
    let if1 = c.if-is_no_base in
    let is-no-base = c.is_no_base in
    λ copy.
    rw (
      ← is-no-base.ensures copy,
      if1.false,
      ← base-of.ensures.0 copy,
      ← words-in.ensures,
      ← is_live.ensures,
      if2.true,
    )

pub loaded-requires : goal.loaded-requires
loaded-requires c =
    let if2 = c.if-not-is_live in
    let is_live = c.is_live in
    let words-in = c.words_in in
    let base-of = c.base_of in
    let a = c.args in
    let live = if2.false in
    let at = base-of.result + a.offset in
    omega (arith, live_below a.q at words-in.result is_live.result is_live.ensures live)

pub returns : goal.returns
unfolding load_effect
returns c =
    let moved = c.moved in
    let if2 = c.if-not-is_live in
    let is_live = c.is_live in
    let words-in = c.words_in in
    let base-of = c.base_of in
    let if1 = c.if-is_no_base in
    let is-no-base = c.is_no_base in
    λ copy.
    rw (
      ← is-no-base.ensures copy,
      if1.false,
      ← base-of.ensures.0 copy,
      ← words-in.ensures,
      ← is_live.ensures,
      if2.false,
      popped-told (goal.at.returns c).After-popped_words,
      loaded-told (goal.at.returns c).After-loaded,
      moved.ensures,
    )
