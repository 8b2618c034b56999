-- `state::state_fits` meets its contract: a state within its bounds has a chain of frames.
use mathlib.Core.Bool.{true≢false}
use mathlib.Core.Path.{◌∙◌, sym}
use Rattle.registers.specs.State.{state}
use Rattle.state.proofs.Fitting.{fitting}
use Rattle.state.proofs.state_fits.Goals.{then-is_bounded, else-is_bounded}
use Rattle.state.proofs.state_fits.Goals as goal

pub links_based-requires-clause-calls_value : goal.links_based-requires-clause-calls_value
links_based-requires-clause-calls_value c =
    let a = c.args in
    elim c.if-is_bounded.branch [
      | then-is_bounded w ↦
          (fitting a.attributes (state a.q a.memory.now a.stack.now) (sym c.is_bounded.ensures ∙ w.if-is_bounded.true)).links
      | else-is_bounded w ↦ absurd (true≢false (sym c.if-headers_kept.true ∙ w.value-is ∙ w.if-is_bounded.false))
    ]
