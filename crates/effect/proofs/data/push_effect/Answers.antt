-- `effect::data::push_effect` meets its contract: the word, and the place after the instruction.
use mathlib.Core.Path.{◌≡◌}
use Rattle.registers.specs.Changes.{moved}
use Rattle.effect.proofs.data.push_effect.Goals.{After-moved}
use Rattle.effect.proofs.data.push_effect.Goals as goal

abbrev Moves : After-moved → Type 0
Moves c = let a = c.args in c.moved.result ≡ moved a.q a.next

moves : (c : After-moved) → Moves c
moves c = c.moved.ensures

pushes-word : ((c : After-moved) → Moves c) → goal.returns
pushes-word told c = rw (told (goal.at.returns c).After-moved)

pub returns : goal.returns
returns = pushes-word moves
