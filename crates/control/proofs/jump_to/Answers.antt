-- `control::jump_to` meets its contract: the words go, and the place is the given one.
use mathlib.Core.Path.{◌≡◌}
use Rattle.registers.specs.Changes.{moved}
use Rattle.control.proofs.jump_to.Goals.{After-moved}
use Rattle.control.proofs.jump_to.Goals as goal

abbrev Moves : After-moved → Type 0
Moves c = let a = c.args in c.moved.result ≡ moved a.q a.place

moves : (c : After-moved) → Moves c
moves c = c.moved.ensures

words-go : ((c : After-moved) → Moves c) → goal.returns
words-go told c = rw (told (goal.at.returns c).After-moved)

pub returns : goal.returns
returns = words-go moves
