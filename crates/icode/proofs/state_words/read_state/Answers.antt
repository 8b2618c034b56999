-- `icode::state_words::read_state` meets its contract, word by word.
use Rattle.registers.specs.State.{registers_in}
use Rattle.icode.proofs.state_words.read_state.Goals as goal

pub returns : goal.returns
unfolding registers_in
returns c =
    let word-at6 = c.word_at-6 in
    let word-at5 = c.word_at-5 in
    let word-at4 = c.word_at-4 in
    let word-at3 = c.word_at-3 in
    let word-at2 = c.word_at-2 in
    let word_at = c.word_at in
    rw (word_at.ensures, word-at2.ensures, word-at3.ensures, word-at4.ensures, word-at5.ensures, word-at6.ensures)
