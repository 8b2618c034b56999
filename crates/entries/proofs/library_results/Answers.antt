-- `library_results` meets its contract: the part that the last two words of the library's row tell.
use Rattle.entries.proofs.Rows.{library-results}
use Rattle.entries.proofs.library_results.Goals as goal

pub returns : goal.returns
returns c =
    let part = c.part in
    let row-word2 = c.row_word-size in
    let row_word = c.row_word-from in
    let a = c.args in
    λ records.
    rw (part.ensures, row_word.ensures, row-word2.ensures, library-results a.libraries.now records a.lists.now a.l)
