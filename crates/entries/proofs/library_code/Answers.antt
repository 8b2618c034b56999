-- `library_code` meets its contract: the part that the first two words of the library's row tell.
use Rattle.entries.proofs.Rows.{library-code}
use Rattle.entries.proofs.library_code.Goals as goal

pub returns : goal.returns
returns c =
    let part = c.part in
    let row-word2 = c.row_word-size in
    let row_word = c.row_word-from in
    let a = c.args in
    λ lists.
    rw (part.ensures, row_word.ensures, row-word2.ensures, library-code a.libraries.now a.records.now lists a.l)
