-- `run_file::read_parameters` meets its contract. The loop's invariant: up to the place reached the parameters are the words of
-- the file.
use Prim.Native.Nat.{◌+◌}
use mathlib.Core.Path.{◌∙◌, sym}
use native.Mathlib.Omega.{arith}
use lib.ListN.{length}
use Rattle.words.specs.Bytes.{word_at, words_from}
use Rattle.words.proofs.Series.{series-at, series-length, filled_next, filled-all}
use Rattle.run_file.proofs.read_parameters.Goals as goal

pub loop-i-preserved : goal.loop-i-preserved
loop-i-preserved c =
    let f = c.args.f.now in
    let from = 7 + c.results_count-from.result in
    let l = c.loop-i in
    let n = length c.args.parameters.now in
    let x = c.word_at in
    filled_next l.parameters (words_from f from n) l.i x.result l.invariant (omega arith)
    (l.auto.parameters ∙ sym (series-length (word_at f) 4 from n))
    (x.ensures ∙ sym (series-at (word_at f) 4 from n l.i (omega arith)))

pub returns : goal.returns
returns c =
    let f = c.args.f.now in
    let from = 7 + c.results_count-from.result in
    let l = c.loop-i in
    let n = length c.args.parameters.now in
    rw (← c.results_count-from.ensures)
    (filled-all l.parameters (words_from f from n) l.i l.invariant (omega arith)
    (l.auto.parameters ∙ sym (series-length (word_at f) 4 from n)))
