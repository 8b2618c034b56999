-- `module_set::records_number` meets its contract: the lowest number so far, and what is left of the records, decide.
use mathlib.Core.Path.{◌≡◌, ◌∙◌, refl, sym, ap}
use native.Mathlib.Omega.{arith}
use Rattle.std.specs.Prelude.{Result, Ok, Err}
use Rattle.std.specs.Result.{result_and}
use Rattle.numbers.specs.Number.{number}
use Rattle.numbers.specs.declared.Refusal.{Refusal}
use Rattle.module_set.proofs.Every.{passed_start, passed-next, passed_over, no-records}
use Rattle.module_set.proofs.records_number.Goals as goal

pub returns-then-directory-lt4 : goal.returns-then-directory-lt4
returns-then-directory-lt4 c =
    λ lists. sym (no-records c.args.records.now lists c.args.directory.now c.if-directory-lt4.true)

pub loop-row-init : goal.loop-row-init
loop-row-init c =
    let chunks = c.chunks_exact-row-items.ensures in
    let given = c.into_iter-row-iterator.ensures.into_iter_gives in
    record {
      words = rw (given, chunks.size);
      passed = rw (given, chunks.rest) (passed_start c.args.records.now c.args.directory.now);
    }

-- A refusal goes on without the header.
number-alone : {A B : Type 0} (r : Result A Refusal) (x : B) → number (result_and r (Ok x)) ≡ number r
number-alone (Ok v) x = refl
number-alone (Err e) x = refl

pub loop-row-preserved : goal.loop-row-preserved
loop-row-preserved c =
    let same = ap number c.and-answer.ensures ∙ (number-alone c.read.result _ ∙ c.read.ensures.number) in
    let step = c.in-Some.ensures.steps in
    let four = c.loop-row.invariant.words in
    record {
      words = step.0 ∙ four;
      passed =
          passed-next c.loop-row.invariant.passed (number c.and-answer.result) (number c.lower-lowest.result) c.min-passed.result
          c.in-Some.row.now _ _ _ step.1.0 (step.1.1 ∙ four) c.part.ensures same c.lower-lowest.ensures
          c.min-passed.ensures refl;
    }

pub returns : goal.returns
returns c = λ lists.
    let step = c.in-None.ensures.steps in
    passed_over c.loop-row.invariant.passed lists c.if-directory-lt4.false (omega (arith, step.1.0, c.loop-row.invariant.words))
