-- Run-and-report. 01: number 16 first, "printer and console check before they load"; "Any refusal, the load's too, prints one line,
-- "check" and its number."
use Rattle.std.specs.Prelude.{cond, List, ◌++◌, ℕ, leb, length, take, drop, replicate}
use Rattle.header.specs.Header.{header_of}
use Rattle.source.specs.Source.{line_at}
use Rattle.registers.specs.Modules.{header_words}
use Rattle.run.specs.Answer.{Answer}
use Rattle.std.specs.Prelude.{Err, Ok}
use Rattle.run.specs.declared.Ended.{Ended as Ending}
use Rattle.run.specs.Run.{end_number}
use Rattle.joined.specs.Joined.{joined_of}
use Rattle.run_file.specs.RunFile.{results_of, parameters_of, budget_of, memory_words, stack_words, record_of, well_formed}
use Rattle.text.specs.Text.{check_line, end_line, list_line}

-- The page of a run that ended: "Stack bottom first, words unsigned"; 's' is 115, 'g' 103.
unfoldable pub ended_text : List ℕ → Ending → List ℕ → List ℕ → List ℕ
ended_text r e m s =
    check_line 0
    ++ (end_line (end_number e.ending) e.registers.pc (line_at r (header_of r) e.registers.pc) e.steps
    ++ (list_line 115 (take e.registers.height s) ++ list_line 103 (take (header_of r).globals (drop header_words m))))

abbrev pub answer_text : List ℕ → Answer → List ℕ → List ℕ → List ℕ
answer_text r (Err n) m s = check_line n
answer_text r (Ok e) m s = ended_text r e m s

abbrev pub zeros : ℕ → List ℕ
zeros n = replicate n 0

-- What a run file prints: checked, loaded and run in a workspace, a memory and a stack of its own, "zeroed at the start".
unfoldable pub text_of : List ℕ → List ℕ
text_of f =
    let r = record_of f in
    let j = joined_of r (results_of f) (zeros 16384) (parameters_of f) (budget_of f) (zeros (memory_words f)) (zeros (stack_words f)) in
    cond (well_formed f) (answer_text r j.answer j.memory j.stack) (check_line 16)

-- A number answered, and what is left of the buffer lent for output.
pub record Output : Type 0 where
  pub answer : ℕ
  pub out : List ℕ

abbrev pub output : ℕ → List ℕ → Output
output n out = record { answer = n; out = out }

-- "answers the bytes written, or 0 for a buffer too short, which stays untouched".
unfoldable pub printed : List ℕ → List ℕ → Output
printed text out =
    cond (leb (length text) (length out)) (output (length text) (text ++ drop (length text) out)) (output 0 out)
