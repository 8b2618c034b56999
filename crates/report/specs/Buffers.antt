-- How the code holds a run: in a workspace, a memory and a stack that it is given, of which a run file uses a part. proofs/OwnMemory
-- joins this with `text_of`.
use Rattle.std.specs.Prelude.{cond, List, ◌++◌, ℕ, eqb, leb, take, drop}
use Rattle.verifier.specs.Check.{check_of}
use Rattle.workspace.specs.Checking.{Checking}
use Rattle.joined.specs.Joined.{joined_of}
use Rattle.run_file.specs.RunFile.{results_of, parameters_of, budget_of, memory_words, stack_words, record_of, well_formed}
use Rattle.text.specs.Text.{check_line}
use Rattle.report.specs.Report.{answer_text, printed}

-- The text that a run file prints, and what it leaves of workspace, memory and stack.
pub record Page : Type 0 where
  pub text : List ℕ
  pub workspace : List ℕ
  pub memory : List ℕ
  pub stack : List ℕ

abbrev pub page : List ℕ → List ℕ → List ℕ → List ℕ → Page
page t w m s = record { text = t; workspace = w; memory = m; stack = s }

-- With just the memory and the stack that it asks for, and the parameters that it gives.
unfoldable pub ran_page : (f w ps m s : List ℕ) → Page
ran_page f w ps m s =
    let r = record_of f in
    let j = joined_of r (results_of f) w ps (budget_of f) m s in
    page (answer_text r j.answer j.memory j.stack) j.workspace j.memory j.stack

-- The rest of memory and stack stays.
abbrev pub widened : Page → List ℕ → List ℕ → Page
widened p m s = page p.text p.workspace (p.memory ++ m) (p.stack ++ s)

unfoldable pub part_page : List ℕ → List ℕ → List ℕ → List ℕ → Page
part_page f w m s =
    widened (ran_page f w (parameters_of f) (take (memory_words f) m) (take (stack_words f) s))
    (drop (memory_words f) m)
    (drop (stack_words f) s)

-- A stack over 1,024 words is the load's 8, which stands behind the check's numbers.
abbrev pub or_eight : ℕ → ℕ
or_eight n = cond (eqb n 0) 8 n

abbrev pub refused_page : Checking → List ℕ → List ℕ → Page
refused_page c m s = page (check_line (or_eight c.number)) c.workspace m s

unfoldable pub page_of : List ℕ → List ℕ → List ℕ → List ℕ → Page
page_of f w m s =
    cond (well_formed f)
    (cond (leb (stack_words f) 1024) (part_page f w m s) (refused_page (check_of (record_of f) (results_of f) w) m s))
    (page (check_line 16) w m s)

-- What is answered, and what is left of everything borrowed.
pub record Leaving : Type 0 where
  pub answer : ℕ
  pub out : List ℕ
  pub workspace : List ℕ
  pub memory : List ℕ
  pub stack : List ℕ

abbrev pub leaving : (n : ℕ) (out w m s : List ℕ) → Leaving
leaving n out w m s = record { answer = n; out = out; workspace = w; memory = m; stack = s }

abbrev pub delivered : Page → List ℕ → Leaving
delivered p out =
    let r = printed p.text out in
    leaving r.answer r.out p.workspace p.memory p.stack

unfoldable pub report_of : (f w m s out : List ℕ) → Leaving
report_of f w m s out = delivered (page_of f w m s) out
