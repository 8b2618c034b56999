-- What check, load and run answer and leave is what the page shows, with the rest of memory and stack beside it: each definition is
-- opened once, and the rest is projections.
use mathlib.Core.Bool.{true, false, ◌&&◌, and-eq-true_iff}
use mathlib.Core.List.{List, ◌++◌}
use mathlib.Core.Path.{◌≡◌, refl, ◌∙◌, ap}
use Prim.Native.Nat.{ℕ, ◌+◌, ◌≤◌, ◌<◌}
use native.Mathlib.Omega.{arith}
use borrow.Author.Tests.{le-leb, lt-leb, leb-true}
use lib.Dec.{eqb, leb}
use lib.ListN.{length, take, drop}
use Rattle.words.specs.Bytes.{Bytes, word_at, halfword_at, words_from}
use Rattle.run.specs.Answer.{Answer}
use Rattle.joined.specs.Joined.{joined, joined_of}
use Rattle.verifier.specs.Check.{check_of}
use Rattle.workspace.specs.Checking.{checking}
use Rattle.text.specs.Text.{check_line}
use Rattle.run_file.specs.RunFile.{results_count, parameters_count, record_at, named, results_of, parameters_of, budget_of, memory_words}
use Rattle.run_file.specs.RunFile.{stack_words, record_of, well_formed}
use Rattle.words.proofs.Series.{series-part}
use Rattle.report.specs.Report.{answer_text, output, printed}
use Rattle.report.specs.Buffers.{ran_page, part_page, page_of, or_eight, Leaving, leaving, delivered, report_of}
use Rattle.report.proofs.Printing.{answer-fits}

pub ran : (f w₀ ps m₀ s₀ out₀ : List ℕ) {r results : List ℕ} {budget n : ℕ} {a : Answer} {w m s out : List ℕ} → r ≡ record_of f → results ≡ results_of f
    → budget ≡ budget_of f → joined a w m s ≡ joined_of r results w₀ ps budget m₀ s₀ → output n out ≡ printed (answer_text r a m s) out₀
    → leaving n out w m s ≡ delivered (ran_page f w₀ ps m₀ s₀) out₀
unfolding ran_page
ran f w₀ ps m₀ s₀ out₀ e g h j p = rw (← e, ← g, ← h, ← j, ← p) refl

-- As many parameters as the run file gives are the first of those read.
pub parameters-read : (f : List ℕ) {arr : List ℕ} (n : ℕ) {k : ℕ} → arr ≡ words_from f (7 + results_count f) n → k ≡ parameters_count f → k ≤ n
    → take k arr ≡ parameters_of f
unfolding parameters_of
parameters-read f n {k} e g h =
    rw (e) (series-part (word_at f) 4 (7 + results_count f) k n h ∙ ap (λ (i : ℕ). words_from f (7 + results_count f) i) g)

pub count_small : (f : List ℕ) {k : ℕ} → k ≡ parameters_count f → Bytes f → k ≤ 255
count_small f e bytes = let b = bytes (6 + results_count f) in omega arith

pub widens : (f w₀ m₀ s₀ out₀ : List ℕ) {ps : List ℕ} {k d n : ℕ} {out w m s : List ℕ} → ps ≡ parameters_of f → k ≡ memory_words f → d ≡ stack_words f
    → leaving n out w m s ≡ delivered (ran_page f w₀ ps (take k m₀) (take d s₀)) out₀
    → leaving n out w (m ++ drop k m₀) (s ++ drop d s₀) ≡ delivered (part_page f w₀ m₀ s₀) out₀
unfolding part_page
widens f w₀ m₀ s₀ out₀ {k = k} {d = d} e g h l =
    rw (← e, ← g, ← h)
    (ap (λ (x : Leaving). leaving x.answer x.out x.workspace (x.memory ++ drop k m₀) (x.stack ++ drop d s₀)) l)

pub memory-fits : (f : List ℕ) → well_formed f ≡ true → memory_words f ≤ 4096
unfolding well_formed
memory-fits f h =
    let past = leb (record_at f) (length f) in
    let fits = leb (memory_words f) 4096 in
    let a = (and-eq-true_iff (leb (length f) 8192) (named f && (eqb (halfword_at f 3) 1 && (past && fits)))).0 h in
    let b = (and-eq-true_iff (named f) (eqb (halfword_at f 3) 1 && (past && fits))).0 a.1 in
    let c = (and-eq-true_iff (eqb (halfword_at f 3) 1) (past && fits)).0 b.1 in
    leb-true (memory_words f) 4096 ((and-eq-true_iff past fits).0 c.1).1

-- The three pages of a run file.
pub malformed : (f w m s out : List ℕ) {n : ℕ} {out' : List ℕ} → well_formed f ≡ false → output n out' ≡ printed (check_line 16) out
    → leaving n out' w m s ≡ report_of f w m s out
unfolding report_of page_of
malformed f w m s out h p = rw (h, ← p) refl

pub shallow : (f w m s out : List ℕ) → well_formed f ≡ true → stack_words f ≤ 1024 → delivered (part_page f w m s) out ≡ report_of f w m s out
unfolding report_of page_of
shallow f w m s out h d = rw (h, le-leb (stack_words f) 1024 d) refl

pub deep : (f w m s out : List ℕ) {r results w' out' : List ℕ} {number n : ℕ} (k : ℕ) → well_formed f ≡ true → 1024 < stack_words f → r ≡ record_of f
    → results ≡ results_of f → checking number w' ≡ check_of r results w → k ≡ or_eight number
    → output n out' ≡ printed (check_line k) out
    → leaving n out' w' m s ≡ report_of f w m s out
unfolding report_of page_of
deep f w m s out k h d e g c l p = rw (h, lt-leb (stack_words f) 1024 d, ← e, ← g, ← c, ← l, ← p) refl

pub report-fits : (f w m s out : List ℕ) {n : ℕ} {out' w' m' s' : List ℕ} → leaving n out' w' m' s' ≡ report_of f w m s out → n ≤ length out
unfolding report_of
report-fits f w m s out {n} e =
    let same : n ≡ (printed (page_of f w m s).text out).answer = ap (λ (x : Leaving). x.answer) e in
    rw same (answer-fits (page_of f w m s).text out)
