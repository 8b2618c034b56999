-- A page is its lines, one after the other, and is not long: no number has more than ten digits, a run ends only on a record of
-- at most 1,024 globals with a stack of at most 1,024 words, and it leaves the stack as long as it was.
use mathlib.Core.List.{List, [], ◌++◌}
use mathlib.Core.Path.{◌≡◌, refl, ◌∙◌}
use Prim.Native.Nat.{ℕ, zero, suc, ◌+◌, ◌*◌, ◌≤◌}
use native.Mathlib.Omega.{arith}
use borrow.Author.Tests.{eqb-true}
use lib.Dec.{eqb}
use lib.ListN.{length, take, drop, length-append, length-take, length-drop}
use Rattle.words.proofs.Tests.{either, by-test}
use Rattle.header.specs.Header.{header_of}
use Rattle.source.specs.Source.{line_at}
use Rattle.header.specs.declared.Header.{Header}
use Rattle.header.specs.Header.{code_of}
use Rattle.record.proofs.Sound.{sound-sizes}
use Rattle.module_set.specs.Members.{single}
use Rattle.relocation.proofs.Sound.{set_sound}
use Rattle.registers.specs.Modules.{Modules, header_words}
use Rattle.registers.specs.Program.{program_at, running}
use Rattle.registers.specs.State.{State, state}
use Rattle.state.proofs.Fitting.{fit_parts}
use Rattle.load.specs.Loaded.{Loaded}
use Rattle.std.specs.Prelude.{Err, Ok}
use Rattle.load.specs.Modules.{modules_of}
use Rattle.load.specs.Load.{load_of}
use Rattle.step.specs.declared.Outcome.{Outcome}
use Rattle.step.specs.declared.Outcome.TheVariants.{Went, Finished, Trapped}
use Rattle.step.specs.Step.{step_in}
use Rattle.invariant.proofs.Sizes.{stack-kept}
use Rattle.run.specs.Answer.{Answer}
use Rattle.std.specs.Prelude.{Err, Ok}
use Rattle.run.specs.declared.Ended.{Ended as Ending}
use Rattle.run.specs.Run.{Result, end_number, proceed, run_from, set_run, run_number, run_of}
use Rattle.run.proofs.Taking.{taken-parts}
use Rattle.verifier.specs.Check.{check_of}
use Rattle.joined.specs.Joined.{Joined, then_load, joined_of}
use Rattle.run_file.specs.RunFile.{results_of, parameters_of, budget_of, memory_words, stack_words, record_of, well_formed}
use Rattle.text.specs.Text.{decimal, check_text, end_text, at_text, line_text, steps_text, newline, words_text, list_line, numbered}
use Rattle.text.specs.Text.{check_line, end_line, Wrote}
use Rattle.text.proofs.Writing.{wrote_then, decimal-short, words-short}
use Rattle.report.specs.Report.{ended_text, answer_text, zeros, text_of, output, printed}
use Rattle.report.specs.Pages.{PagesFit}
use Rattle.report.proofs.Printing.{printed-whole}

numbered-short : (text : List ℕ) (n : ℕ) (rest : List ℕ) → length (numbered text n ++ rest) ≤ length text + 10 + length rest
unfolding numbered
numbered-short text n rest = omega (arith, decimal-short n, length-append text (decimal n), length-append (numbered text n) rest)

check-short : (n : ℕ) → length (check_line n) ≤ 17
unfolding check_line
check-short n = numbered-short check_text n newline

end_short : (end place line steps : ℕ) → length (end_line end place line steps) ≤ 62
unfolding end_line
end_short end place line steps =
    let last = numbered steps_text steps ++ newline in
    let second = numbered line_text line ++ last in
    omega (
      arith,
      numbered-short end_text end (numbered at_text place ++ second),
      numbered-short at_text place second,
      numbered-short line_text line last,
      numbered-short steps_text steps newline,
    )

list_short : (letter : ℕ) (xs : List ℕ) → length (list_line letter xs) ≤ 2 + 11 * length xs
unfolding list_line
list_short letter xs = omega (arith, words-short xs, length-append (words_text xs) newline)

pub check-ends : (n : ℕ) {a b : List ℕ} {q : ℕ} → Wrote a 0 (check_line n) q b → q ≤ 17
check-ends n w = omega (arith, w.ends, check-short n)

pub end-ends : (end place line steps : ℕ) {a b : List ℕ} {at q : ℕ} → Wrote a at (end_line end place line steps) q b → at ≤ 17 → q ≤ 100
end-ends end place line steps w h = omega (arith, w.ends, end_short end place line steps)

pub list-ends : (letter : ℕ) (xs : List ℕ) {a b : List ℕ} {at q : ℕ} → Wrote a at (list_line letter xs) q b → at ≤ 100
    → length xs ≤ 65536 → q ≤ 1000000
list-ends letter xs w h l = omega (arith, w.ends, list_short letter xs)

pub part-short : {xs : List ℕ} (s : List ℕ) (n at : ℕ) → xs ≡ take n (drop at s) → length s ≤ 65536 → length xs ≤ 65536
part-short s n at e h = rw e (let z = length-take n (drop at s) in let y = length-drop at s in omega arith)

pub ended-page : (r : List ℕ) (e : Ending) (m s : List ℕ) {h : Header} → h ≡ header_of r → {ending line : ℕ} → ending ≡ end_number e.ending
    → line ≡ line_at r h e.registers.pc → {stack globals : List ℕ} → stack ≡ take e.registers.height (drop 0 s)
    → globals ≡ take h.globals (drop 3 m) → {a b c d f : List ℕ} {i j k n : ℕ} → Wrote a 0 (check_line 0) i b
    → Wrote b i (end_line ending e.registers.pc line e.steps) j c → Wrote c j (list_line 115 stack) k d
    → Wrote d k (list_line 103 globals) n f → Wrote a 0 (ended_text r e m s) n f
unfolding ended_text
ended-page r e m s h x l p q u v w y =
    rw (h) at (rw (x, l, p, q) at (wrote_then u (wrote_then v (wrote_then w y))))

-- A text that is there, and that 32,768 bytes hold.
abbrev Fits : List ℕ → Type 0
Fits t = (1 ≤ length t) × (length t ≤ 32768)

check-fits : (n : ℕ) → Fits (check_line n)
unfolding check_line
check-fits n =
    let e : length (check_line n) ≡ length (numbered check_text n) + 1 = length-append (numbered check_text n) newline in
    (omega arith, omega (arith, check-short n))

-- 17 bytes, 62, and twice 2 and 11 for each of 1,024 words: 22,611.
ended-fits : (r : List ℕ) (e : Ending) (m s : List ℕ) → (header_of r).globals ≤ 1024 → length s ≤ 1024 → Fits (ended_text r e m s)
unfolding ended_text
ended-fits r e m s g d =
    let stack = take e.registers.height s in
    let globals = take (header_of r).globals (drop header_words m) in
    let line = line_at r (header_of r) e.registers.pc in
    let end = end_line (end_number e.ending) e.registers.pc line e.steps in
    let a = length-append (check_line 0) (end ++ (list_line 115 stack ++ list_line 103 globals)) in
    let b = length-append end (list_line 115 stack ++ list_line 103 globals) in
    let c = length-append (list_line 115 stack) (list_line 103 globals) in
    let f = length-take e.registers.height s in
    let h = length-take (header_of r).globals (drop header_words m) in (
      omega (arith, a, (check-fits 0).0),
      omega (
        arith,
        a,
        b,
        c,
        f,
        h,
        check-short 0,
        end_short (end_number e.ending) e.registers.pc line e.steps,
        list_short 115 stack,
        list_short 103 globals,
      ),
    )

run-keeps : (Ms : Modules) (left count : ℕ) (S : State) → length (run_from Ms left count S).state.stack ≡ length S.stack
run-keeps Ms zero count S = refl
run-keeps Ms (suc left) count S =
    by (step_in Ms S).outcome (step_in Ms S).state (run-keeps Ms left (count + 1) (step_in Ms S).state)
    ∙ stack-kept (running Ms S.registers.gp) S
  where
    by : (o : Outcome) (T : State) → length (run_from Ms left (count + 1) T).state.stack ≡ length T.stack
        → length (proceed Ms (run_from Ms left (count + 1)) count o T).state.stack ≡ length T.stack
    by Went T e = e
    by Finished T e = refl
    by (Trapped t) T e = refl

answer-fits : (r : List ℕ) (a : Answer) (m s : List ℕ) → (header_of r).globals ≤ 1024 → length s ≤ 1024 → Fits (answer_text r a m s)
answer-fits r (Err n) m s g d = check-fits n
answer-fits r (Ok e) m s g d = ended-fits r e m s g d

-- What a run that is not refused says of the page's lists.
page-bounds : (r : List ℕ) (S : State) → run_number r S ≡ 0 → ((header_of r).globals ≤ 1024) × (length S.stack ≤ 1024)
page-bounds r S e =
    let One = single r [] in
    let t = taken-parts One (code_of r) 0 S e in (
      (sound-sizes r ((set_sound One t.sound).sound 0 (omega arith))).globals,
      (fit_parts (program_at (modules_of One) 0) S t.fit).own.deep,
    )

run_fits : (r : List ℕ) (budget : ℕ) (S : State)
    → Fits (answer_text r (run_of r budget S).answer (run_of r budget S).state.memory (run_of r budget S).state.stack)
unfolding set_run
run_fits r budget S =
    by-test (λ (a : Result). Fits (answer_text r a.answer a.state.memory a.state.stack)) (eqb (run_number r S) 0) _ _
    (λ t.
    let k = page-bounds r S (eqb-true (run_number r S) 0 t) in
    let Ms = modules_of (single r []) in
    let a = run_from Ms budget 0 S in
    answer-fits r a.answer a.state.memory a.state.stack k.0 (rw (run-keeps Ms budget 0 S) k.1))
    (λ t. check-fits (run_number r S))

joined-fits : (r results w ps : List ℕ) (budget : ℕ) (m s : List ℕ)
    → Fits (answer_text r (joined_of r results w ps budget m s).answer (joined_of r results w ps budget m s).memory
    (joined_of r results w ps budget m s).stack)
unfolding joined_of
joined-fits r results w ps budget m s =
    either (λ (j : Joined). Fits (answer_text r j.answer j.memory j.stack)) (eqb (check_of r results w).number 0) _ _
    (loaded (load_of r ps m s).answer (load_of r ps m s).memory) (check-fits (check_of r results w).number)
  where
    loaded : (l : Loaded) (m' : List ℕ)
        → Fits (answer_text r (then_load r budget (check_of r results w).workspace s l m').answer
        (then_load r budget (check_of r results w).workspace s l m').memory
        (then_load r budget (check_of r results w).workspace s l m').stack)
    loaded (Err n) m' = check-fits n
    loaded (Ok q) m' = run_fits r budget (state q m' s)

pub pages-fit : PagesFit
unfolding text_of
pages-fit f =
    either Fits (well_formed f) _ _
    (joined-fits (record_of f) (results_of f) (zeros 16384) (parameters_of f) (budget_of f)
    (zeros (memory_words f)) (zeros (stack_words f)))
    (check-fits _)

-- So a buffer of 32,768 bytes does not come back empty.
pub never-empty : (f out : List ℕ) {n : ℕ} {out' : List ℕ} → output n out' ≡ printed (text_of f) out → 32768 ≤ length out → 1 ≤ n
never-empty f out {n} e h =
    let p = pages-fit f in
    omega (arith, printed-whole (text_of f) out e (omega (arith, p.1)), p.0)
