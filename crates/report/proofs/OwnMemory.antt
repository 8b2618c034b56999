-- Over zeros, what the code prints is what the definition does: the part of a larger memory is as many zeros, and a stack of over 1,024
-- words, which the code does not have, is the load's 8 once the check has accepted.
use mathlib.Core.Bool.{Bool, true, false, ◌&&◌, and-false}
use mathlib.Core.List.{List, [], ◌∷◌}
use mathlib.Core.Path.{◌≡◌, refl, sym, ◌∙◌, ap}
use Prim.Native.Nat.{ℕ, zero, suc, ◌≤◌, ◌<◌}
use native.Mathlib.Omega.{arith}
use borrow.Author.Tests.{leb-true, leb-false, lt-leb}
use lib.Dec.{leb, eqb-suc-zero}
use lib.ListN.{length, take, length-replicate}
use Rattle.header.specs.Header.{code_of}
use Rattle.module_set.specs.Members.{single}
use Rattle.relocation.specs.Relocation.{set_number, copy_of}
use Rattle.registers.specs.Modules.{module_at, frames_start}
use Rattle.state.specs.Fits.{sizes_taken}
use Rattle.load.specs.Modules.{modules_of}
use Rattle.load.specs.Load.{Loading, load_of}
use Rattle.load.proofs.Loading.{room, load-short}
use Rattle.std.specs.Prelude.{Err}
use Rattle.verifier.specs.Check.{check_of}
use Rattle.verifier.proofs.Accepting.{Answers, early, late, answers}
use Rattle.joined.specs.Joined.{Joined, joined_of}
use Rattle.joined.proofs.Alone.{number_same}
use Rattle.text.specs.Text.{check_line}
use Rattle.run_file.specs.RunFile.{results_of, parameters_of, budget_of, memory_words, stack_words, record_of, well_formed}
use Rattle.report.specs.Report.{answer_text, output, printed, zeros, text_of}
use Rattle.report.specs.Buffers.{ran_page, part_page, page_of, or_eight, Leaving, leaving, report_of}
use Rattle.report.proofs.Reporting.{memory-fits}

take-zeros : (k n : ℕ) → k ≤ n → take k (zeros n) ≡ zeros k
take-zeros zero n h = refl
take-zeros (suc k) zero h = absurd (omega arith)
take-zeros (suc k) (suc n) h = ap (λ (l : List ℕ). 0 ∷ l) (take-zeros k n (omega arith))

accepted-sound : (r results w : List ℕ) → (check_of r results w).number ≡ 0 → set_number (single r []) ≡ 0
accepted-sound r results w e = sym (number_same r results) ∙ by (answers (single r results) 0 w)
  where
    by : Answers (single r results) 0 w → set_number (single r results) ≡ 0
    by (early n f g) = let z : suc n ≡ 0 = rw g at e in absurd (omega arith)
    by (late l g) = l.linkable.numberless

none-holds : (a b c d : Bool) → (a && (b && (c && (d && false)))) ≡ false
none-holds true true true d = and-false d
none-holds true true false d = refl
none-holds true false c d = refl
none-holds false b c d = refl

-- 8: "stack over 1,024".
too-deep : (r ps m s : List ℕ) → set_number (single r []) ≡ 0 → 1024 < length s → (load_of r ps m s).answer ≡ Err 8
unfolding sizes_taken
too-deep r ps m s e h =
    let S = single r [] in
    let a = leb (length ps) (module_at (modules_of S) 0).globals in
    let b = leb (length (copy_of S)) (length (code_of r)) in
    let short : room S ps (code_of r) m s ≡ false =
    rw (lt-leb (length s) 1024 h) (none-holds a b (leb (frames_start (modules_of S)) (length m)) (leb (length m) 16384)) in
    ap (λ (l : Loading). l.answer) (sym (load-short S ps (code_of r) m s e short))

module _ (r results ps w m s : List ℕ) (budget : ℕ) where
  abbrev answered : Joined → List ℕ
  answered j = answer_text r j.answer j.memory j.stack

  deep-answer : 1024 < length s → check_line (or_eight (check_of r results w).number) ≡ answered (joined_of r results w ps budget m s)
  unfolding joined_of
  deep-answer h = by (check_of r results w).number refl
    where
      by : (n : ℕ) → (check_of r results w).number ≡ n → check_line (or_eight (check_of r results w).number) ≡ answered (joined_of r results w ps budget m s)
      by zero g = rw (g, too-deep r ps m s (accepted-sound r results w g) h) refl
      by (suc n) g = rw (g, eqb-suc-zero n) refl

module _ (f : List ℕ) where
  malformed-text : well_formed f ≡ false → check_line 16 ≡ text_of f
  unfolding text_of
  malformed-text e = rw e refl

  shallow-text : well_formed f ≡ true → stack_words f ≤ 1024
      → (part_page f (zeros 16384) (zeros 4096) (zeros 1024)).text ≡ text_of f
  unfolding part_page ran_page text_of
  shallow-text e h =
      rw (e, take-zeros (memory_words f) 4096 (memory-fits f e), take-zeros (stack_words f) 1024 h) refl

  deep-text : well_formed f ≡ true → 1024 < stack_words f
      → check_line (or_eight (check_of (record_of f) (results_of f) (zeros 16384)).number) ≡ text_of f
  unfolding text_of
  deep-text e h =
      let deep : 1024 < length (zeros (stack_words f)) = rw (length-replicate {A = ℕ} (stack_words f) 0) h in
      rw e (deep-answer (record_of f) (results_of f) (parameters_of f) (zeros 16384) (zeros (memory_words f)) (zeros (stack_words f)) (budget_of f) deep)

  pub own-text : (page_of f (zeros 16384) (zeros 4096) (zeros 1024)).text ≡ text_of f
  unfolding page_of
  own-text = by (well_formed f) refl (leb (stack_words f) 1024) refl
    where
      by : (b : Bool) → well_formed f ≡ b → (c : Bool) → leb (stack_words f) 1024 ≡ c → (page_of f (zeros 16384) (zeros 4096) (zeros 1024)).text ≡ text_of f
      by false e c g = rw e (malformed-text e)
      by true e true g = rw (e, g) (shallow-text e (leb-true (stack_words f) 1024 g))
      by true e false g = rw (e, g) (deep-text e (leb-false (stack_words f) 1024 g))

-- What is read of a report over memory and stack of its own.
pub report-prints : (f out : List ℕ) {n : ℕ} {out' w' m' s' : List ℕ} → leaving n out' w' m' s' ≡ report_of f (zeros 16384) (zeros 4096) (zeros 1024) out
    → output n out' ≡ printed (text_of f) out
unfolding report_of
report-prints f out e =
    ap (λ (x : Leaving). output x.answer x.out) e ∙ ap (λ (t : List ℕ). output (printed t out).answer (printed t out).out) (own-text f)
