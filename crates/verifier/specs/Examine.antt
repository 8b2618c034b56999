-- The numbers 10 to 15 of one module as the code finds them, over a workspace of four halfwords for each code byte; proofs/
-- joins this with `verdict_of`.
use Rattle.std.specs.Prelude.{cond, List, ℕ, zero, suc, ◌+◌, ◌*◌, eqb, length, set, replicate}
use Rattle.entries.specs.Libraries.{Library}
use Rattle.faults.specs.Faults.{code_number}
use Rattle.layout.specs.Cut.{Cut, bad, cut, cut_of}
use Rattle.layout.specs.Workspace.{marks_in, mark_all}
use Rattle.stackmap.specs.Walk.{walk_of}
use Rattle.workspace.specs.Checking.{Checking, checking}
use Rattle.verifier.specs.Check.{Verdict, refuted, walked, subject_of}
use Rattle.verifier.specs.Handing.{Walking, walked_top}

-- One module's 10 to 15 in one go.
abbrev pub examined : List ℕ → List Library → List ℕ → Cut → Verdict
examined code libraries results (bad n) = refuted n
examined code libraries results (cut marks) =
    cond (eqb (code_number code libraries marks) 0) (walked (walk_of (subject_of code libraries results marks)))
    (refuted (code_number code libraries marks))

unfoldable pub examined_of : List ℕ → List Library → List ℕ → Verdict
examined_of code libraries results = examined code libraries results (cut_of code)

abbrev pub zeroed : List ℕ → List ℕ
zeroed w = replicate (length w) 0

-- The marks of n offsets from one on are taken away.
abbrev pub unmarked : ℕ → ℕ → List ℕ → List ℕ
unmarked at zero w = w
unmarked at (suc n) w = unmarked (at + 1) n (set w (4 * at + 3) 0)

abbrev pub after_walk : Walking → Checking
after_walk a = checking (cond a.accepts 0 15) a.workspace

-- A number ends the tests; without one they go on.
abbrev pub unless : List ℕ → ℕ → Checking → Checking
unless w number onward = cond (eqb number 0) onward (checking number w)

abbrev pub after_faults : List ℕ → List Library → List ℕ → List ℕ → ℕ → Checking
after_faults code libraries results w number = unless w number (after_walk (walked_top code libraries results w))

abbrev pub after_marks : List ℕ → List Library → List ℕ → List ℕ → ℕ → Checking
after_marks code libraries results w number =
    unless w number (after_faults code libraries results w (code_number code libraries (marks_in w (length code))))

unfoldable pub tested_top : List ℕ → List Library → List ℕ → List ℕ → Checking
tested_top code libraries results w =
    let a = mark_all code w in
    after_marks code libraries results a.workspace a.number

-- What is left where there is a number is zeros; without one the marks go.
abbrev pub settled : List ℕ → Checking → Checking
settled code a = cond (eqb a.number 0) (checking 0 (unmarked 0 (length code) a.workspace)) (checking a.number (zeroed a.workspace))

unfoldable pub examined_top : List ℕ → List Library → List ℕ → List ℕ → Checking
examined_top code libraries results w = settled code (tested_top code libraries results (zeroed w))
