-- `run_file::well_formed` meets its contract: each answer of the chain is that of all its tests so far.
use mathlib.Core.Bool.{Bool, ◌&&◌, and_assoc}
use mathlib.Core.Path.{◌≡◌, ◌∙◌, sym}
use lib.Dec.{eqb, leb}
use lib.ListN.{length}
use borrow.Author.Tests.{le-leb, lt-leb}
use Rattle.words.specs.Bytes.{halfword_at}
use Rattle.run_file.specs.RunFile.{named, record_at, well_formed}
use Rattle.run_file.proofs.well_formed.Goals.{Joined-halfword_at-eq1}
use Rattle.run_file.proofs.well_formed.Goals.{then-f-le8192, else-f-le8192, then-is_named, else-is_named}
use Rattle.run_file.proofs.well_formed.Goals.{then-halfword_at-eq1, else-halfword_at-eq1}
use Rattle.run_file.proofs.well_formed.Goals as goal

in_turn : (a b c d e : Bool) → (a && (b && (c && (d && e)))) ≡ ((((a && b) && c) && d) && e)
in_turn a b c d e =
    sym (and_assoc a b (c && (d && e))) ∙ (sym (and_assoc (a && b) c (d && e)) ∙ sym (and_assoc ((a && b) && c) d e))

two : (c : Joined-halfword_at-eq1) →
    let f = c.args.f.now in
    c.if-f-le8192.value ≡ (leb (length f) 8192 && named f)
two c =
    elim c.if-f-le8192.branch [
      | then-f-le8192 w ↦ rw (le-leb _ 8192 w.if-f-le8192.true) (w.value-is ∙ w.is_named.ensures)
      | else-f-le8192 w ↦ rw (lt-leb _ 8192 w.if-f-le8192.false) (w.value-is ∙ lt-leb _ 8192 w.if-f-le8192.false)
    ]

three : (c : Joined-halfword_at-eq1) →
    let f = c.args.f.now in
    c.if-is_named.value ≡ ((leb (length f) 8192 && named f) && eqb (halfword_at f 3) 1)
three c =
    elim c.if-is_named.branch [
      | then-is_named w ↦ rw (← two c, w.if-is_named.true, ← w.halfword_at.ensures) w.value-is
      | else-is_named w ↦ rw (← two c, w.if-is_named.false) (w.value-is ∙ w.if-is_named.false)
    ]

four : (c : Joined-halfword_at-eq1) →
    let f = c.args.f.now in
    c.if-halfword_at-eq1.value
    ≡ (((leb (length f) 8192 && named f) && eqb (halfword_at f 3) 1) && leb (record_at f) (length f))
four c =
    elim c.if-halfword_at-eq1.branch [
      | then-halfword_at-eq1 w ↦ rw (← three c, w.if-halfword_at-eq1.true, ← w.budget_at.ensures) w.value-is
      | else-halfword_at-eq1 w ↦ rw (← three c, w.if-halfword_at-eq1.false) (w.value-is ∙ w.if-halfword_at-eq1.false)
    ]

pub returns-then-budget_at-f : goal.returns-then-budget_at-f
unfolding well_formed
returns-then-budget_at-f c =
    let at = (goal.at.returns-then-budget_at-f c).Joined-halfword_at-eq1 in
    rw (in_turn, ← four at, c.if-budget_at-f.true, c.memory_words.ensures)

pub returns-else-budget_at-f : goal.returns-else-budget_at-f
unfolding well_formed
returns-else-budget_at-f c =
    let at = (goal.at.returns-else-budget_at-f c).Joined-halfword_at-eq1 in
    rw (in_turn, ← four at, c.if-budget_at-f.false)
