-- `control::rtn_effect` meets its contract: with no active call the finish, else the links below FP.
use mathlib.Core.Path.{◌≡◌}
use native.Mathlib.Omega.{arith}
use borrow.Author.Tests.{eq-eqb, ne_eqb}
use Rattle.control.specs.Control.{rtn_effect}
use Rattle.control.proofs.Laws.{framed}
use Rattle.control.proofs.rtn_effect.Goals.{Else-q-eq0}
use Rattle.control.proofs.rtn_effect.Goals as goal

pub returns-then-q-eq0 : goal.returns-then-q-eq0
unfolding rtn_effect
returns-then-q-eq0 c = rw (eq-eqb c.args.q.calls 0 c.if-q-eq0.true)

abbrev Called : Else-q-eq0 → Type 0
Called c = c.args.q.calls ≡ 0 → ⊥

called : (c : Else-q-eq0) → Called c
called c = c.if-q-eq0.false

pub returned-requires : goal.returned-requires
returned-requires c =
    let a = c.args in
    record {
      fp_bound = framed a.m.now a.frames a.q.fp a.q.calls c.requires
          (called (goal.at.returned-requires c).Else-q-eq0);
      le_calls = omega arith;
    }

goes-back : ((c : Else-q-eq0) → Called c) → goal.returns
unfolding rtn_effect
goes-back some c = rw (ne_eqb c.args.q.calls 0 (some (goal.at.returns c).Else-q-eq0), c.returned.ensures)

pub returns : goal.returns
returns = goes-back called
