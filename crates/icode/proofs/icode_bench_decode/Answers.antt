-- `icode_bench_decode` meets its contract: the length of `out`, then each case of what is decoded; its length fits a word.
use Prim.Native.Nat.{◌+◌, ◌≤◌}
use mathlib.Core.Path.{◌∙◌, sym, ap}
use mathlib.Core.List.{[], ◌∷◌}
use native.Mathlib.Omega.{arith}
use lib.ListN.{length, length-set}
use lib.Seq.{sets-eq}
use borrow.Author.Tests.{eq-eqb, ne_eqb}
use Rattle.icode.specs.Interface.{decode_reply}
use Rattle.report.specs.Report.{output}
use Rattle.icode.proofs.Reach.{reach}
use Rattle.icode.proofs.icode_bench_decode.Goals.{After-parts_of-parts}
use Rattle.icode.proofs.icode_bench_decode.Goals as goal

near :
    (c : After-parts_of-parts) →
    let at = c.args.at in
    let next = c.in-Ok.next in
    (at ≤ next) × (next ≤ at + 655366)
near c =
    let a = c.args in
    reach a.code.now (λ k. (c.type_inv.code k).fits) a.limit a.at
    (sym c.decode.ensures ∙ c.in-Ok.is)

pub returns-then-out-ne5 : goal.returns-then-out-ne5
unfolding decode_reply
returns-then-out-ne5 c = rw (ne_eqb (length c.args.out.now) 5 c.if-out-ne5.true)

pub bounds-out-1 : goal.bounds-out-1
bounds-out-1 c = simp length-set (omega arith)

pub bounds-out-2 : goal.bounds-out-2
bounds-out-2 c = simp length-set (omega arith)

pub bounds-out-3 : goal.bounds-out-3
bounds-out-3 c = simp length-set (omega arith)

pub overflow_sub-out : goal.overflow_sub-out
overflow_sub-out c = (near (goal.at.overflow_sub-out c).After-parts_of-parts).0

pub overflow_cast-out : goal.overflow_cast-out
overflow_cast-out c = omega (arith, near (goal.at.overflow_cast-out c).After-parts_of-parts)

pub bounds-out-4 : goal.bounds-out-4
bounds-out-4 c = simp length-set (omega arith)

pub returns-in-Err : goal.returns-in-Err
unfolding decode_reply
returns-in-Err c =
    rw (
      c.number.ensures,
      c.from.ensures,
      eq-eqb (length c.args.out.now) 5 c.if-out-ne5.false,
      ← c.decode.ensures,
      c.in-Err.is,
    )

pub returns-in-Ok : goal.returns-in-Ok
unfolding decode_reply
returns-in-Ok c =
    let out = c.args.out.now in
    rw (
      eq-eqb (length out) 5 c.if-out-ne5.false,
      ← c.decode.ensures,
      c.in-Ok.is,
      ← c.parts_of-parts.ensures,
    )
    (ap (output 0) (sets-eq (_ ∷ _ ∷ _ ∷ _ ∷ _ ∷ []) out 0 (omega (arith, c.if-out-ne5.false))))
