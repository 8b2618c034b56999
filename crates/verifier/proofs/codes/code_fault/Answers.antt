-- The marks are those of the cut.
use mathlib.Core.Path.{refl}
use native.Mathlib.Omega.{arith}
use Rattle.numbers.proofs.Refusing.{no-number}
use Rattle.entries.specs.Listed.{listed}
use Rattle.verifier.proofs.Scratch.{marked-uncut, marked-fault}
use Rattle.verifier.proofs.codes.code_fault.Goals as goal

pub returns-in-Ok : goal.returns-in-Ok
returns-in-Ok c =
    let a = c.args in
    marked-fault a.code.now a.w.now c.requires.sound (omega (arith, c.requires.small)) 0 _ c.in-Ok.ensures (listed a.libraries) refl
    _ c.code_number.ensures

pub returns-in-Err : goal.returns-in-Err
returns-in-Err c =
    let a = c.args in
    marked-uncut a.code.now a.w.now c.requires.sound (omega (arith, c.requires.small)) _ _ c.in-Err.ensures (listed a.libraries)
    (no-number _)
