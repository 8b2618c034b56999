-- `copy::agrees` meets its contract: no byte differs, for every set with this directory.
use Prim.Native.Nat.{ℕ}
use mathlib.Core.Bool.{true, false}
use mathlib.Core.Path.{◌≡◌, ◌∙◌, refl, sym}
use native.Mathlib.Omega.{arith}
use lib.Dec.{eqb}
use lib.ListN.{length}
use borrow.Author.Tests.{lt-leb, tests}
use Rattle.std.proofs.Common.{rules}
use Rattle.std.proofs.lemmas.Iterator.{cases_from_all, YieldsList-from_range}
use Rattle.words.specs.Bytes.{byte_at}
use Rattle.module_set.specs.Members.{members_of}
use Rattle.module_set.proofs.Counting.{all-told}
use Rattle.relocation.specs.Marks.{marked_byte}
use Rattle.relocation.proofs.Copying.{compared, too-short}
use Rattle.relocation.proofs.copy.agrees.Goals as goal

pub returns-then-code-part : goal.returns-then-code-part
returns-then-code-part c = λ records lists.
    let a = c.args in
    let n = length a.code.now in
    let byte = marked_byte (members_of records lists a.directory.now) a.r.now a.code.now a.entries.now in
    let test = λ (i : ℕ). eqb (byte i) (byte_at a.part.now i) in
    all-told test 0 n c.all.result
    (cases_from_all _ _ _ (λ (i : ℕ). test i ≡ true) (λ (i : ℕ). test i ≡ false) c.all.ensures.ran
    (YieldsList-from_range 0 n n refl (search rules)) (λ x q k. search (rules, tests)) (λ x q k. search (rules, tests)))
    ∙ sym (compared byte a.part.now n 0 (omega (arith, c.if-code-part.true)))

pub returns-else-code-part : goal.returns-else-code-part
returns-else-code-part c = λ records lists.
    let a = c.args in
    let byte = marked_byte (members_of records lists a.directory.now) a.r.now a.code.now a.entries.now in
    rw (lt-leb (length a.code.now) (length a.part.now) c.if-code-part.false)
    (sym (too-short byte a.part.now (length a.code.now) 0 (omega arith) (omega (arith, c.if-code-part.false))))
