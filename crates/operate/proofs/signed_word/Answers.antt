-- `operate::signed_word` meets its contract: outside the two bounds a number is no word, and between them its bits are.
use mathlib.Core.Path.{◌≡◌}
use mir.Syntax.{w32, w64}
use mir.Val.{SFits, to_z, of_z}
use mir.Facts.{to_z-of_z}
use Rattle.operate.proofs.Fitting.{too-low, too-high, within, word-is}
use Rattle.operate.proofs.signed_word.Goals as goal

pub returns-then-z-ltminus2147483648 : goal.returns-then-z-ltminus2147483648
returns-then-z-ltminus2147483648 c = too-low _ (rw (to_z-of_z c.ranges.z) at c.if-z-ltminus2147483648.true)

pub returns-then-z-gt2147483647 : goal.returns-then-z-gt2147483647
returns-then-z-gt2147483647 c = too-high _ (rw (to_z-of_z c.ranges.z) at c.if-z-gt2147483647.true)

pub returns : goal.returns
returns c =
    let same : to_z w64 (of_z w64 c.args.z) ≡ c.args.z = to_z-of_z c.ranges.z in
    let fits : SFits w32 c.args.z = within _ (rw same at c.if-z-ltminus2147483648.false) (rw same at c.if-z-gt2147483647.false) in
    rw (c.cast_unsigned.ensures, same, to_z-of_z fits) (word-is _ fits)
