-- The values of a line lookup: there are four, and the last one is the line.
use mathlib.Core.Path.{◌≡◌, refl}
use Prim.Native.Nat.{ℕ, ◌*◌}
use native.Mathlib.Omega.{arith}
use lib.ListN.{length}
use Rattle.source.specs.declared.Span.{Span}
use Rattle.source.specs.Span.{lookup_values, lookup_line}
use Rattle.std.specs.Prelude.{Err, Ok, Option, Some, None}
use Rattle.icode.specs.Interface.{line_code}

pub four-values : (a : Option Span) → length (lookup_values a) ≡ 4
four-values (Some s) = refl
four-values None = refl

pub refused-code : (n : ℕ) → n * 0x1_0000_0000 ≡ line_code (Err n)
refused-code n = omega arith

pub line_code_lem : (a : Option Span) → lookup_line a ≡ line_code (Ok a)
line_code_lem (Some s) = omega arith
line_code_lem None = refl
