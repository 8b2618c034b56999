-- The operands of an instruction, as 5.2.4 types them (its column "Param."), highest byte first.
use Rattle.std.specs.Prelude.{List, ℕ, ◌+◌, ◌*◌, ◌%◌}
use Rattle.std.specs.Int.{Width, w8, w16, w32}
use Rattle.std.proofs.Common.{to_z, of_z}
use Rattle.words.specs.Bytes.{byte_at, halfword_at, word_at}

-- 5.2.1: ".b" for byte operands, ".h" for halfword operands and ".w" for word operands.
pub data Size : Type 0 where
  b h w : Size

abbrev pub bytes_in : Size → ℕ
bytes_in b = 1
bytes_in h = 2
bytes_in w = 4

abbrev pub width_of : Size → Width
width_of b = w8
width_of h = w16
width_of w = w32

abbrev pub number_at : Size → List ℕ → ℕ → ℕ
number_at b = byte_at
number_at h = halfword_at
number_at w = word_at

-- The word that holds the signed number of a narrower one.
unfoldable pub extended : Width → ℕ → ℕ
extended width n = of_z w32 (to_z width n)

pub data Operands : Type 0 where
  -- no operand
  none : Operands
  -- 5.2.4.1: the operand is the last digit of the code
  digit : Operands
  -- one operand
  unsigned signed : Size → Operands
  -- two operands, a byte each
  bytes : Operands
  -- a halfword n and a table: `table fixed each` is fixed + each * n bytes long
  table : ℕ → ℕ → Operands

-- How many bytes an instruction has: a fixed number, and for a table so many more for each of n.
abbrev pub fixed_of : Operands → ℕ
fixed_of none = 1
fixed_of digit = 1
fixed_of (unsigned s) = 1 + bytes_in s
fixed_of (signed s) = 1 + bytes_in s
fixed_of bytes = 3
fixed_of (table fixed each) = fixed

abbrev pub each_of : Operands → ℕ
each_of none = 0
each_of digit = 0
each_of (unsigned s) = 0
each_of (signed s) = 0
each_of bytes = 0
each_of (table fixed each) = each

abbrev pub extent : Operands → List ℕ → ℕ → ℕ
extent operands code at = fixed_of operands + each_of operands * halfword_at code (at + 1)

-- The first operand as a word; 0 where there is none.
abbrev pub operand : Operands → List ℕ → ℕ → ℕ
operand none code at = 0
operand digit code at = byte_at code at % 16
operand (unsigned s) code at = number_at s code (at + 1)
operand (signed s) code at = extended (width_of s) (number_at s code (at + 1))
operand bytes code at = byte_at code (at + 1)
operand (table fixed each) code at = halfword_at code (at + 1)

-- The second operand; 0 where there is none.
abbrev pub operand2 : Operands → List ℕ → ℕ → ℕ
operand2 none code at = 0
operand2 digit code at = 0
operand2 (unsigned s) code at = 0
operand2 (signed s) code at = 0
operand2 bytes code at = byte_at code (at + 2)
operand2 (table fixed each) code at = 0
