-- Printed text, in bytes: numbers in decimal, words between spaces, each line ended by one newline.
use Rattle.std.specs.Prelude.{cond, List, [], ◌∷◌, ◌++◌, ℕ, zero, suc, ◌+◌, ◌*◌, ◌/◌, ◌%◌, ◌≡◌, ltb, length}
use Rattle.std.proofs.lemmas.List.Edits.{sets}

-- 10 to the power k.
abbrev pub power : ℕ → ℕ
power zero = 1
power (suc k) = 10 * power k

-- The last k decimal digits of a number, the highest first; '0' is 48.
abbrev pub digits : ℕ → ℕ → List ℕ
digits zero n = []
digits (suc k) n = (48 + n / power k % 10) ∷ digits k n

-- How many digits a 32-bit number has.
unfoldable pub width : ℕ → ℕ
width n =
    cond (ltb n 10) 1
    (cond (ltb n 100) 2
    (cond (ltb n 1000) 3
    (cond (ltb n 10000) 4
    (cond (ltb n 100000) 5
    (cond (ltb n 1000000) 6
    (cond (ltb n 10000000) 7
    (cond (ltb n 100000000) 8
    (cond (ltb n 1000000000) 9 10))))))))

unfoldable pub decimal : ℕ → List ℕ
decimal n = digits (width n) n

abbrev pub check_text : List ℕ
check_text = 99 ∷ 104 ∷ 101 ∷ 99 ∷ 107 ∷ 32 ∷ []  -- "check "

abbrev pub end_text : List ℕ
end_text = 101 ∷ 110 ∷ 100 ∷ 32 ∷ []  -- "end "

abbrev pub at_text : List ℕ
at_text = 32 ∷ 97 ∷ 116 ∷ 32 ∷ []  -- " at "

abbrev pub line_text : List ℕ
line_text = 32 ∷ 108 ∷ 105 ∷ 110 ∷ 101 ∷ 32 ∷ []  -- " line "

abbrev pub steps_text : List ℕ
steps_text = 32 ∷ 115 ∷ 116 ∷ 101 ∷ 112 ∷ 115 ∷ 32 ∷ []  -- " steps "

abbrev pub newline : List ℕ
newline = 10 ∷ []

-- Each word behind a space.
abbrev pub words_text : List ℕ → List ℕ
words_text [] = []
words_text (x ∷ xs) = 32 ∷ (decimal x ++ words_text xs)

-- A letter and words: "a list without words is its letter alone".
unfoldable pub list_line : ℕ → List ℕ → List ℕ
list_line letter xs = letter ∷ (words_text xs ++ newline)

-- A number behind its text.
unfoldable pub numbered : List ℕ → ℕ → List ℕ
numbered text n = text ++ decimal n

unfoldable pub check_line : ℕ → List ℕ
check_line n = numbered check_text n ++ newline

-- An end, its place and line, and the completed steps.
unfoldable pub end_line : ℕ → ℕ → ℕ → ℕ → List ℕ
end_line end place line steps =
    numbered end_text end ++ (numbered at_text place ++ (numbered line_text line ++ (numbered steps_text steps ++ newline)))

-- A text written from a place on, as far as there is room, and the place behind it.
pub record Wrote (before : List ℕ) (at : ℕ) (text : List ℕ) (next : ℕ) (after : List ℕ) : Type 0 where
  pub ends : next ≡ at + length text
  pub leaves : after ≡ sets before at text
