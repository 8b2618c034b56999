-- 01: "Distances count from the instruction's own first byte."
use Rattle.std.specs.Prelude.{ℕ, ◌+◌, ◌%◌}

-- The place at a distance, d being the word of a signed or an unsigned one: a sum modulo 2^32. A place before the code is then
-- above every code size.
abbrev pub place_at : ℕ → ℕ → ℕ
place_at at d = (at + d) % 0x1_0000_0000
