-- Answers as numbers, for C.
use Rattle.std.specs.Prelude.{cond, List, [], ◌∷◌, ℕ, ◌+◌, ◌*◌, ◌-◌, eqb, ltb, length, get_or}
use Rattle.words.specs.Lent.{over}
use Rattle.record.specs.Number.{Line}
use Rattle.record.specs.Number.{line_number, line_values}
use Rattle.opcode.specs.Decode.{decoded_number}
use Rattle.opcode.specs.Decode.{Decoded}
use Rattle.opcode.specs.declared.DecodeError.TheVariants.{Unserved, Past}
use Rattle.std.specs.Prelude.{Err, Ok}
use Rattle.report.specs.Report.{Output, output}
use Rattle.mnemonic.specs.Mnemonic.{parts_of}

-- Values in the first elements of what is lent; those behind them stay.
abbrev pub laid : List ℕ → List ℕ → List ℕ
laid values out = over values out

-- The number that refuses the record in the upper 32 bits; or 0 there, and the line, the last of the values, in the lower ones.
abbrev pub line_code : Line → ℕ
line_code a = line_number a * 0x1_0000_0000 + get_or (line_values a) 3 0

-- The number that refuses the record, which has no values; or 8 where there is no room for the values; or 0 and the values.
unfoldable pub span_reply : Line → List ℕ → Output
span_reply a out =
    cond (ltb (length out) (length (line_values a))) (output 8 out) (output (line_number a) (laid (line_values a) out))

-- The number of an instruction's mnemonic, its mode, its operands, and its length in bytes, a prefix counted in.
abbrev pub decoded_values : Decoded → ℕ → List ℕ
decoded_values (Err e) at = []
decoded_values (Ok (i, next)) at =
    let p = parts_of i in
    p.number ∷ p.mode ∷ p.operand ∷ p.second ∷ (next - at) ∷ []

-- First 8, where `out` has not five words; then 10 for an unserved instruction, 11 for one that runs past the limit, or 0 and the
-- values.
unfoldable pub decode_reply : Decoded → ℕ → List ℕ → Output
decode_reply d at out = cond (eqb (length out) 5) (output (decoded_number d) (laid (decoded_values d at) out)) (output 8 out)
