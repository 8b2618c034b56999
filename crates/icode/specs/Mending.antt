-- Mending for C: what it answers, and what it leaves in the record's buffer, the list's and the counts.
use Rattle.std.specs.Prelude.{cond, List, ℕ, ltb, eqb, length}
use Rattle.record.specs.Number.{size_number}
use Rattle.mend.specs.Mend.{Mending}
use Rattle.mend.specs.Mend.{mend_of, mending_number, mending_values}
use Rattle.icode.specs.Interface.{laid}

pub record Reply : Type 0 where
  pub answer : ℕ
  pub out : List ℕ
  pub places : List ℕ
  pub counts : List ℕ

abbrev pub reply : ℕ → List ℕ → List ℕ → List ℕ → Reply
reply n out places counts = record { answer = n; out = out; places = places; counts = counts }

-- The number, and the values in the first words.
abbrev pub reply_of : Mending → List ℕ → List ℕ → List ℕ → Reply
reply_of a out places counts = reply (mending_number a) out places (laid (mending_values a) counts)

-- Numbers 1 to 3; then 8, for counts that have not two words too.
unfoldable pub mend_reply : List ℕ → List ℕ → List ℕ → List ℕ → Reply
mend_reply r out places counts =
    let a = mend_of r out places in
    cond (eqb (size_number r) 0)
    (cond (ltb (length counts) 2) (reply 8 out places counts) (reply_of a.answer a.out a.places counts))
    (reply (size_number r) out places counts)
