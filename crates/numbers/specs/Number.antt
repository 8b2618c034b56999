-- The numbers of 01's table that refuse, and 17 and 18 of 02 (K1); 4 is withdrawn.
use Rattle.std.specs.Prelude.{ℕ, Result, Ok, Err}
use Rattle.numbers.specs.declared.Refusal.{Refusal}
use Rattle.numbers.specs.declared.Refusal.TheVariants.{Short, Oversized, Length, Version, Sources, Entries, Room, Results, Unserved}
use Rattle.numbers.specs.declared.Refusal.TheVariants.{Past, Stray, Misplaced, Uncallable, Unmapped, RunFile, Linkage, Relocation, State}

abbrev pub number_of : Refusal → ℕ
number_of Short = 1
number_of Oversized = 2
number_of Length = 3
number_of Version = 5
number_of Sources = 6
number_of Entries = 7
number_of Room = 8
number_of Results = 9
number_of Unserved = 10
number_of Past = 11
number_of Stray = 12
number_of Misplaced = 13
number_of Uncallable = 14
number_of Unmapped = 15
number_of RunFile = 16
number_of Linkage = 17
number_of Relocation = 18
number_of State = 24

-- The number of an answer, 0 where nothing is refused.
abbrev pub number : {A : Type 0} → Result A Refusal → ℕ
number (Ok v) = 0
number (Err e) = number_of e

-- The answer with the number in the place of the refusal.
abbrev pub numbered : {A : Type 0} → Result A Refusal → Result A ℕ
numbered (Ok v) = Ok v
numbered (Err e) = Err (number_of e)
