-- The numbers of 01's table that end a run: code traps, 20 to 23, and data traps, 30 to 38.
use Rattle.std.specs.Prelude.{ℕ}
use Rattle.numbers.specs.declared.Trap.{Trap}
use Rattle.numbers.specs.declared.Trap.TheVariants.{Unserved, Outside, TooFewWords, Uncallable, ZeroDivisor, OutOfRange, NotLive}
use Rattle.numbers.specs.declared.Trap.TheVariants.{Protected, NotBoolean, MemoryFull, StackFull, CallsFull, BelowFrame}

abbrev pub trap_number : Trap → ℕ
trap_number Unserved = 20
trap_number Outside = 21
trap_number TooFewWords = 22
trap_number Uncallable = 23
trap_number ZeroDivisor = 30
trap_number OutOfRange = 31
trap_number NotLive = 32
trap_number Protected = 33
trap_number NotBoolean = 34
trap_number MemoryFull = 35
trap_number StackFull = 36
trap_number CallsFull = 37
trap_number BelowFrame = 38
