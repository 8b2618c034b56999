-- What each leaf does from T to T': done, its words being there, and then so; or nothing (Fast's `Became`).
use Rattle.std.specs.Prelude.{◌≡◌, Bool, true, ℕ, ◌+◌, ◌-◌, ◌<◌, ◌≤◌, length, set}
use Rattle.registers.specs.declared.Attributes.{Attributes}
use Rattle.registers.specs.declared.Registers.{Registers}
use Rattle.registers.specs.Memory.{read}
use Rattle.fast.specs.Fast.{Spot, spot, Became, plain, free, is_word, word_of}
use Rattle.operate.specs.Value.{Value}

-- The k-th word from the top of the stack, which is word 1.
abbrev pub top : Spot → ℕ → ℕ
top T k = read T.stack (T.height - k)

abbrev pub Pushes : Bool → (next x : ℕ) (T T' : Spot) → Type 0
Pushes b next x T T' =
    Became b (T.height < length T.stack) T (spot next (T.height + 1) T.memory (set T.stack T.height x)) T'

-- A word of memory, or two, below mp.
abbrev pub Loads : Bool → (next mp a : ℕ) (T T' : Spot) → Type 0
Loads b next mp a T T' =
    Became b ((a < mp) × (T.height < length T.stack)) T
    (spot next (T.height + 1) T.memory (set T.stack T.height (read T.memory a))) T'

abbrev pub LoadsTwo : Bool → (next mp a : ℕ) (T T' : Spot) → Type 0
LoadsTwo b next mp a T T' =
    Became b ((a + 1 < mp) × (T.height + 1 < length T.stack)) T
    (spot next (T.height + 2) T.memory
    (set (set T.stack T.height (read T.memory a)) (T.height + 1) (read T.memory (a + 1)))) T'

-- At an offset from the address on top, in its place.
abbrev pub LoadsPopped : Bool → (next mp n : ℕ) (T T' : Spot) → Type 0
LoadsPopped b next mp n T T' =
    Became b ((1 ≤ T.height) × (top T 1 + n < mp)) T
    (spot next T.height T.memory (set T.stack (T.height - 1) (read T.memory (top T 1 + n)))) T'

abbrev pub LoadsTwoPopped : Bool → (next mp n : ℕ) (T T' : Spot) → Type 0
LoadsTwoPopped b next mp n T T' =
    Became b ((1 ≤ T.height) × ((top T 1 + n + 1 < mp) × (T.height < length T.stack))) T
    (spot next (T.height + 1) T.memory
    (set (set T.stack (T.height - 1) (read T.memory (top T 1 + n))) T.height (read T.memory (top T 1 + n + 1)))) T'

abbrev pub AddressPopped : Bool → (next n : ℕ) (T T' : Spot) → Type 0
AddressPopped b next n T T' =
    Became b ((1 ≤ T.height) × (top T 1 + n < 0x1_0000_0000)) T
    (spot next T.height T.memory (set T.stack (T.height - 1) (top T 1 + n))) T'

-- To a word, or two, below mp that are never protected.
abbrev pub Stores : Bool → Attributes → (next fp mp a : ℕ) (T T' : Spot) → Type 0
Stores b A next fp mp a T T' =
    Became b ((1 ≤ T.height) × ((a < mp) × (plain A fp a ≡ true))) T
    (spot next (T.height - 1) (set T.memory a (top T 1)) T.stack) T'

abbrev pub StoresTwo : Bool → Attributes → (next fp mp a : ℕ) (T T' : Spot) → Type 0
StoresTwo b A next fp mp a T T' =
    Became b ((2 ≤ T.height) × ((a + 1 < mp) × ((plain A fp a ≡ true) × (plain A fp (a + 1) ≡ true)))) T
    (spot next (T.height - 2) (set (set T.memory a (top T 2)) (a + 1) (top T 1)) T.stack) T'

-- At an offset from the address below the words: to words that are not protected.
abbrev pub StoresPopped : Bool → Attributes → Registers → (next n : ℕ) (T T' : Spot) → Type 0
StoresPopped b A q next n T T' =
    Became b ((2 ≤ T.height) × ((top T 2 + n < q.mp) × (free A q T.memory (top T 2 + n) ≡ true))) T
    (spot next (T.height - 2) (set T.memory (top T 2 + n) (top T 1)) T.stack) T'

abbrev pub StoresTwoPopped : Bool → Attributes → Registers → (next n : ℕ) (T T' : Spot) → Type 0
StoresTwoPopped b A q next n T T' =
    Became b
    ((3 ≤ T.height) × ((top T 3 + n + 1 < q.mp)
    × ((free A q T.memory (top T 3 + n) ≡ true) × (free A q T.memory (top T 3 + n + 1) ≡ true)))) T
    (spot next (T.height - 3) (set (set T.memory (top T 3 + n) (top T 2)) (top T 3 + n + 1) (top T 1)) T.stack) T'

abbrev pub Drops : Bool → (next n : ℕ) (T T' : Spot) → Type 0
Drops b next n T T' = Became b (n ≤ T.height) T (spot next (T.height - n) T.memory T.stack) T'

abbrev pub Swaps : Bool → (next : ℕ) (T T' : Spot) → Type 0
Swaps b next T T' =
    Became b (2 ≤ T.height) T
    (spot next T.height T.memory (set (set T.stack (T.height - 2) (top T 1)) (T.height - 1) (top T 2))) T'

-- What an operation gives, where it is a word, in the place of its operands.
abbrev pub PutsOne : Bool → (next : ℕ) → Value → (T T' : Spot) → Type 0
PutsOne b next v T T' =
    Became b ((1 ≤ T.height) × (is_word v ≡ true)) T
    (spot next T.height T.memory (set T.stack (T.height - 1) (word_of v))) T'

abbrev pub PutsTwo : Bool → (next : ℕ) → Value → (T T' : Spot) → Type 0
PutsTwo b next v T T' =
    Became b ((2 ≤ T.height) × (is_word v ≡ true)) T
    (spot next (T.height - 1) T.memory (set T.stack (T.height - 2) (word_of v))) T'
