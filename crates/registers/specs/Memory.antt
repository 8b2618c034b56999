-- Live and protected addresses, and the link words of active calls.
use Rattle.std.specs.Prelude.{Bool, true, false, cond, ◌&&◌, ◌||◌, List, ℕ, zero, suc, ◌+◌, ◌-◌, eqb, leb, ltb, get_or}
use Rattle.registers.specs.declared.Registers.{Registers}
use Rattle.registers.specs.Modules.{Modules, is_fixed, is_base}

-- The word at a place; 0 past the end.
abbrev pub read : List ℕ → ℕ → ℕ
read m a = get_or m a 0

-- n words from a on are live. 01: "An address is live when below MP"; "An address sum past 32 bits is not live": MP is a word;
-- "For two words both must be live".
unfoldable pub live : Registers → ℕ → ℕ → Bool
live q a n = leb (a + n) q.mp

-- The manual's CALL and CALL_E save FP, the dynamic link, two words below the new FP, and the return address one below it.
abbrev pub saved_fp : List ℕ → ℕ → ℕ
saved_fp m fp = read m (fp - 2)

abbrev pub return_word : List ℕ → ℕ → ℕ
return_word m fp = read m (fp - 1)

-- A word as a signed number is above 0.
unfoldable pub above_zero : ℕ → Bool
above_zero x = ltb 0 x && ltb x 0x8000_0000

-- A word as a signed number, negated.
unfoldable pub negated : ℕ → ℕ
negated x = cond (eqb x 0) 0 (0x1_0000_0000 - x)

-- 02, K1: "An external call has three link words and a negative return address"; "external links, those whose return word is not
-- above 0 as a signed number". A local call has two.
abbrev pub is_local : List ℕ → ℕ → Bool
is_local m fp = above_zero (return_word m fp)

unfoldable pub link_words : List ℕ → ℕ → ℕ
link_words m fp = cond (is_local m fp) 2 3

-- CALL_E saves GP, the global link, below the other two.
abbrev pub global_link : List ℕ → ℕ → ℕ
global_link m fp = read m (fp - 3)

-- a is one of the link words of one of the n active calls, the last one's frame at fp.
abbrev pub is_link : List ℕ → ℕ → ℕ → ℕ → Bool
is_link m fp zero a = false
is_link m fp (suc n) a = (leb fp (a + link_words m fp) && ltb a fp) || is_link m (saved_fp m fp) n a

-- "following the saved FP that many times, each at least 2 lower", an external link's "at least 3 lower", ends at `start`.
abbrev pub chained : List ℕ → ℕ → ℕ → ℕ → Bool
chained m start fp zero = eqb fp start
chained m start fp (suc n) = leb (saved_fp m fp + link_words m fp) fp && chained m start (saved_fp m fp) n

-- "each global link point[s] at a module's globals".
abbrev pub link_based : Modules → List ℕ → ℕ → Bool
link_based Ms m fp = is_local m fp || is_base Ms (global_link m fp)

abbrev pub links_based : Modules → List ℕ → ℕ → ℕ → Bool
links_based Ms m fp zero = true
links_based Ms m fp (suc n) = link_based Ms m fp && links_based Ms m (saved_fp m fp) n

-- 01: "Header words, constants and the link words of active calls are protected: read, never stored to."
unfoldable pub protects : Modules → Registers → List ℕ → ℕ → Bool
protects Ms q m a = is_fixed 0 Ms a || is_link m q.fp q.calls a
