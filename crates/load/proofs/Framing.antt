-- The words of a data frame, by the part that they are in; and the data frames of a set one behind the other: what is left to
-- write or to count decides the whole.
use mathlib.Core.List.{List, [], ◌∷◌, ◌++◌, append_assoc, append-nil}
use mathlib.Core.Path.{◌≡◌, ◌∙◌, refl, sym, ap}
use Prim.Native.Nat.{ℕ, zero, suc, ◌+◌, ◌-◌, ◌*◌, ◌<◌, ◌≤◌}
use native.Mathlib.Numerals.{add-one}
use native.Mathlib.Omega.{arith}
use lib.ListN.{length, take, drop, replicate, length-append, length-replicate, get_or-append}
use lib.ListN.{get_or-eq_default, drop_of_length-le, length-take, length-drop}
use lib.Seq.{sets, drop-cons, drop-drop, sets-eq, length-sets, get_or-append-add}
use Rattle.words.specs.Bytes.{word_at, words_from}
use Rattle.words.proofs.Sets.{sets_behind}
use Rattle.words.proofs.Series.{series-at, series-length}
use Rattle.header.specs.declared.Header.{Header}
use Rattle.header.specs.Header.{header_of, constants_at}
use Rattle.module_set.specs.Members.{Members, no_member, member_at, single}
use Rattle.registers.specs.Memory.{read}
use Rattle.registers.specs.Modules.{module_at, data_end, frames_start}
use Rattle.registers.proofs.Protected.{data-rises}
use Rattle.load.specs.Modules.{modules_from, modules_of}
use Rattle.load.specs.Load.{constant_words, frame_words, frames_from, initial_data, loaded_memory}

abbrev pub zeros : ℕ → List ℕ
zeros n = replicate n 0

zeros-at : (n i : ℕ) → read (zeros n) i ≡ 0
zeros-at zero i = refl
zeros-at (suc n) zero = refl
zeros-at (suc n) (suc i) = zeros-at n i

pub zeros-behind : (xs : List ℕ) (n i : ℕ) → read (xs ++ zeros n) i ≡ read xs i
zeros-behind [] n i = zeros-at n i
zeros-behind (x ∷ xs) n zero = refl
zeros-behind (x ∷ xs) n (suc i) = zeros-behind xs n i

zeros-rest : (z n : ℕ) → drop n (zeros z) ≡ zeros (z - n)
zeros-rest z zero = let e : z - 0 ≡ z = omega arith in rw e
zeros-rest zero (suc n) = let e : 0 - suc n ≡ 0 = omega arith in rw e
zeros-rest (suc z) (suc n) = let e : suc z - suc n ≡ z - n = omega arith in rw e (zeros-rest z n)

-- An element behind the first part of a list.
behind : (xs ys : List ℕ) (k : ℕ) → length xs ≤ k → read (xs ++ ys) k ≡ read ys (k - length xs)
behind xs ys k h =
    let e : length xs + (k - length xs) ≡ k = omega arith in
    rw e at (get_or-append-add xs ys (k - length xs) 0)

-- The words of a data frame: header words, parameters, the other globals, constants, and 0 behind them.
module _ (k start : ℕ) (ps r : List ℕ) (h : Header) (e : h ≡ header_of r) where
  pub word_first : (i : ℕ) → i ≡ 0 → read (frame_words k start ps r) i ≡ 0
  unfolding frame_words
  word_first i q = rw q

  pub word-second : (i : ℕ) → i ≡ 1 → read (frame_words k start ps r) i ≡ k
  unfolding frame_words
  word-second i q = rw q

  pub word-third : (i : ℕ) → i ≡ 2 → read (frame_words k start ps r) i ≡ start + 3 + h.globals
  unfolding frame_words
  word-third i q = rw (q, e)

  later : (i : ℕ) → 3 ≤ i →
      read (frame_words k start ps r) i ≡ read (ps ++ (zeros (h.globals - length ps) ++ words_from r (constants_at h)
      h.constants)) (i - 3)
  unfolding frame_words constant_words
  later zero l = absurd (omega arith)
  later (suc zero) l = absurd (omega arith)
  later (suc (suc zero)) l = absurd (omega arith)
  later (suc (suc (suc i))) l = let q : suc (suc (suc i)) - 3 ≡ i = omega arith in rw (q, e)

  pub word-parameter : (i : ℕ) → 3 ≤ i → i - 3 < length ps → read (frame_words k start ps r) i ≡ read ps (i - 3)
  word-parameter i l j =
      later i l ∙ get_or-append ps (zeros (h.globals - length ps) ++ words_from r (constants_at h) h.constants) 0
      (i - 3) j

  past-parameters : (i : ℕ) → 3 ≤ i → length ps ≤ i - 3 →
      read (frame_words k start ps r) i ≡ read (zeros (h.globals - length ps) ++ words_from r (constants_at h) h.constants)
      (i - 3 - length ps)
  past-parameters i l j =
      later i l ∙ behind ps (zeros (h.globals - length ps) ++ words_from r (constants_at h) h.constants) (i - 3) j

  pub word-global : (i : ℕ) → 3 ≤ i → length ps ≤ i - 3 → i - 3 < h.globals → read (frame_words k start ps r) i ≡ 0
  word-global i l j g =
      past-parameters i l j
      ∙ get_or-append (zeros (h.globals - length ps)) (words_from r (constants_at h) h.constants) 0 (i - 3 - length ps)
      (rw (length-replicate {A = ℕ} (h.globals - length ps) 0) (omega arith))
      ∙ zeros-at (h.globals - length ps) (i - 3 - length ps)

  past-globals : (i : ℕ) → 3 ≤ i → length ps ≤ h.globals → h.globals ≤ i - 3 →
      read (frame_words k start ps r) i ≡ read (words_from r (constants_at h) h.constants) (i - 3 - h.globals)
  past-globals i l j g =
      let n : length (zeros (h.globals - length ps)) ≡ h.globals - length ps = length-replicate (h.globals - length ps) 0 in
      let q : i - 3 - length ps - (h.globals - length ps) ≡ i - 3 - h.globals = omega arith in
      past-parameters i l (omega arith)
      ∙ behind (zeros (h.globals - length ps)) (words_from r (constants_at h) h.constants) (i - 3 - length ps)
      (rw n (omega arith))
      ∙ rw (n, q)

  pub word-constant : (i : ℕ) → 3 ≤ i → length ps ≤ h.globals → h.globals ≤ i - 3 → i - 3 - h.globals < h.constants →
      read (frame_words k start ps r) i ≡ word_at r (constants_at h + 4 * (i - 3 - h.globals))
  word-constant i l j g c = past-globals i l j g ∙ series-at (word_at r) 4 (constants_at h) h.constants (i - 3 - h.globals) c

  pub word-past : (i : ℕ) → 3 ≤ i → length ps ≤ h.globals → h.globals ≤ i - 3 → h.constants ≤ i - 3 - h.globals →
      read (frame_words k start ps r) i ≡ 0
  word-past i l j g c =
      past-globals i l j g
      ∙ get_or-eq_default (words_from r (constants_at h) h.constants) 0 {n = i - 3 - h.globals}
      (rw (series-length (word_at r) 4 (constants_at h) h.constants) c)

pub frame-length : (k start : ℕ) (ps r : List ℕ) → length ps ≤ (header_of r).globals →
    length (frame_words k start ps r) ≡ 3 + (header_of r).globals + (header_of r).constants
unfolding frame_words constant_words
frame-length k start ps r h = simp (length-append, length-replicate, series-length) (omega arith)

pub frame-sized : (k start : ℕ) (ps r : List ℕ) (h : Header) → h ≡ header_of r → length ps ≤ h.globals →
    length (frame_words k start ps r) ≡ 3 + h.globals + h.constants
frame-sized k start ps r h e few = rw e (frame-length k start ps r (rw e at few))

-- The first of some members takes these parameters.
abbrev pub Taken : List ℕ → Members → Type 0
Taken ps [] = Unit {0}
Taken ps (M ∷ T) = length ps ≤ (header_of M.bytes).globals

pub taken_none : (T : Members) → Taken [] T
taken_none [] = tt
taken_none (M ∷ T) = omega arith

from_first : (S T : Members) (ps : List ℕ) → length ps ≤ (module_at (modules_from S T) 0).globals → Taken ps T
from_first S [] ps h = tt
from_first S (M ∷ T) ps h = h

pub taken-first : (S : Members) (ps : List ℕ) → length ps ≤ (module_at (modules_of S) 0).globals → Taken ps S
unfolding modules_of
taken-first S ps h = from_first S S ps h

pub frames-length : (S T : Members) (k start : ℕ) (ps : List ℕ) → Taken ps T →
    start + length (frames_from k start ps T) ≡ data_end start (modules_from S T)
frames-length S [] k start ps t = omega arith
frames-length S (M ∷ T) k start ps t =
    let own = frame_words k start ps M.bytes in
    let next = start + (3 + (header_of M.bytes).globals + (header_of M.bytes).constants) in
    let others = frames_from (k + 1) next [] T in
    let rest : next + length others ≡ data_end next (modules_from S T) = frames-length S T (k + 1) next [] (taken_none T) in
    sym (sym rest ∙ omega (arith, length-append own others, frame-length k start ps M.bytes t))

pub data-length : (S : Members) (ps : List ℕ) → Taken ps S → length (initial_data S ps) ≡ frames_start (modules_of S)
unfolding initial_data modules_of
data-length S ps t = omega (arith, frames-length S S 0 0 ps t)

-- Written over zeros.
pub written-zeros : (S : Members) (ps : List ℕ) (size : ℕ) → Taken ps S → frames_start (modules_of S) ≤ size →
    sets (zeros size) 0 (initial_data S ps) ≡ loaded_memory S ps size
unfolding loaded_memory
written-zeros S ps size t h =
    let I = initial_data S ps in
    let long : length I ≡ frames_start (modules_of S) = data-length S ps t in
    let z : 0 + length I ≡ frames_start (modules_of S) = omega arith in
    let room : 0 + length I ≤ length (zeros size) = omega (arith, length-replicate {A = ℕ} size 0) in
    sets-eq I (zeros size) 0 room ∙ rw (z, zeros-rest size (frames_start (modules_of S)))

-- The frames from member k on.
module _ (S : Members) (k : ℕ) (h : k < length S) where
  abbrev r : List ℕ
  r = (member_at S k).bytes

  abbrev size : ℕ
  size = 3 + (header_of r).globals + (header_of r).constants

  pub frames-turn : (start : ℕ) (ps : List ℕ) →
      frames_from k start ps (drop k S) ≡ frame_words k start ps r ++ frames_from (k + 1) (start + size) [] (drop (k + 1) S)
  frames-turn start ps = rw (drop-cons S k no_member h, add-one k)

  pub end-turn : (start : ℕ) →
      data_end start (modules_from S (drop k S)) ≡ data_end (start + size) (modules_from S (drop (k + 1) S))
  end-turn start = rw (drop-cons S k no_member h, add-one k)

  pub taken-turn : (ps : List ℕ) → Taken ps (drop k S) → length ps ≤ (header_of r).globals
  taken-turn ps t = rw (drop-cons S k no_member h) at t

-- Counted so far: `start` words.
pub record Reached (S : Members) (start k : ℕ) : Type 0 where
  pub rest : data_end start (modules_from S (drop k S)) ≡ frames_start (modules_of S)
  pub small : start ≤ 2051 * k

pub reached-start : (S : Members) → Reached S 0 0
unfolding modules_of
reached-start S = record { rest = refl; small = omega arith }

module _ {S : Members} {start k : ℕ} (c : Reached S start k) where
  pub reached-over : length S ≤ k → start ≡ frames_start (modules_of S)
  reached-over h = rw (drop_of_length-le S {i = k} h) at c.rest

  pub reached-next :
      k < length S → (r : List ℕ) → r ≡ (member_at S k).bytes → (n : ℕ) → n ≡ 3 + (header_of r).globals + (header_of r).constants →
      n ≤ 2051 → Reached S (start + n) (k + 1)
  reached-next h r e n s few =
      let long : n ≡ 3 + (header_of (member_at S k).bytes).globals + (header_of (member_at S k).bytes).constants = rw (← e) s in
      record { rest = rw long (sym (end-turn S k h start) ∙ c.rest); small = omega (arith, c.small) }

-- Written so far, up to `start` in `m`; the next module gets the parameters `given`.
pub record Framed (S : Members) (ps before m given : List ℕ) (start k : ℕ) : Type 0 where
  pub rest : sets m start (frames_from k start given (drop k S)) ≡ sets before 0 (initial_data S ps)
  pub room : data_end start (modules_from S (drop k S)) ≤ length m
  pub kept : length m ≡ length before
  pub taken : Taken given (drop k S)

pub framed-start : (S : Members) (ps m : List ℕ) → length ps ≤ (module_at (modules_of S) 0).globals →
    frames_start (modules_of S) ≤ length m → Framed S ps m m ps 0 0
unfolding modules_of initial_data
framed-start S ps m t h = record { rest = refl; room = h; kept = refl; taken = taken-first S ps t }

module _ {S : Members} {ps before m given : List ℕ} {start k : ℕ} (f : Framed S ps before m given start k) where
  pub framed-over : length S ≤ k → m ≡ sets before 0 (initial_data S ps)
  framed-over h = rw (drop_of_length-le S {i = k} h) at f.rest

  module _ (h : k < length S) (r : List ℕ) (e : r ≡ (member_at S k).bytes) (H : Header) (q : H ≡ header_of r) (n : ℕ)
      (s : n ≡ 3 + H.globals + H.constants) where
    own-taken : length given ≤ (header_of r).globals
    own-taken = rw e (taken-turn S k h given f.taken)

    own-size : n ≡ 3 + (header_of r).globals + (header_of r).constants
    own-size = rw (← q) s

    member-size : n ≡ 3 + (header_of (member_at S k).bytes).globals + (header_of (member_at S k).bytes).constants
    member-size = rw (← e) own-size

    pub framed-taken : length given ≤ H.globals
    framed-taken = rw q own-taken

    pub framed-room : start + n ≤ length m
    framed-room =
        let next = start + (3 + (header_of (member_at S k).bytes).globals + (header_of (member_at S k).bytes).constants) in
        omega (arith, member-size, f.room, end-turn S k h start, data-rises next (modules_from S (drop (k + 1) S)))

    pub framed-part : length (take (start + n - start) (drop start m)) ≡ 3 + H.globals + H.constants
    framed-part =
        omega (arith, s, framed-room, length-take (start + n - start) (drop start m), length-drop start m)

    pub framed-next :
        (part m' none : List ℕ) → part ≡ frame_words k start given r →
        m' ≡ take start m ++ (part ++ drop (start + n - start) (drop start m)) → none ≡ [] →
        Framed S ps before m' none (start + n) (k + 1)
    framed-next part m' none p w z =
        let own = frame_words k start given r in
        let others = frames_from (k + 1) (start + n) [] (drop (k + 1) S) in
        let long : length own ≡ n = frame-length k start given r own-taken ∙ sym own-size in
        let place : start + n ≡ start + length own = omega arith in
        let past : start + n - start ≡ n = omega arith in
        let stored : m' ≡ sets m start own =
        w ∙ rw (p, past, drop-drop n start m) (sym (sets-eq own m start (omega (arith, framed-room)) ∙ rw (← place)
        (append_assoc (take start m) own (drop (start + n) m)))) in
        let turn : frames_from k start given (drop k S) ≡ own ++ others = rw (e, member-size) (frames-turn S k h start given) in
        record {
          rest = rw (stored, z) (sets_behind m start (start + n) own others place ∙ (rw turn at f.rest));
          room = rw stored (omega (
            arith,
            f.room,
            ap (λ (i : ℕ). data_end (start + i) (modules_from S (drop (k + 1) S))) member-size,
            end-turn S k h start,
            length-sets m start own,
          ));
          kept = rw stored (length-sets m start own ∙ f.kept);
          taken = rw z (taken_none (drop (k + 1) S));
        }

-- A record by itself: its data frame, and zeros behind it.
pub alone-filled : (r ps : List ℕ) (size n : ℕ) (before part m' : List ℕ) → n ≡ 3 + (header_of r).globals + (header_of r).constants →
    before ≡ zeros size → part ≡ frame_words 0 0 ps r → m' ≡ part ++ drop n before → m' ≡ loaded_memory (single r []) ps size
unfolding loaded_memory initial_data modules_of
alone-filled r ps size n before part m' s b p q =
    let z : 0 + (3 + (header_of r).globals + (header_of r).constants) ≡ n = omega arith in
    q ∙ rw (p, b, z, append-nil (frame_words 0 0 ps r), zeros-rest size n)
