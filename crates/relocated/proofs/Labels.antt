-- The labels of the lists that an instruction hands on: those of its own list, and its own where it is ITER or a switch. By the
-- shapes.
use mathlib.Core.Bool.{Bool, true, false, cond}
use mathlib.Core.List.{List, [], ◌∷◌}
use mathlib.Core.Option.{Option, none, some}
use mathlib.Core.Path.{◌≡◌, refl, subst}
use Prim.Native.Nat.{ℕ, zero, suc}
use native.Mathlib.Omega.{arith}
use lib.Dec.{leb}
use Rattle.words.proofs.Tests.{either}
use Rattle.entries.specs.Libraries.{library_in}
use Rattle.operand.specs.Distance.{place_at}
use Rattle.shape.specs.declared.Shape.{Shape}
use Rattle.shape.specs.declared.Shape.TheVariants.{Straight, Pop, Jump, JumpC, JumpTF, Iter}
use Rattle.shape.specs.declared.Shape.TheVariants.{Next, Switch, Leave, Call, CallExternal, Enter, Rtn}
use Rattle.shape.specs.declared.Table.{Table}
use Rattle.successors.specs.Successors.{switch_targets}
use Rattle.stackmap.specs.Slots.{Slot, word, label, push_words, pop_words, pop_slots, is_words}
use Rattle.stackmap.specs.Ways.{Subject, Way, ◌gets◌, parameters_in, results_in, is_iter, is_switch, label_word, after, both}
use Rattle.stackmap.specs.Ways.{to_all, straight, next_out, leave_out, ways}
use Rattle.stackmap.specs.StackMap.{Among, here, there}

-- Every label of a list has an origin as asked.
pub data Labels (P : ℕ → Type 0) : List Slot → Type 0 where
  no_slot : Labels P []
  a_word : {l : List Slot} → Labels P l → Labels P (word ∷ l)
  a-label : {origin : ℕ} {l : List Slot} → P origin → Labels P l → Labels P (label origin ∷ l)

-- Every list that is handed on.
pub data Given (P : ℕ → Type 0) : List Way → Type 0 where
  given-none : Given P []
  given-one : {t : ℕ} {l : List Slot} {ws : List Way} → Labels P l → Given P ws → Given P (t gets l ∷ ws)

module _ (P : ℕ → Type 0) where
  pub given-among : {t : ℕ} {l : List Slot} {ws : List Way} → Given P ws → Among t l ws → Labels P l
  given-among given-none a = elim a [ ]
  given-among (given-one L G) here = L
  given-among (given-one L G) (there a) = given-among G a

  pub labels-pushed : (n : ℕ) (l : List Slot) → Labels P l → Labels P (push_words n l)
  labels-pushed zero l L = L
  labels-pushed (suc n) l L = a_word (labels-pushed n l L)

  labels-words : (n : ℕ) (l rest : List Slot) → pop_words n l ≡ some rest → Labels P l → Labels P rest
  labels-words zero l rest e L = let same : l ≡ rest = cc in subst (Labels P) same L
  labels-words (suc n) [] rest e L = let z : ◌≡◌ {A = ℕ} 0 1 = cc in absurd (omega arith)
  labels-words (suc n) (word ∷ l) rest e (a_word L) = labels-words n l rest e L
  labels-words (suc n) (label origin ∷ l) rest e L = let z : ◌≡◌ {A = ℕ} 0 1 = cc in absurd (omega arith)

  labels-slots : (n : ℕ) (l rest : List Slot) → pop_slots n l ≡ some rest → Labels P l → Labels P rest
  labels-slots zero l rest e L = let same : l ≡ rest = cc in subst (Labels P) same L
  labels-slots (suc n) [] rest e L = let z : ◌≡◌ {A = ℕ} 0 1 = cc in absurd (omega arith)
  labels-slots (suc n) (word ∷ l) rest e (a_word L) = labels-slots n l rest e L
  labels-slots (suc n) (label origin ∷ l) rest e (a-label p L) = labels-slots n l rest e L

  given-some : (ws out : List Way) → some ws ≡ some out → Given P ws → Given P out
  given-some ws out e G = let same : ws ≡ out = cc in subst (Given P) same G

  given-alone : (t : ℕ) (l : List Slot) → Labels P l → Given P (t gets l ∷ [])
  given-alone t l L = given-one L given-none

  given_both : (t u : ℕ) (l k : List Slot) → Labels P l → Labels P k → Given P (both (t gets l) (u gets k))
  given_both t u l k L K =
      either (Given P) (leb t u) _ _ (given-one L (given-one K given-none)) (given-one K (given-one L given-none))

  given-all : (ts : List ℕ) (l : List Slot) → Labels P l → Given P (to_all ts l)
  given-all [] l L = given-none
  given-all (t ∷ ts) l L = given-one L (given-all ts l L)

  given-after : (o : Option (List Slot)) (f : List Slot → List Way) (out : List Way)
      → ((rest : List Slot) → o ≡ some rest → Given P (f rest)) → after o f ≡ some out → Given P out
  given-after none f out G e = let z : ◌≡◌ {A = ℕ} 0 1 = cc in absurd (omega arith)
  given-after (some rest) f out G e = given-some (f rest) out e (G rest refl)

  given-if : (b : Bool) (o : Option (List Way)) (out : List Way) → (o ≡ some out → Given P out) → cond b o none ≡ some out
      → Given P out
  given-if true o out G e = G e
  given-if false o out G e = let z : ◌≡◌ {A = ℕ} 0 1 = cc in absurd (omega arith)

  given-straight : (next pops pushes : ℕ) (l : List Slot) (out : List Way) → Labels P l → straight next pops pushes l ≡ some out
      → Given P out
  given-straight next pops pushes l out L =
      given-after (pop_words pops l) (λ rest. next gets push_words pushes rest ∷ []) out
      (λ rest e. given-alone next (push_words pushes rest) (labels-pushed pushes rest (labels-words pops l rest e L)))

  given-next : (code : List ℕ) (next : ℕ) (l : List Slot) (out : List Way) → Labels P l → next_out code next l ≡ some out
      → Given P out
  given-next code next [] out L e = let z : ◌≡◌ {A = ℕ} 0 1 = cc in absurd (omega arith)
  given-next code next (word ∷ l) out L e = let z : ◌≡◌ {A = ℕ} 0 1 = cc in absurd (omega arith)
  given-next code next (label origin ∷ l) out (a-label p L) w =
      given-if (is_iter code origin) _ out
      (given-after (pop_words 4 l) (λ rest. both (next gets rest) (label_word code origin gets (label origin ∷ l))) out
      (λ rest e. given_both next (label_word code origin) rest (label origin ∷ l) (labels-words 4 l rest e L) (a-label p L))) w

  given-leave : (code : List ℕ) (l : List Slot) (out : List Way) → Labels P l → leave_out code l ≡ some out → Given P out
  given-leave code [] out L e = let z : ◌≡◌ {A = ℕ} 0 1 = cc in absurd (omega arith)
  given-leave code (word ∷ l) out L e = let z : ◌≡◌ {A = ℕ} 0 1 = cc in absurd (omega arith)
  given-leave code (label origin ∷ l) out (a-label p L) w =
      given-if (is_switch code origin) _ out
      (λ e. given-some (label_word code origin gets l ∷ []) out e (given-alone (label_word code origin) l L)) w

  module _ (U : Subject) (p at next : ℕ) (l : List Slot) (out : List Way) (L : Labels P l) where
    pub ways-given : (k : Shape) → ((d : ℕ) → k ≡ Iter d → P at) → ((t : Table) (n : ℕ) → k ≡ Switch t n → P at)
        → ways U p at next k l ≡ some out → Given P out
    unfolding ways
    ways-given (Straight pops pushes) loop switch w = given-straight next pops pushes l out L w
    ways-given (Pop n) loop switch w =
        given-after (pop_slots n l) (λ rest. next gets rest ∷ []) out
        (λ rest e. given-alone next rest (labels-slots n l rest e L)) w
    ways-given (Jump d) loop switch w = given-some (place_at at d gets l ∷ []) out w (given-alone (place_at at d) l L)
    ways-given (JumpC d) loop switch w =
        given-after (pop_words 1 l) (λ rest. both (next gets rest) (place_at at d gets rest)) out
        (λ rest e. given_both next (place_at at d) rest rest (labels-words 1 l rest e L) (labels-words 1 l rest e L)) w
    ways-given (JumpTF d) loop switch w =
        given-after (pop_words 1 l) (λ rest. both (next gets rest) (place_at at d gets l)) out
        (λ rest e. given_both next (place_at at d) rest l (labels-words 1 l rest e L) L) w
    ways-given (Iter d) loop switch w =
        given-after (pop_words 4 l) (λ rest. both (next gets (label at ∷ l)) (place_at at d gets rest)) out
        (λ rest e. given_both next (place_at at d) (label at ∷ l) rest (a-label (loop d refl) L) (labels-words 4 l rest e L)) w
    ways-given Next loop switch w = given-next U.code next l out L w
    ways-given (Switch t n) loop switch w =
        given-after (pop_words 1 l) (λ rest. to_all (switch_targets U.code at t n) (label at ∷ rest)) out
        (λ rest e. given-all (switch_targets U.code at t n) (label at ∷ rest)
        (a-label (switch t n refl) (labels-words 1 l rest e L))) w
    ways-given Leave loop switch w = given-leave U.code l out L w
    ways-given (Call q) loop switch w = given-straight next (parameters_in U.code q) (results_in U.results q) l out L w
    ways-given (CallExternal b q) loop switch w =
        let library = library_in U.libraries b in
        given-straight next (parameters_in library.code q) (results_in library.results q) l out L w
    ways-given (Enter par) loop switch w = given-straight next par 0 l out L w
    ways-given Rtn loop switch w =
        given-if (is_words (results_in U.results p) l) (some []) out (λ e. given-some [] out e given-none) w
