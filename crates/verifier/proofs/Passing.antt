-- Every list that an instruction passes on is coherent: what it pops words or slots off, or pushes words on, stays so, and a label
-- that it makes lies on the list that it found, which the map has.
use mathlib.Core.Bool.{true, false}
use mathlib.Core.List.{List, [], ◌∷◌}
use mathlib.Core.Option.{Option, none, some, none-ne-some}
use mathlib.Core.Path.{◌≡◌, refl, subst}
use Prim.Native.Nat.{ℕ, zero, suc}
use lib.Dec.{leb}
use borrow.Author.Tests.{eq-eqb}
use Rattle.entries.specs.Libraries.{library_in}
use Rattle.words.specs.Bytes.{byte_at}
use Rattle.words.proofs.Tests.{either}
use Rattle.opcode.specs.Decode.{decode_at}
use Rattle.operand.specs.Distance.{place_at}
use Rattle.std.specs.Prelude.{Ok}
use Rattle.opcode.specs.declared.instruction.Instruction.{Instruction}
use Rattle.shape.specs.Shape.{shape_of}
use Rattle.shape.specs.declared.Shape.{Shape}
use Rattle.shape.specs.declared.Shape.TheVariants.{Straight, Pop, Jump, JumpC, JumpTF, Iter}
use Rattle.shape.specs.declared.Shape.TheVariants.{Next, Switch, Leave, Call, CallExternal, Enter, Rtn}
use Rattle.shape.proofs.Origins.{iter-origin, switch-origin}
use Rattle.successors.specs.Successors.{switch_targets}
use Rattle.stackmap.specs.Slots.{Slot, word, label, push_words, pop_words, pop_slots, is_words}
use Rattle.stackmap.specs.Ways.{Subject, Way, ◌gets◌, is_iter, is_switch, label_word, after, both}
use Rattle.stackmap.specs.Ways.{to_all, straight, next_out, leave_out, ways, parameters_in, results_in}
use Rattle.stackmap.specs.StackMap.{Map}
use Rattle.verifier.proofs.Coherence.{Lies, on-iter, on_switch, Coherent, on-nothing}
use Rattle.verifier.proofs.Coherence.{on_word, on-label, AllCoherent, no_way, a-way}

-- What is given away, if anything, is coherent.
data Passes (code : List ℕ) (π : Map) : Option (List Way) → Type 0 where
  nothing : Passes code π none
  passing : {out : List Way} → AllCoherent code π out → Passes code π (some out)

module _ {code : List ℕ} {π : Map} where
  passes-some : {out : List Way} → Passes code π (some out) → AllCoherent code π out
  passes-some (passing a) = a

  passes-after : (o : Option (List Slot)) {f : List Slot → List Way} → ((rest : List Slot) → o ≡ some rest → AllCoherent code π (f rest))
      → Passes code π (after o f)
  passes-after none go = nothing
  passes-after (some rest) go = passing (go rest refl)

  one_way : {t : ℕ} {l : List Slot} → Coherent code π l → AllCoherent code π (t gets l ∷ [])
  one_way c = a-way c no_way

  both_ways : (t u : ℕ) (l k : List Slot) → Coherent code π l → Coherent code π k → AllCoherent code π (both (t gets l) (u gets k))
  both_ways t u l k c d =
      either (AllCoherent code π) (leb t u) (t gets l ∷ u gets k ∷ []) (u gets k ∷ t gets l ∷ []) (a-way c (one_way d)) (a-way d (one_way c))

  all_ways : (ts : List ℕ) (l : List Slot) → Coherent code π l → AllCoherent code π (to_all ts l)
  all_ways [] l c = no_way
  all_ways (t ∷ ts) l c = a-way c (all_ways ts l c)

  pub pushed : (n : ℕ) (l : List Slot) → Coherent code π l → Coherent code π (push_words n l)
  pushed zero l c = c
  pushed (suc n) l c = on_word (pushed n l c)

  under-words : (n : ℕ) (l rest : List Slot) → Coherent code π l → pop_words n l ≡ some rest → Coherent code π rest
  under-words zero l rest c e = let s : l ≡ rest = cc in rw s at c
  under-words (suc n) l rest on-nothing e = absurd (none-ne-some rest e)
  under-words (suc n) l rest (on_word {l = r} c) e = under-words n r rest c e
  under-words (suc n) l rest (on-label L c) e = absurd (none-ne-some rest e)

  under-slots : (n : ℕ) (l rest : List Slot) → Coherent code π l → pop_slots n l ≡ some rest → Coherent code π rest
  under-slots zero l rest c e = let s : l ≡ rest = cc in rw s at c
  under-slots (suc n) l rest on-nothing e = absurd (none-ne-some rest e)
  under-slots (suc n) l rest (on_word {l = r} c) e = under-slots n r rest c e
  under-slots (suc n) l rest (on-label {l = r} L c) e = under-slots n r rest c e

  straight-passes : (next pops pushes : ℕ) (l : List Slot) → Coherent code π l → Passes code π (straight next pops pushes l)
  straight-passes next pops pushes l c =
      passes-after (pop_words pops l) λ rest e. one_way (pushed pushes rest (under-words pops l rest c e))

  next-passes : (next : ℕ) (l : List Slot) → Coherent code π l → Passes code π (next_out code next l)
  next-passes next l on-nothing = nothing
  next-passes next l (on_word c) = nothing
  next-passes next l (on-label {origin = m} {l = r} L c) =
      either (Passes code π) (is_iter code m)
      (after (pop_words 4 r) (λ rest. both (next gets rest) (label_word code m gets (label m ∷ r)))) none
      (passes-after (pop_words 4 r) λ rest e. both_ways next (label_word code m) rest (label m ∷ r) (under-words 4 r rest c e) (on-label L c)) nothing

  leave-passes : (l : List Slot) → Coherent code π l → Passes code π (leave_out code l)
  leave-passes l on-nothing = nothing
  leave-passes l (on_word c) = nothing
  leave-passes l (on-label {origin = m} {l = r} L c) =
      either (Passes code π) (is_switch code m) (some (label_word code m gets r ∷ [])) none (passing (one_way c)) nothing

  -- A switch's label lies in place of the word that it pops.
  switch-lies : (at : ℕ) (l rest : List Slot) → is_iter code at ≡ false → is_switch code at ≡ true → π at ≡ some l
      → pop_words 1 l ≡ some rest → Lies code π at rest
  switch-lies at [] rest a b e p = absurd (none-ne-some rest p)
  switch-lies at (word ∷ l) rest a b e p = on_switch a b (cc)
  switch-lies at (label m ∷ l) rest a b e p = absurd (none-ne-some rest p)

shape-passes : (U : Subject) (p at next limit : ℕ) (i : Instruction) (s : Shape) (π : Map) (l : List Slot) → shape_of i ≡ s
    → decode_at U.code limit at ≡ Ok (i, next) → Coherent U.code π l → π at ≡ some l
    → Passes U.code π (ways U p at next s l)
unfolding ways
shape-passes U p at next limit i (Straight pops pushes) π l q d c e = straight-passes next pops pushes l c
shape-passes U p at next limit i (Pop n) π l q d c e =
    passes-after (pop_slots n l) λ rest h. one_way (under-slots n l rest c h)
shape-passes U p at next limit i (Jump t) π l q d c e = passing (one_way c)
shape-passes U p at next limit i (JumpC t) π l q d c e =
    passes-after (pop_words 1 l) λ rest h.
    let r = under-words 1 l rest c h in
    both_ways next (place_at at t) rest rest r r
shape-passes U p at next limit i (JumpTF t) π l q d c e =
    passes-after (pop_words 1 l) λ rest h. both_ways next (place_at at t) rest l (under-words 1 l rest c h) c
shape-passes U p at next limit i (Iter t) π l q d c e =
    let o = iter-origin U.code limit at next i d q in
    passes-after (pop_words 4 l) λ rest h.
    both_ways next (place_at at t) (label at ∷ l) rest
    (on-label (on-iter (eq-eqb (byte_at U.code at) 0xE0 o.0) e rest h) c) (under-words 4 l rest c h)
shape-passes U p at next limit i Next π l q d c e = next-passes next l c
shape-passes U p at next limit i (Switch t n) π l q d c e =
    let o = switch-origin U.code limit at next i d q in
    passes-after (pop_words 1 l) λ rest h.
    all_ways (switch_targets U.code at t n) (label at ∷ rest)
    (on-label (switch-lies at l rest o.0 o.1 e h) (under-words 1 l rest c h))
shape-passes U p at next limit i Leave π l q d c e = leave-passes l c
shape-passes U p at next limit i (Call f) π l q d c e =
    straight-passes next (parameters_in U.code f) (results_in U.results f) l c
shape-passes U p at next limit i (CallExternal b f) π l q d c e =
    let library = library_in U.libraries b in
    straight-passes next (parameters_in library.code f) (results_in library.results f) l c
shape-passes U p at next limit i (Enter par) π l q d c e = straight-passes next par 0 l c
shape-passes U p at next limit i Rtn π l q d c e =
    either (Passes U.code π) (is_words (results_in U.results p) l) (some []) none (passing no_way) nothing

pub ways-coherent : (U : Subject) (p at next limit : ℕ) (i : Instruction) (π : Map) (l : List Slot) (out : List Way)
    → decode_at U.code limit at ≡ Ok (i, next) → Coherent U.code π l → π at ≡ some l
    → ways U p at next (shape_of i) l ≡ some out → AllCoherent U.code π out
ways-coherent U p at next limit i π l out d c e f =
    passes-some (subst (Passes U.code π) f (shape-passes U p at next limit i (shape_of i) π l refl d c e))
