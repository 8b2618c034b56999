-- What load answers, by whether it has a number; the memory that it leaves, frame by frame; and that the machine's state at the
-- start fits.
use mathlib.Core.Bool.{Bool, true, false, cond, ◌&&◌, and-eq-true_iff}
use mathlib.Core.List.{List, [], ◌∷◌, ◌++◌, append_assoc}
use mathlib.Core.Path.{◌≡◌, ◌∙◌, refl, sym, ap}
use Prim.Native.Nat.{ℕ, zero, suc, ◌+◌, ◌-◌, ◌<◌, ◌≤◌}
use native.Mathlib.Omega.{arith}
use lib.Dec.{eqb, leb}
use lib.ListN.{length, take, drop, length-append, length-replicate, get_or-append, get_or-eq_default}
use lib.Seq.{get_or-append-add, take-append_seam}
use borrow.Author.Tests.{eqb-true, leb-true, le-leb, lt-leb, eq-eqb, ne_eqb, not-false}
use Rattle.words.proofs.Tests.{either, by-test}
use Rattle.header.specs.declared.Header.{Header}
use Rattle.header.specs.Header.{header_of, code_of}
use Rattle.module_set.specs.Members.{Members, member_at, single}
use Rattle.relocation.specs.Relocation.{relocated, copies_from, copy_of, begins, set_number}
use Rattle.words.specs.Lent.{over}
use Rattle.relocation.proofs.Rewriting.{relocated-length}
use Rattle.relocation.proofs.Copying.{copies-turn, begins-append, begins-takes, takes-begins}
use Rattle.relocation.proofs.Sound.{set-cleared}
use Rattle.relocation.proofs.Alone.{copy-alone}
use Rattle.registers.specs.declared.Registers.{Registers}
use Rattle.registers.specs.Memory.{read}
use Rattle.registers.specs.Modules.{Modules, module_at, data_size, data_start, frames_start, globals_start}
use Rattle.registers.specs.Program.{program_at}
use Rattle.registers.specs.State.{state}
use Rattle.registers.proofs.Protected.{data-within}
use Rattle.state.specs.Fits.{sizes_taken, header_kept, headers_kept, fits}
use Rattle.state.proofs.Fitting.{sizes-taken, fit-whole}
use Rattle.load.specs.Loaded.{Loaded}
use Rattle.std.specs.Prelude.{Err, Ok}
use Rattle.load.specs.Modules.{modules_from, modules_of}
use Rattle.load.specs.Load.{frame_words, frames_from, initial_data, loaded_memory, start_of, load_tests, set_load_number}
use Rattle.load.specs.Load.{loaded_number, Loading, loading, set_load, load_number, load_of}
use Rattle.load.proofs.Modules.{modules-length, module-at, set-some, first-start, modules-alone}
use Rattle.load.proofs.Framing.{zeros, zeros-behind, frame-length, Taken, taken_none, taken-first, data-length}

apart : (n : ℕ) (q : Registers) → Err n ≡ Ok q → ⊥
apart n q e = let z : ◌≡◌ {A = ℕ} 0 1 = cc in omega arith

-- The test of 8.
abbrev pub room : Members → (ps copy m s : List ℕ) → Bool
room S ps copy m s =
    leb (length ps) (module_at (modules_of S) 0).globals
    && (leb (length (copy_of S)) (length copy) && sizes_taken (frames_start (modules_of S)) m s)

-- What it says.
pub record Room (S : Members) (ps copy m s : List ℕ) : Type 0 where
  pub parameters : length ps ≤ (module_at (modules_of S) 0).globals
  pub copied : length (copy_of S) ≤ length copy
  pub frames : frames_start (modules_of S) ≤ length m
  pub memory : length m ≤ 16384
  pub stack : length s ≤ 1024

pub room-parts : (S : Members) (ps copy m s : List ℕ) → room S ps copy m s ≡ true → Room S ps copy m s
room-parts S ps copy m s e =
    let globals = (module_at (modules_of S) 0).globals in
    let sizes = sizes_taken (frames_start (modules_of S)) m s in
    let a = (and-eq-true_iff (leb (length ps) globals) (leb (length (copy_of S)) (length copy) && sizes)).0 e in
    let b = (and-eq-true_iff (leb (length (copy_of S)) (length copy)) sizes).0 a.1 in
    let c = sizes-taken (frames_start (modules_of S)) m s b.1 in
    record {
      parameters = leb-true (length ps) globals a.0;
      copied = leb-true (length (copy_of S)) (length copy) b.0;
      frames = c.0;
      memory = c.1;
      stack = c.2;
    }

module _ (S : Members) (ps copy m s : List ℕ) where
  number-taken : (t : Bool) → set_number S ≡ 0 → room S ps copy m s ≡ t → set_load_number S ps copy m s ≡ cond t 0 8
  unfolding set_load_number
  number-taken true none e = rw (eq-eqb (set_number S) 0 none, e)
  number-taken false none e = rw (eq-eqb (set_number S) 0 none, e)

  pub refuses : (n : ℕ) → set_load_number S ps copy m s ≡ n → (n ≡ 0 → ⊥) → loading (Err n) copy m ≡ set_load S ps copy m s
  unfolding set_load
  refuses n e some = rw (e, ne_eqb n 0 some)

  -- What is answered has the number of the tests.
  pub with_number : (a : Loaded) (copy' m' : List ℕ) → loading a copy' m' ≡ set_load S ps copy m s →
      (loading a copy' m' ≡ set_load S ps copy m s) × (loaded_number a ≡ set_load_number S ps copy m s)
  unfolding set_load
  with_number a copy' m' e = (
    e,
    ap (λ (l : Loading). loaded_number l.answer) e
        ∙ by-test (λ (l : Loading). loaded_number l.answer ≡ set_load_number S ps copy m s)
        (eqb (set_load_number S ps copy m s) 0) _ _
        (λ t. sym (eqb-true (set_load_number S ps copy m s) 0 t)) (λ t. refl),
  )

  -- A refused load leaves copy and memory.
  pub refused-copy : (n : ℕ) → (set_load S ps copy m s).answer ≡ Err n → (set_load S ps copy m s).copy ≡ copy
  unfolding set_load
  refused-copy n =
      either (λ (l : Loading). l.answer ≡ Err n → l.copy ≡ copy) (eqb (set_load_number S ps copy m s) 0) _ _
      (λ e. cc) (λ e. refl)

  pub refused-memory : (n : ℕ) → (set_load S ps copy m s).answer ≡ Err n → (set_load S ps copy m s).memory ≡ m
  unfolding set_load
  refused-memory n =
      either (λ (l : Loading). l.answer ≡ Err n → l.memory ≡ m) (eqb (set_load_number S ps copy m s) 0) _ _
      (λ e. cc) (λ e. refl)

  -- The set's number, 8, and none.
  pub load-refused : (n : ℕ) → n ≡ set_number S → (n ≡ 0 → ⊥) → loading (Err n) copy m ≡ set_load S ps copy m s
  unfolding set_load_number
  load-refused n e some = refuses n (rw (← e, ne_eqb n 0 some)) some

  pub load-short : set_number S ≡ 0 → room S ps copy m s ≡ false → loading (Err 8) copy m ≡ set_load S ps copy m s
  load-short none e = refuses 8 (number-taken false none e) (λ z. omega arith)

  pub number-ready : set_number S ≡ 0 → room S ps copy m s ≡ true → set_load_number S ps copy m s ≡ 0
  number-ready none e = number-taken true none e

  pub loads : set_load_number S ps copy m s ≡ 0 →
      loading (Ok (start_of (program_at (modules_of S) 0))) (over (copy_of S) copy) (loaded_memory S ps (length m))
      ≡ set_load S ps copy m s
  unfolding set_load
  loads e = rw (eq-eqb (set_load_number S ps copy m s) 0 e)

  pub load-ready : set_number S ≡ 0 → room S ps copy m s ≡ true →
      loading (Ok (start_of (program_at (modules_of S) 0))) (over (copy_of S) copy) (loaded_memory S ps (length m))
      ≡ set_load S ps copy m s
  load-ready none e = loads (number-ready none e)

  -- An answer that is ready has no number, and the registers at the start.
  pub ready-number : (q : Registers) → (set_load S ps copy m s).answer ≡ Ok q →
      (set_load_number S ps copy m s ≡ 0) × (q ≡ start_of (program_at (modules_of S) 0))
  unfolding set_load
  ready-number q =
      by-test (λ (l : Loading). l.answer ≡ Ok q
      → (set_load_number S ps copy m s ≡ 0) × (q ≡ start_of (program_at (modules_of S) 0)))
      (eqb (set_load_number S ps copy m s) 0) _ _
      (λ t e. (eqb-true (set_load_number S ps copy m s) 0 t, cc)) (λ t e. absurd (apart (set_load_number S ps copy m s) q e))

  -- What no number says.
  pub ready-parts : set_load_number S ps copy m s ≡ 0 → (set_number S ≡ 0) × Room S ps copy m s
  unfolding set_load_number
  ready-parts e =
      let c = set-cleared S (load_tests S ps copy m s) refl e in
      (c.0, room-parts S ps copy m s (not-false (room S ps copy m s) c.1.0))

-- What is written over a list is at its front.
pub begins-over : (xs ys : List ℕ) → begins xs (over xs ys) ≡ true
begins-over xs ys = takes-begins xs (over xs ys) (take-append_seam xs (drop (length xs) ys))

-- The main module: its globals, its code in a copy, and where its globals and the frames of calls begin.
module _ (S : Members) (e : set_number S ≡ 0) (r : List ℕ) (q : r ≡ (member_at S 0).bytes) where
  pub main-globals : (h : Header) → h ≡ header_of r → (module_at (modules_of S) 0).globals ≡ h.globals
  main-globals h w = rw (module-at S 0 (set-some S e), w, q)

  pub main_code : (copy part : List ℕ) (n : ℕ) → begins (copy_of S) copy ≡ true → n ≡ length (code_of r) →
      part ≡ take n (drop 0 copy) → (module_at (modules_of S) 0).code ≡ part
  unfolding copy_of
  main_code copy part n b s p =
      let own = relocated S (member_at S 0).bytes in
      let others = copies_from S (drop (0 + 1) S) in
      let turn : copies_from S S ≡ own ++ others = copies-turn S 0 (set-some S e) in
      let both = (and-eq-true_iff (begins own copy) (begins others (drop (length own) copy))).0
      (sym (begins-append own others copy) ∙ (rw turn at b)) in
      let long : n ≡ length own = s ∙ rw q (sym (relocated-length S (member_at S 0).bytes)) in
      rw (module-at S 0 (set-some S e)) (sym (p ∙ rw long (begins-takes own copy both.0)))

pub main-base : (Ms : Modules) → globals_start Ms 0 ≡ 3
main-base Ms = omega (arith, first-start 0 Ms)

-- A record by itself.
module _ (r : List ℕ) (e : set_number (single r []) ≡ 0) (h : Header) (q : h ≡ header_of r) (n : ℕ)
    (w : n ≡ 3 + h.globals + h.constants) where
  pub alone-frames : frames_start (modules_of (single r [])) ≡ n
  alone-frames = rw (modules-alone r [] e, ← q) (omega arith)

  pub alone-room : (ps m s : List ℕ) → room (single r []) ps (code_of r) m s ≡ (leb (length ps) h.globals && sizes_taken n m s)
  alone-room ps m s =
      let globals : (module_at (modules_of (single r [])) 0).globals ≡ h.globals = rw (modules-alone r [] e, ← q) in
      rw (globals, copy-alone r [] e, alone-frames, le-leb (length (code_of r)) (length (code_of r)) (omega arith))

  pub alone-code : (module_at (modules_of (single r [])) 0).code ≡ code_of r
  alone-code = rw (modules-alone r [] e)

-- What load answers of a record, and the memory that it leaves.
abbrev pub Answers : (r ps m s : List ℕ) → Loaded → List ℕ → Type 0
Answers r ps m s a m' =
    (a ≡ (load_of r ps m s).answer) × (m' ≡ (load_of r ps m s).memory) × (loaded_number a ≡ load_number r ps m s)

module _ (r ps m s : List ℕ) where
  alone-answers : (a : Loaded) (copy m' : List ℕ) → loading a copy m' ≡ load_of r ps m s → Answers r ps m s a m'
  alone-answers a copy m' e = (
    ap (λ (l : Loading). l.answer) e,
    ap (λ (l : Loading). l.memory) e,
    (with_number (single r []) ps (code_of r) m s a copy m' e).1,
  )

  pub alone-refused : (n : ℕ) → n ≡ set_number (single r []) → (n ≡ 0 → ⊥) → Answers r ps m s (Err n) m
  alone-refused n e some = alone-answers (Err n) (code_of r) m (load-refused (single r []) ps (code_of r) m s n e some)

  module _ (e : set_number (single r []) ≡ 0) (h : Header) (q : h ≡ header_of r) where
    pub alone-many : h.globals < length ps → Answers r ps m s (Err 8) m
    alone-many l =
        let short : room (single r []) ps (code_of r) m s ≡ false =
        alone-room r e h q (3 + h.globals + h.constants) refl ps m s ∙ rw (lt-leb (length ps) h.globals l) in
        alone-answers (Err 8) (code_of r) m (load-short (single r []) ps (code_of r) m s e short)

    -- With the size of its data frame, and what is answered about the sizes.
    module _ (l : length ps ≤ h.globals) (n : ℕ) (w : n ≡ 3 + h.globals + h.constants) (t : Bool)
        (sizes : t ≡ sizes_taken n m s) where
      taken : room (single r []) ps (code_of r) m s ≡ t
      taken = alone-room r e h q n w ps m s ∙ rw (le-leb (length ps) h.globals l, sizes)

      pub alone-short : t ≡ false → Answers r ps m s (Err 8) m
      alone-short f = alone-answers (Err 8) (code_of r) m (load-short (single r []) ps (code_of r) m s e (taken ∙ f))

      pub alone-sizes : t ≡ true → (n ≤ length m) × (n ≤ 16384)
      alone-sizes f = let k = sizes-taken n m s (sym sizes ∙ f) in (k.0, omega (arith, k.0, k.1))

      pub alone-ready : t ≡ true → (a : Registers) (m' : List ℕ) → a ≡ start_of (program_at (modules_of (single r [])) 0) →
          m' ≡ loaded_memory (single r []) ps (length m) → Answers r ps m s (Ok a) m'
      alone-ready f a m' b c =
          let S = single r [] in
          rw (b, c) (alone-answers (Ok (start_of (program_at (modules_of S) 0))) (over (copy_of S) (code_of r))
          (loaded_memory S ps (length m)) (load-ready S ps (code_of r) m s e (taken ∙ f)))

-- The memory that load leaves.
module _ (S : Members) (ps : List ℕ) (size : ℕ) where
  pub loaded_word : (i : ℕ) → read (loaded_memory S ps size) i ≡ read (initial_data S ps) i
  unfolding loaded_memory
  loaded_word i = zeros-behind (initial_data S ps) (size - frames_start (modules_of S)) i

  pub loaded-length : length ps ≤ (module_at (modules_of S) 0).globals → frames_start (modules_of S) ≤ size →
      length (loaded_memory S ps size) ≡ size
  unfolding loaded_memory
  loaded-length h f =
      let rest = size - frames_start (modules_of S) in
      omega (
        arith,
        length-append (initial_data S ps) (zeros rest),
        data-length S ps (taken-first S ps h),
        length-replicate {A = ℕ} rest 0,
      )

  pub loaded-past : length ps ≤ (module_at (modules_of S) 0).globals → (i : ℕ) → frames_start (modules_of S) ≤ i →
      read (loaded_memory S ps size) i ≡ 0
  loaded-past h i f =
      loaded_word i
      ∙ get_or-eq_default (initial_data S ps) 0 {n = i} (omega (arith, data-length S ps (taken-first S ps h)))

-- Header words of all modules, from those of each.
headers-all : (j start : ℕ) (Ms : Modules) (m : List ℕ) →
    ((k : ℕ) → k < length Ms → header_kept m (j + k) (data_start start Ms k) (module_at Ms k).globals ≡ true) →
    headers_kept j start Ms m ≡ true
headers-all j start [] m h = refl
headers-all j start (M ∷ Ms) m h =
    let none : j + 0 ≡ j = omega arith in
    let first : header_kept m j start M.globals ≡ true = rw none at (h 0 (omega arith)) in
    rw first (headers-all (j + 1) (start + data_size M) Ms m
    (λ k l. let next : j + suc k ≡ j + 1 + k = omega arith in rw next at (h (suc k) (omega arith))))

-- The parameters of module k: the main module's.
abbrev pub given_to : List ℕ → ℕ → List ℕ
given_to ps zero = ps
given_to ps (suc k) = []

given-none : (k : ℕ) → given_to [] k ≡ []
given-none zero = refl
given-none (suc k) = refl

-- A word of the data frame of member k, behind what lies before the frames.
frames-at : (S T : Members) (pre ps : List ℕ) (j start k i : ℕ) → length pre ≡ start → Taken ps T → k < length T →
    i < data_size (module_at (modules_from S T) k) →
    read (pre ++ frames_from j start ps T) (data_start start (modules_from S T) k + i)
    ≡ read (frame_words (j + k) (data_start start (modules_from S T) k) (given_to ps k) (member_at T k).bytes) i
frames-at S [] pre ps j start k i l t h b = absurd (omega arith)
frames-at S (M ∷ T) pre ps j start zero i l t h b =
    let own = frame_words j start ps M.bytes in
    let next = start + (3 + (header_of M.bytes).globals + (header_of M.bytes).constants) in
    let others = frames_from (j + 1) next [] T in
    let none : j + 0 ≡ j = omega arith in
    rw none ((rw l at (get_or-append-add pre (own ++ others) i 0))
    ∙ get_or-append own others 0 i (omega (arith, frame-length j start ps M.bytes t)))
frames-at S (M ∷ T) pre ps j start (suc k) i l t h b =
    let own = frame_words j start ps M.bytes in
    let next = start + (3 + (header_of M.bytes).globals + (header_of M.bytes).constants) in
    let others = frames_from (j + 1) next [] T in
    let number : j + suc k ≡ j + 1 + k = omega arith in
    let long : length (pre ++ own) ≡ next = omega (arith, length-append pre own, frame-length j start ps M.bytes t) in
    rw (number, ← append_assoc pre own others)
    (rw (given-none k) at (frames-at S T (pre ++ own) [] (j + 1) next k i long (taken_none T) (omega arith) b))

module _ (S : Members) (ps : List ℕ) (size : ℕ) (t : length ps ≤ (module_at (modules_of S) 0).globals) where
  pub loaded-frame : (k i : ℕ) → k < length S → i < data_size (module_at (modules_of S) k) →
      read (loaded_memory S ps size) (data_start 0 (modules_of S) k + i)
      ≡ read (frame_words k (data_start 0 (modules_of S) k) (given_to ps k) (member_at S k).bytes) i
  unfolding initial_data modules_of
  loaded-frame k i h b =
      let none : 0 + k ≡ k = omega arith in
      loaded_word S ps size (data_start 0 (modules_from S S) k + i)
      ∙ (rw none at (frames-at S S [] ps 0 0 k i refl (taken-first S ps t) h b))

  -- The header words of every module are as loaded.
  header-loaded : (k : ℕ) → k < length S →
      header_kept (loaded_memory S ps size) k (data_start 0 (modules_of S) k) (module_at (modules_of S) k).globals ≡ true
  unfolding header_kept frame_words
  header-loaded k h =
      let m = loaded_memory S ps size in
      let start = data_start 0 (modules_of S) k in
      let globals = (module_at (modules_of S) k).globals in
      let some : 3 ≤ data_size (module_at (modules_of S) k) = omega arith in
      let none : start + 0 ≡ start = omega arith in
      let first : read m start ≡ 0 = rw none at (loaded-frame k 0 h (omega arith)) in
      let own : globals ≡ (header_of (member_at S k).bytes).globals = rw (module-at S k h) in
      let third : read m (start + 2) ≡ start + 3 + globals = rw own (loaded-frame k 2 h (omega arith)) in
      rw (
        first,
        loaded-frame k 1 h (omega arith),
        eq-eqb k k refl,
        third,
        eq-eqb (start + 3 + globals) (start + 3 + globals) refl,
      )

  pub loaded-headers : headers_kept 0 0 (modules_of S) (loaded_memory S ps size) ≡ true
  loaded-headers =
      headers-all 0 0 (modules_of S) (loaded_memory S ps size)
      (λ k h. let none : 0 + k ≡ k = omega arith in rw none (header-loaded k (omega (arith, modules-length S))))

-- The state at the start fits.
pub start_fits : (S : Members) (ps copy m s : List ℕ) → set_load_number S ps copy m s ≡ 0 →
    fits (program_at (modules_of S) 0) (state (start_of (program_at (modules_of S) 0)) (loaded_memory S ps (length m)) s) ≡ true
unfolding start_of
start_fits S ps copy m s e =
    let p = ready-parts S ps copy m s e in
    let room = p.1 in
    let Ms = modules_of S in
    let P = program_at Ms 0 in
    let m' = loaded_memory S ps (length m) in
    let size : length m' ≡ length m = loaded-length S ps (length m) room.parameters room.frames in
    let within = data-within 0 Ms 0 (omega (arith, set-some S p.0, modules-length S)) in
    fit-whole P (state (start_of P) m' s)
    (record {
      own = record {
        first = omega arith;
        second = omega (arith, within.1);
        attributes = omega (arith, room.frames);
        room = omega (arith, room.memory);
        deep = room.stack;
        global = refl;
        frame = omega arith;
        within = omega (arith, room.frames);
        height = omega arith;
        depth = omega arith;
        links = eq-eqb (frames_start Ms) (frames_start Ms) refl;
      };
      headers = loaded-headers S ps (length m) room.parameters;
      based = refl;
    })
