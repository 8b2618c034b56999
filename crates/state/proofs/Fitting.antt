-- What a state that fits keeps, fact by fact.
use Prim.Native.Nat.{ℕ, ◌≤◌}
use mathlib.Core.Path.{◌≡◌}
use mathlib.Core.Bool.{Bool, true, ◌&&◌, and-eq-true_iff}
use mathlib.Core.List.{List}
use lib.Dec.{eqb, leb}
use lib.ListN.{length}
use borrow.Author.Tests.{eqb-true, leb-true, eq-eqb, le-leb}
use Rattle.registers.specs.declared.Attributes.{Attributes}
use Rattle.registers.specs.declared.Registers.{Registers}
use Rattle.registers.specs.Program.{Program}
use Rattle.registers.specs.State.{State}
use Rattle.registers.specs.Memory.{chained, links_based}
use Rattle.state.specs.Fits.{sizes_taken, headers_kept, registers_fit, ordered, bounded, fits}

-- What the running module's steps rely on.
pub record Fitting (A : Attributes) (S : State) : Type 0 where
  pub first : A.globals ≤ A.constants
  pub second : A.constants ≤ A.frames
  pub attributes : A.frames ≤ length S.memory
  pub room : length S.memory ≤ 16384
  pub deep : length S.stack ≤ 1024
  pub global : S.registers.gp ≡ A.globals
  pub frame : S.registers.fp ≤ S.registers.mp
  pub within : S.registers.mp ≤ length S.memory
  pub height : S.registers.height ≤ length S.stack
  pub depth : S.registers.calls ≤ 64
  pub links : chained S.memory A.frames S.registers.fp S.registers.calls ≡ true

-- And what all modules do.
pub record Fit (P : Program) (S : State) : Type 0 where
  pub own : Fitting P.attributes S
  pub headers : headers_kept 0 0 P.modules S.memory ≡ true
  pub based : links_based P.modules S.memory S.registers.fp S.registers.calls ≡ true

three : (a b c : Bool) → (a && (b && c)) ≡ true → (a ≡ true) × (b ≡ true) × (c ≡ true)
three a b c e =
    let p = (and-eq-true_iff a (b && c)).0 e in
    let q = (and-eq-true_iff b c).0 p.1 in
    (p.0, q.0, q.1)

five : (a b c d f : Bool) → (a && (b && (c && (d && f)))) ≡ true → (a ≡ true) × (b ≡ true) × (c ≡ true) × (d ≡ true) × (f ≡ true)
five a b c d f e =
    let p = three a b (c && (d && f)) e in
    let q = three c d f p.2 in
    (p.0, p.1, q.0, q.1, q.2)

-- Sizes that load takes hold the data frames, and are at most the largest.
pub sizes-taken : (frames : ℕ) (m s : List ℕ) → sizes_taken frames m s ≡ true
    → (frames ≤ length m) × (length m ≤ 16384) × (length s ≤ 1024)
unfolding sizes_taken
sizes-taken frames m s h =
    let z = three (leb frames (length m)) (leb (length m) 16384) (leb (length s) 1024) h in
    (leb-true frames (length m) z.0, leb-true (length m) 16384 z.1, leb-true (length s) 1024 z.2)

module _ (A : Attributes) (S : State) where
  abbrev q : Registers
  q = S.registers

  abbrev m : List ℕ
  m = S.memory

  abbrev s : List ℕ
  s = S.stack

  pub fitting : bounded A S ≡ true → Fitting A S
  unfolding bounded ordered registers_fit
  fitting h =
      let v =
      (and-eq-true_iff (ordered A)
      (sizes_taken A.frames m s && (registers_fit A q m s && chained m A.frames q.fp q.calls))).0 h in
      let o = (and-eq-true_iff (leb A.globals A.constants) (leb A.constants A.frames)).0 v.0 in
      let w = three (sizes_taken A.frames m s) (registers_fit A q m s) (chained m A.frames q.fp q.calls) v.1 in
      let (attributes, room, deep) = sizes-taken A.frames m s w.0 in
      let r =
      five (eqb q.gp A.globals) (leb q.fp q.mp) (leb q.mp (length m)) (leb q.height (length s))
      (leb q.calls 64)
      w.1 in
      record {
        first = leb-true A.globals A.constants o.0;
        second = leb-true A.constants A.frames o.1;
        attributes = attributes;
        room = room;
        deep = deep;
        global = eqb-true q.gp A.globals r.0;
        frame = leb-true q.fp q.mp r.1;
        within = leb-true q.mp (length m) r.2;
        height = leb-true q.height (length s) r.3;
        depth = leb-true q.calls 64 r.4;
        links = w.2;
      }

  pub fitted : Fitting A S → bounded A S ≡ true
  unfolding bounded ordered sizes_taken registers_fit
  fitted f =
      rw (
        le-leb A.globals A.constants f.first,
        le-leb A.constants A.frames f.second,
        le-leb A.frames (length m) f.attributes,
        le-leb (length m) 16384 f.room,
        le-leb (length s) 1024 f.deep,
        eq-eqb q.gp A.globals f.global,
        le-leb q.fp q.mp f.frame,
        le-leb q.mp (length m) f.within,
        le-leb q.height (length s) f.height,
        le-leb q.calls 64 f.depth,
      ) f.links

module _ (P : Program) (S : State) where
  pub fit_parts : fits P S ≡ true → Fit P S
  unfolding fits
  fit_parts h =
      let w =
      three (bounded P.attributes S) (headers_kept 0 0 P.modules S.memory)
      (links_based P.modules S.memory S.registers.fp S.registers.calls) h in
      record { own = fitting P.attributes S w.0; headers = w.1; based = w.2 }

  pub fit-whole : Fit P S → fits P S ≡ true
  unfolding fits
  fit-whole f = rw (fitted P.attributes S f.own, f.headers) f.based

  -- What it tells of the running module.
  pub bounds-held : fits P S ≡ true → bounded P.attributes S ≡ true
  bounds-held h = fitted P.attributes S (fit_parts h).own
