-- The steps of instructions on data that complete: each by its effect, whose tests pass.
use mathlib.Core.Path.{◌≡◌, ◌∙◌, refl}
use mathlib.Core.Bool.{true, false}
use mathlib.Core.List.{List}
use Prim.Native.Nat.{ℕ, ◌+◌, ◌-◌, ◌≤◌, ◌<◌}
use native.Mathlib.Omega.{arith}
use lib.ListN.{length, set}
use borrow.Author.Tests.{lt-ltb, le-leb}
use Rattle.opcode.specs.Decode.{decode_at}
use Rattle.std.specs.Prelude.{Ok}
use Rattle.opcode.specs.declared.instruction.Instruction.{Instruction}
use Rattle.opcode.specs.declared.instruction.Instruction.TheVariants.{LoadConstant, Load, LoadAddress, Store, Pop, Swap, Nop}
use Rattle.opcode.specs.declared.instruction.Base.TheVariants.{Local, Global, Constant, Popped}
use Rattle.opcode.specs.declared.instruction.Mode.TheVariants.{Normal, Double}
use Rattle.shape.specs.Shape.{shape_of}
use Rattle.effect.specs.Data.{load_effect, load_address_effect, store_effect}
use Rattle.registers.specs.declared.Registers.{Registers}
use Rattle.registers.specs.Program.{Program}
use Rattle.registers.specs.Memory.{read, live, protects}
use Rattle.execute.specs.Execute.{execute}
use Rattle.execute.proofs.Top.{found, top-found, store_found}
use Rattle.state.proofs.Fitting.{Fitting}
use Rattle.step.specs.Ready.{Ready}
use Rattle.fast.specs.Fast.{Spot, spot, state_at, plain, free}
use Rattle.fast.proofs.Forms.{Ends, gives_one, gives-two, gives_none, stores_one, stores-two}
use Rattle.fast.proofs.Plain.{ready-fitting, plain-free, free-free}

module _ (P : Program) (q : Registers) (pc h : ℕ) (m s : List ℕ) (R : Ready P (state_at q (spot pc h m s)))
    (next : ℕ)
    (inside : next < length P.code) where
  abbrev Decodes : Instruction → Type 0
  Decodes i = decode_at P.code (length P.code) pc ≡ Ok (i, next)

  F : Fitting P.attributes (state_at q (spot pc h m s))
  F = ready-fitting P (state_at q (spot pc h m s)) R

  stays : q.gp ≡ P.attributes.globals
  stays = F.global

  abbrev Ending : Spot → Type 0
  Ending N = Ends P q (spot pc h m s) N

  unprotected : (a : ℕ) → plain P.attributes q.fp a ≡ true
      → protects P.modules (state_at q (spot pc h m s)).registers m a ≡ false
  unprotected a k = plain-free P (state_at q (spot pc h m s)) R a k

  pub constant-goes : (n : ℕ) → Decodes (LoadConstant n) → h < length s → Ending (spot next (h + 1) m (set s h n))
  unfolding execute shape_of
  constant-goes n d room =
      gives_one P q pc h m s (LoadConstant n) next next d (omega arith) stays inside 0 h (h + 1) n (omega arith) refl refl room

  pub load-local-goes : (n : ℕ) → Decodes (Load Local Normal n) → (q.fp + n < q.mp) × (h < length s)
      → Ending (spot next (h + 1) m (set s h (read m (q.fp + n))))
  unfolding execute shape_of load_effect live
  load-local-goes n d (l, room) =
      gives_one P q pc h m s (Load Local Normal n) next next d (omega arith) stays inside 0 h (h + 1) (read m (q.fp + n))
      (omega arith) refl
      (rw (le-leb (q.fp + n + 1) q.mp (omega arith))) room

  pub load-two-local-goes : (n : ℕ) → Decodes (Load Local Double n) → (q.fp + n + 1 < q.mp) × (h + 1 < length s)
      → Ending (spot next (h + 2) m (set (set s h (read m (q.fp + n))) (h + 1) (read m (q.fp + n + 1))))
  unfolding execute shape_of load_effect live
  load-two-local-goes n d (l, room) =
      gives-two P q pc h m s (Load Local Double n) next next d (omega arith) stays inside 0 h (h + 2) (read m (q.fp + n))
      (read m (q.fp + n + 1))
      (omega arith) refl (rw (le-leb (q.fp + n + 2) q.mp (omega arith))) room

  pub address-local-goes : (n : ℕ) → Decodes (LoadAddress Local n) → q.fp + n < 0x1_0000_0000 → h < length s
      → Ending (spot next (h + 1) m (set s h (q.fp + n)))
  unfolding execute shape_of load_address_effect
  address-local-goes n d l room =
      gives_one P q pc h m s (LoadAddress Local n) next next d (omega arith) stays inside 0 h (h + 1) (q.fp + n) (omega arith) refl
      (rw (lt-ltb (q.fp + n) 0x1_0000_0000 l)) room

  pub load-global-goes : (n : ℕ) → Decodes (Load Global Normal n) → (q.gp + n < q.mp) × (h < length s)
      → Ending (spot next (h + 1) m (set s h (read m (q.gp + n))))
  unfolding execute shape_of load_effect live
  load-global-goes n d (l, room) =
      gives_one P q pc h m s (Load Global Normal n) next next d (omega arith) stays inside 0 h (h + 1) (read m (q.gp + n))
      (omega arith) refl
      (rw (le-leb (q.gp + n + 1) q.mp (omega arith))) room

  pub load-two-global-goes : (n : ℕ) → Decodes (Load Global Double n) → (q.gp + n + 1 < q.mp) × (h + 1 < length s)
      → Ending (spot next (h + 2) m (set (set s h (read m (q.gp + n))) (h + 1) (read m (q.gp + n + 1))))
  unfolding execute shape_of load_effect live
  load-two-global-goes n d (l, room) =
      gives-two P q pc h m s (Load Global Double n) next next d (omega arith) stays inside 0 h (h + 2) (read m (q.gp + n))
      (read m (q.gp + n + 1))
      (omega arith) refl (rw (le-leb (q.gp + n + 2) q.mp (omega arith))) room

  pub address-global-goes : (n : ℕ) → Decodes (LoadAddress Global n) → q.gp + n < 0x1_0000_0000 → h < length s
      → Ending (spot next (h + 1) m (set s h (q.gp + n)))
  unfolding execute shape_of load_address_effect
  address-global-goes n d l room =
      gives_one P q pc h m s (LoadAddress Global n) next next d (omega arith) stays inside 0 h (h + 1) (q.gp + n) (omega arith) refl
      (rw (lt-ltb (q.gp + n) 0x1_0000_0000 l)) room

  pub load-constant-goes : (n : ℕ) → Decodes (Load Constant Normal n) → (read m (q.gp - 1) + n < q.mp) × (h < length s)
      → Ending (spot next (h + 1) m (set s h (read m (read m (q.gp - 1) + n))))
  unfolding execute shape_of load_effect live
  load-constant-goes n d (l, room) =
      gives_one P q pc h m s (Load Constant Normal n) next next d (omega arith) stays inside 0 h (h + 1)
      (read m (read m (q.gp - 1) + n)) (omega arith) refl
      (rw (le-leb (read m (q.gp - 1) + n + 1) q.mp (omega arith))) room

  pub load-two-constant-goes : (n : ℕ) → Decodes (Load Constant Double n)
      → (read m (q.gp - 1) + n + 1 < q.mp) × (h + 1 < length s)
      → Ending (spot next (h + 2) m (set (set s h (read m (read m (q.gp - 1) + n))) (h + 1)
      (read m (read m (q.gp - 1) + n + 1))))
  unfolding execute shape_of load_effect live
  load-two-constant-goes n d (l, room) =
      gives-two P q pc h m s (Load Constant Double n) next next d (omega arith) stays inside 0 h (h + 2)
      (read m (read m (q.gp - 1) + n)) (read m (read m (q.gp - 1) + n + 1))
      (omega arith) refl (rw (le-leb (read m (q.gp - 1) + n + 2) q.mp (omega arith))) room

  pub address-constant-goes : (n : ℕ) → Decodes (LoadAddress Constant n) → read m (q.gp - 1) + n < 0x1_0000_0000 → h < length s
      → Ending (spot next (h + 1) m (set s h (read m (q.gp - 1) + n)))
  unfolding execute shape_of load_address_effect
  address-constant-goes n d l room =
      gives_one P q pc h m s (LoadAddress Constant n) next next d (omega arith) stays inside 0 h (h + 1) (read m (q.gp - 1) + n)
      (omega arith) refl
      (rw (lt-ltb (read m (q.gp - 1) + n) 0x1_0000_0000 l)) room

  pub load-popped-goes : (n : ℕ) → Decodes (Load Popped Normal n) → (1 ≤ h) × (read s (h - 1) + n < q.mp)
      → Ending (spot next h m (set s (h - 1) (read m (read s (h - 1) + n))))
  unfolding execute shape_of load_effect live
  load-popped-goes n d (one, l) =
      gives_one P q pc h m s (Load Popped Normal n) next next d one stays inside 1 (h - 1) h (read m (read s (h - 1) + n)) refl
      (omega arith)
      (rw (top-found s h one, le-leb (read s (h - 1) + n + 1) q.mp (omega arith))) (omega (arith, F.height))

  pub load-two-popped-goes : (n : ℕ) → Decodes (Load Popped Double n)
      → (1 ≤ h) × ((read s (h - 1) + n + 1 < q.mp) × (h < length s))
      → Ending (spot next (h + 1) m (set (set s (h - 1) (read m (read s (h - 1) + n))) h (read m (read s (h - 1) + n + 1))))
  unfolding execute shape_of load_effect live
  load-two-popped-goes n d (one, (l, room)) =
      let a = read s (h - 1) + n in
      let top : h - 1 + 1 ≡ h = omega arith in
      rw top at (gives-two P q pc h m s (Load Popped Double n) next next d one stays inside 1 (h - 1) (h + 1) (read m a)
      (read m (a + 1)) refl
      (omega arith) (rw (top-found s h one, le-leb (a + 2) q.mp (omega arith))) (omega arith))

  pub address-popped-goes : (n : ℕ) → Decodes (LoadAddress Popped n) → (1 ≤ h) × (read s (h - 1) + n < 0x1_0000_0000)
      → Ending (spot next h m (set s (h - 1) (read s (h - 1) + n)))
  unfolding execute shape_of load_address_effect
  address-popped-goes n d (one, l) =
      gives_one P q pc h m s (LoadAddress Popped n) next next d one stays inside 1 (h - 1) h (read s (h - 1) + n) refl (omega arith)
      (rw (top-found s h one, lt-ltb (read s (h - 1) + n) 0x1_0000_0000 l)) (omega (arith, F.height))

  pub store-local-goes : (n : ℕ) → Decodes (Store Local Normal n)
      → (1 ≤ h) × ((q.fp + n < q.mp) × (plain P.attributes q.fp (q.fp + n) ≡ true))
      → Ending (spot next (h - 1) (set m (q.fp + n) (read s (h - 1))) s)
  unfolding shape_of store_effect live
  store-local-goes n d (one, (l, free)) =
      stores_one P q pc h m s (Store Local Normal n) next next d one stays inside 1 (h - 1) (q.fp + n) (read s (h - 1)) refl
      (store_found P (state_at q (spot pc h m s)).registers m s next Local Normal n one
      ∙ rw (le-leb (q.fp + n + 1) q.mp (omega arith), unprotected (q.fp + n) free)) F.height

  pub store-two-local-goes : (n : ℕ) → Decodes (Store Local Double n)
      → (2 ≤ h) × ((q.fp + n + 1 < q.mp) × ((plain P.attributes q.fp (q.fp + n) ≡ true) ×
      (plain P.attributes q.fp (q.fp + n + 1) ≡ true)))
      → Ending (spot next (h - 2) (set (set m (q.fp + n) (read s (h - 2))) (q.fp + n + 1) (read s (h - 1))) s)
  unfolding shape_of store_effect live
  store-two-local-goes n d (two, (l, (free, also))) =
      stores-two P q pc h m s (Store Local Double n) next next d two stays inside 2 (h - 2) (q.fp + n) (read s (h - 2))
      (read s (h - 1)) refl
      (store_found P (state_at q (spot pc h m s)).registers m s next Local Double n two
      ∙ rw (le-leb (q.fp + n + 2) q.mp (omega arith), unprotected (q.fp + n) free, unprotected (q.fp + n + 1) also))
      F.height

  pub store-global-goes : (n : ℕ) → Decodes (Store Global Normal n)
      → (1 ≤ h) × ((q.gp + n < q.mp) × (plain P.attributes q.fp (q.gp + n) ≡ true))
      → Ending (spot next (h - 1) (set m (q.gp + n) (read s (h - 1))) s)
  unfolding shape_of store_effect live
  store-global-goes n d (one, (l, free)) =
      stores_one P q pc h m s (Store Global Normal n) next next d one stays inside 1 (h - 1) (q.gp + n) (read s (h - 1)) refl
      (store_found P (state_at q (spot pc h m s)).registers m s next Global Normal n one
      ∙ rw (le-leb (q.gp + n + 1) q.mp (omega arith), unprotected (q.gp + n) free)) F.height

  pub store-two-global-goes : (n : ℕ) → Decodes (Store Global Double n)
      → (2 ≤ h) × ((q.gp + n + 1 < q.mp) × ((plain P.attributes q.fp (q.gp + n) ≡ true) ×
      (plain P.attributes q.fp (q.gp + n + 1) ≡ true)))
      → Ending (spot next (h - 2) (set (set m (q.gp + n) (read s (h - 2))) (q.gp + n + 1) (read s (h - 1))) s)
  unfolding shape_of store_effect live
  store-two-global-goes n d (two, (l, (free, also))) =
      stores-two P q pc h m s (Store Global Double n) next next d two stays inside 2 (h - 2) (q.gp + n) (read s (h - 2))
      (read s (h - 1)) refl
      (store_found P (state_at q (spot pc h m s)).registers m s next Global Double n two
      ∙ rw (le-leb (q.gp + n + 2) q.mp (omega arith), unprotected (q.gp + n) free, unprotected (q.gp + n + 1) also))
      F.height

  abbrev Free : ℕ → Type 0
  Free a = free P.attributes q m a ≡ true

  kept_free : (a : ℕ) → Free a → protects P.modules (state_at q (spot pc h m s)).registers m a ≡ false
  kept_free a k = free-free P (state_at q (spot pc h m s)) R a k

  pub store-popped-goes : (n : ℕ) → Decodes (Store Popped Normal n)
      → (2 ≤ h) × ((read s (h - 2) + n < q.mp) × Free (read s (h - 2) + n))
      → Ending (spot next (h - 2) (set m (read s (h - 2) + n) (read s (h - 1))) s)
  unfolding shape_of store_effect live
  store-popped-goes n d (two, (l, free)) =
      let a = read s (h - 2) + n in
      stores_one P q pc h m s (Store Popped Normal n) next next d two stays inside 2 (h - 2) a (read s (h - 1)) refl
      (store_found P (state_at q (spot pc h m s)).registers m s next Popped Normal n two
      ∙ rw (le-leb (a + 1) q.mp (omega arith), kept_free a free)) F.height

  pub store-two-popped-goes : (n : ℕ) → Decodes (Store Popped Double n)
      → (3 ≤ h) × ((read s (h - 3) + n + 1 < q.mp) × (Free (read s (h - 3) + n) × Free (read s (h - 3) + n + 1)))
      → Ending (spot next (h - 3) (set (set m (read s (h - 3) + n) (read s (h - 2))) (read s (h - 3) + n + 1) (read s (h - 1)))
      s)
  unfolding shape_of store_effect live
  store-two-popped-goes n d (three, (l, (free, also))) =
      let a = read s (h - 3) + n in
      stores-two P q pc h m s (Store Popped Double n) next next d three stays inside 3 (h - 3) a (read s (h - 2)) (read s (h - 1))
      refl
      (store_found P (state_at q (spot pc h m s)).registers m s next Popped Double n three
      ∙ rw (le-leb (a + 2) q.mp (omega arith), kept_free a free, kept_free (a + 1) also)) F.height

  pub pop_goes : (n : ℕ) → Decodes (Pop n) → n ≤ h → Ending (spot next (h - n) m s)
  unfolding execute shape_of
  pop_goes n d l = gives_none P q pc h m s (Pop n) next next d l stays inside n (h - n) refl refl F.height

  pub nop-goes : Decodes Nop → 0 ≤ h → Ending (spot next (h - 0) m s)
  unfolding execute shape_of
  nop-goes d l = gives_none P q pc h m s Nop next next d l stays inside 0 (h - 0) refl refl F.height

  pub swap-goes : Decodes Swap → 2 ≤ h
      → Ending (spot next h m (set (set s (h - 2) (read s (h - 1))) (h - 1) (read s (h - 2))))
  unfolding execute shape_of
  swap-goes d two =
      let top : h - 2 + 1 ≡ h - 1 = omega arith in
      rw top at (gives-two P q pc h m s Swap next next d two stays inside 2 (h - 2) h (read s (h - 1)) (read s (h - 2)) refl
      (omega arith)
      (rw (found s h 2 0 two (omega arith), found s h 2 1 two (omega arith))) (omega (arith, F.height)))
