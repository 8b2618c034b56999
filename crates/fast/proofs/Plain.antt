-- A word that the running module tells to be free is not protected.
use mathlib.Core.Path.{◌≡◌, ◌∙◌, refl, sym, subst}
use mathlib.Core.Bool.{Bool, true, false, not, ◌&&◌, ◌||◌, and-eq-true_iff}
use mathlib.Core.List.{List}
use Prim.Native.Nat.{ℕ, ◌+◌, ◌-◌, ◌<◌}
use native.Mathlib.Omega.{arith}
use lib.Dec.{leb, ltb}
use lib.ListN.{length}
use borrow.Author.Tests.{leb-true, ltb-true}
use Rattle.registers.specs.declared.Attributes.{Attributes}
use Rattle.registers.specs.declared.Registers.{Registers}
use Rattle.registers.specs.Modules.{Modules, data_start, frames_start, number_at}
use Rattle.registers.specs.Program.{Program, attributes_at}
use Rattle.registers.specs.State.{State}
use Rattle.registers.specs.Memory.{read, is_link, chained, protects}
use Rattle.registers.proofs.Protected.{free-above, global-free, framed}
use Rattle.registers.proofs.Bases.{base-below, base-number}
use Rattle.state.proofs.Fitting.{Fitting, Fit, fit_parts}
use Rattle.state.proofs.Headers.{constants-word}
use Rattle.step.specs.Ready.{Ready}
use Rattle.fast.specs.Fast.{plain, free}

-- In a set, for the attributes of its module k.
module _ (Ms : Modules) (k : ℕ) (below : k < length Ms) (q : Registers) (m : List ℕ) (a : ℕ)
    (c : chained m (frames_start Ms) q.fp q.calls ≡ true) where
  abbrev A : Attributes
  A = attributes_at Ms k

  plain_by : (t : Bool) → leb q.fp a ≡ t → (t || (leb A.globals a && ltb a A.constants)) ≡ true
      → protects Ms q m a ≡ false
  plain_by true e h = free-above Ms q m a c (leb-true q.fp a e)
  plain_by false e h =
      let both = (and-eq-true_iff (leb A.globals a) (ltb a A.constants)).0 h in
      global-free Ms q m a c k below (leb-true A.globals a both.0) (ltb-true a A.constants both.1)

  plain-unprotected : plain A q.fp a ≡ true → protects Ms q m a ≡ false
  plain-unprotected h = plain_by (leb q.fp a) refl h

  not-link : (t : Bool) → not t ≡ true → t ≡ false
  not-link true h = let z : ◌≡◌ {A = Bool} false true = h in cc
  not-link false h = refl

  free-by : (t : Bool) → plain A q.fp a ≡ t
      → (t || (leb A.frames a && not (is_link m q.fp q.calls a))) ≡ true → protects Ms q m a ≡ false
  free-by true e h = plain-unprotected e
  free-by false e h =
      let both = (and-eq-true_iff (leb A.frames a) (not (is_link m q.fp q.calls a))).0 h in
      framed Ms q m a c (leb-true A.frames a both.0) ∙ not-link (is_link m q.fp q.calls a) both.1

  free-unprotected : free A q m a ≡ true → protects Ms q m a ≡ false
  free-unprotected h = free-by (plain A q.fp a) refl h

module _ (P : Program) (S : State) (R : Ready P S) where
  abbrev Ms : Modules
  Ms = P.modules

  abbrev gp : ℕ
  gp = S.registers.gp

  own : Fit P S
  own = fit_parts P S R.fit

  pub ready-fitting : Fitting P.attributes S
  ready-fitting = own.own

  same : P.attributes ≡ attributes_at Ms (number_at Ms gp)
  same = subst (λ X. P.attributes ≡ X.attributes) R.is_running refl

  below : number_at Ms gp < length Ms
  below = base-below Ms gp R.base

  chain : chained S.memory (frames_start Ms) S.registers.fp S.registers.calls ≡ true
  chain =
      subst (λ X. chained S.memory X.frames S.registers.fp S.registers.calls ≡ true) same own.own.links

  pub plain-free : (a : ℕ) → plain P.attributes S.registers.fp a ≡ true
      → protects Ms S.registers S.memory a ≡ false
  plain-free a h =
      plain-unprotected Ms (number_at Ms gp) below S.registers S.memory a chain
      (subst (λ X. plain X S.registers.fp a ≡ true) same h)

  pub free-free : (a : ℕ) → free P.attributes S.registers S.memory a ≡ true
      → protects Ms S.registers S.memory a ≡ false
  free-free a h =
      free-unprotected Ms (number_at Ms gp) below S.registers S.memory a chain
      (subst (λ X. free X S.registers S.memory a ≡ true) same h)

  -- CONST_ADR is where the module's constants begin.
  pub constants-at : read S.memory (gp - 1) ≡ P.attributes.constants
  constants-at =
      let k : ℕ = number_at Ms gp in
      let word = constants-word Ms S.memory (number_at Ms gp) below own.headers in
      let place : gp - 1 ≡ data_start 0 Ms (number_at Ms gp) + 2 = omega (arith, base-number Ms gp R.base) in
      rw (place, word) (sym (subst (λ X. P.attributes.constants ≡ X.constants) same refl))
