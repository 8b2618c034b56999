-- The sentences of demand 3: each is a part of safety's claim, and what the picture has at a place is one list, since every map
-- of the region has what is reached.
use mathlib.Core.Option.{some}
use mathlib.Core.Path.{◌≡◌, ◌∙◌, sym, subst}
use Prim.Native.Nat.{ℕ, ◌<◌}
use native.Mathlib.Omega.{arith}
use lib.ListN.{length}
use Rattle.load.proofs.Modules.{modules-length}
use Rattle.stackmap.proofs.Exact.{has-reached}
use Rattle.invariant.specs.Active.{Configuration, running_member, running, at_first, one_more}
use Rattle.safety.specs.Demand3.{Demand3, Safe}
use Rattle.safety.proofs.Copies.{mapped_at}
use Rattle.safety.proofs.Ends.{claim}
use Rattle.demands.specs.Fresh.{Fresh, modules_in, subjects_in, workspaces_left, load_left, loaded_state, ComesTo, Shared}
use Rattle.demands.specs.Third.{EndsProperly, ComesOn, HasPlace, HasModule, HasPicture, HasShare}
use Rattle.demands.specs.Third.{KeepsFixed, KeepsSizes, KeepsLinks, LeavesBelow}

claimed : (F : Fresh) → Demand3 F.members (load_left F).copy (workspaces_left F) (loaded_state F) (subjects_in F)
claimed F =
    claim F.members F.spaces F.parameters F.copy F.memory F.stack F.registers F.are_bytes F.accepted
    F.loaded F.ruled

safe : (F : Fresh) (n : ℕ) (c : Configuration) → ComesTo F n c
    → Safe (modules_in F) (subjects_in F) (workspaces_left F) (loaded_state F) c
safe F n c v = (claimed F).safe n c v

pub ends-properly : EndsProperly
ends-properly F budget = (claimed F).runs budget

pub comes-on : ComesOn
comes-on F = (at_first, λ n c v w. one_more v w)

pub has-place : HasPlace
has-place F n c v =
    let S = safe F n c v in
    (S.procedure, S.slots, S.placed)

pub has-module : HasModule
has-module F n c v = let S = safe F n c v in (S.member, S.global)

pub has-picture : HasPicture
has-picture F n c v slots p π is =
    has-reached (subjects_in F (running_member c.calls)) (running c.calls) π is c.state.registers.pc slots p

pub has-share : HasShare
has-share F n c v slots p =
    let S = safe F n c v in
    let k = running_member c.calls in
    let h : k < length F.members = omega (arith, S.member, modules-length F.members) in
    let (π, is) =
    mapped_at F.members F.ruled k h (F.spaces k) F.are_bytes (F.accepted k h) (running c.calls) S.procedure in
    let has = has-reached (subjects_in F k) (running c.calls) π is c.state.registers.pc slots p in
    let same : some S.slots ≡ some slots = sym (S.pictured π is) ∙ has in
    let equal : S.slots ≡ slots = cc in
    subst (Shared F c) equal (record { height = S.height; labels = S.labels; shown = S.shown })

-- The labels by themselves, and what the workspace shows, whatever shows the rest.
module _ (F : Fresh) (n : ℕ) (c : Configuration) (v : ComesTo F n c) (other : Shared F c (safe F n c v).slots) where
  labels-stand : Shared F c (safe F n c v).slots
  labels-stand = record { height = other.height; labels = (safe F n c v).labels; shown = other.shown }

  shown-stands : Shared F c (safe F n c v).slots
  shown-stands = record { height = other.height; labels = other.labels; shown = (safe F n c v).shown }

pub keeps-fixed : KeepsFixed
keeps-fixed F n c v = (safe F n c v).fixed

pub keeps-sizes : KeepsSizes
keeps-sizes F n c v = let S = safe F n c v in (S.memory_size, S.stack_size)

pub keeps-links : KeepsLinks
keeps-links F n c v = let S = safe F n c v in (S.active, S.links)

pub leaves-below : LeavesBelow
leaves-below F n c v = (safe F n c v).unread
