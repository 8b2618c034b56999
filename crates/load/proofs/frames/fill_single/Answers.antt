-- `frames::fill_single` meets its contract: the data frame, and zeros behind it.
use Prim.Native.Nat.{◌≤◌, ◌+◌}
use mathlib.Core.List.{[]}
use mathlib.Core.Path.{◌≡◌, refl, ap}
use native.Mathlib.Omega.{arith}
use lib.ListN.{length, length-take}
use Rattle.header.specs.declared.Header.{Header}
use Rattle.header.specs.Header.{header_of}
use Rattle.module_set.specs.Members.{single}
use Rattle.load.proofs.Modules.{member-sizes}
use Rattle.load.proofs.Framing.{alone-filled}
use Rattle.load.proofs.frames.fill_single.Goals.{After-frame_size-size}
use Rattle.load.proofs.frames.fill_single.Goals as goal

-- The size is that of the record's header, and there is room for it.
sized : (c : After-frame_size-size) →
    let a = c.args in
    let cleared = c.fill in
    (c.frame_size-size.result ≡ 3 + (header_of a.r.now).globals + (header_of a.r.now).constants)
    × (c.frame_size-size.result ≤ length cleared.new.self)
sized c =
    let cleared = c.fill in
    let size : c.frame_size-size.result ≡ 3 + (header_of c.args.r.now).globals + (header_of c.args.r.now).constants =
    rw (← c.header_of-h.ensures) c.frame_size-size.ensures in
    (size, omega (arith, size, c.requires.r_in_bounds, cleared.auto.self))

pub slice_bounds-fill_frame-end : goal.slice_bounds-fill_frame-end
slice_bounds-fill_frame-end c = omega (arith, (sized (goal.at.slice_bounds-fill_frame-end c).After-frame_size-size).1)

pub slice_bounds-fill_frame-end-2 : goal.slice_bounds-fill_frame-end-2
slice_bounds-fill_frame-end-2 c =
    let frame-size = c.frame_size-size in
    let cleared = c.fill in
    let here = sized (goal.at.slice_bounds-fill_frame-end-2 c).After-frame_size-size in
    omega (arith, here.1, length-take frame-size.result cleared.new.self)

pub fill_frame-requires : goal.fill_frame-requires
fill_frame-requires c =
    let frame-size = c.frame_size-size in
    let cleared = c.fill in
    let a = c.args in
    let pre = c.requires in
    let S = single a.r.now [] in
    let own = c.header_of-h.ensures in
    let sizes = member-sizes S pre.r_value 0 (omega arith) in
    let here = sized (goal.at.fill_frame-requires c).After-frame_size-size in record {
      h_value = own;
      globals_bound = omega (arith, ap (λ (h : Header). h.globals) own, sizes.globals);
      k_bound = omega arith;
      start_bound = omega arith;
      parameters_len_bound = omega (arith, ap (λ (h : Header). h.globals) own, pre.parameters_len_bound);
      frame_len = omega (arith, here.1, frame-size.ensures, length-take frame-size.result cleared.new.self);
    }

pub returns : goal.returns
returns c =
    let fill_frame = c.fill_frame in
    let frame-size = c.frame_size-size in
    let cleared = c.fill in
    let a = c.args in
    alone-filled a.r.now a.parameters.now (length a.memory.now) frame-size.result cleared.new.self
    fill_frame.new.frame _ (rw (← c.header_of-h.ensures) frame-size.ensures)
    (cleared.ensures.after (λ y e. e)) fill_frame.ensures refl
