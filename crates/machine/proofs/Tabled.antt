-- A table that holds the modules of a set: it has as many rows, the data frames are short, and so are the codes.
use mathlib.Core.List.{List}
use mathlib.Core.Path.{◌≡◌, ◌∙◌, sym, ap}
use Prim.Native.Nat.{ℕ, ◌/◌, ◌≤◌}
use lib.ListN.{length}
use Rattle.module_set.specs.Members.{Members}
use Rattle.relocation.specs.Relocation.{set_number}
use Rattle.registers.specs.Modules.{Modules, frames_start, modules_in}
use Rattle.registers.proofs.Rows.{modules-length, frames-same}
use Rattle.load.specs.Modules.{modules_of}
use Rattle.load.proofs.Modules.{codes-short}
use Rattle.step.specs.Ready.{Short}
use Rattle.run.proofs.Taking.{frames_small}

module _ (S : Members) (none : set_number S ≡ 0) (t c : List ℕ) (same : modules_in t c ≡ modules_of S) where
  pub tabled-count : length t / 5 ≡ length (modules_of S)
  tabled-count = sym (modules-length t c) ∙ ap (λ (Ms : Modules). length Ms) same

  -- The frames whatever the copy.
  pub tabled-frames : (d : List ℕ) → frames_start (modules_in t d) ≤ 65536
  tabled-frames d = rw (frames-same t d c, same) (frames_small S none)

  pub tabled-short : Short (modules_in t c)
  tabled-short k = rw same (codes-short S none k)
