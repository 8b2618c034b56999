-- The table of a switch lies inside its instruction, which is not external: the copy has the same targets and labels at starts.
-- By the length of a switch, and the first byte of every instruction.
use mathlib.Core.Bool.{Bool, true, false, ◌||◌}
use mathlib.Core.List.{List}
use mathlib.Core.Path.{◌≡◌, ◌∙◌, refl, ap}
use Prim.Native.Nat.{ℕ, ◌+◌, ◌*◌, ◌<◌, ◌≤◌}
use native.Mathlib.Omega.{arith}
use borrow.Author.Tests.{eqb-true, eq-eqb}
use lib.Dec.{eqb}
use Rattle.words.specs.Bytes.{byte_at, halfword_at}
use Rattle.entries.specs.Entries.{region_end}
use Rattle.header.specs.Header.{code_of}
use Rattle.record.specs.Number.{record_number}
use Rattle.operand.specs.Distance.{place_at}
use Rattle.switch_table.specs.Switch.{exit_distance, else_distance, exit_label, branch_distance, range_distance}
use Rattle.opcode.specs.Table.{row_of}
use Rattle.opcode.specs.Length.{length_in}
use Rattle.opcode.specs.Decode.{instruction_at, decode_at}
use Rattle.opcode.proofs.Found.{origin, unprefixed}
use Rattle.std.specs.Prelude.{Ok}
use Rattle.opcode.specs.declared.instruction.Instruction.{Instruction}
use Rattle.shape.specs.Shape.{shape_of}
use Rattle.shape.specs.declared.Shape.TheVariants.{Iter, Switch}
use Rattle.shape.specs.declared.Table.{Table}
use Rattle.shape.specs.declared.Table.TheVariants.{Branches, Ranges}
use Rattle.shape.proofs.Origins.{iter-origin, switch-origin}
use Rattle.successors.specs.Successors.{table_size, table_target, switch_targets}
use Rattle.layout.specs.Cut.{Marks, cut, cut_of, starts_in}
use Rattle.stackmap.specs.Ways.{is_iter, is_switch, label_word}
use Rattle.module_set.specs.Members.{Members}
use Rattle.relocation.specs.Relocation.{relocation_sound, relocated}
use Rattle.relocated.proofs.Reading.{Agree, halfword-same}
use Rattle.words.proofs.Series.{series-same}
use Rattle.relocated.proofs.Decoding.{inner-bytes, first_byte}
use Rattle.relocated.proofs.Shapes.{other-inner}

-- The bytes of a switch.
abbrev switch_bytes : Table → ℕ → ℕ
switch_bytes Branches n = 9 + 2 * n
switch_bytes Ranges n = 7 + 10 * n

switch-long : (c : List ℕ) (limit at next : ℕ) (i : Instruction) → decode_at c limit at ≡ Ok (i, next) → (t : Table) (n : ℕ)
    → shape_of i ≡ Switch t n → next ≡ at + switch_bytes t n
unfolding length_in instruction_at row_of shape_of
switch-long c limit at next i e t n s =
    by (eqb (byte_at c at) 0xE2) refl (eqb (byte_at c at) 0xE3) refl (switch-origin c limit at next i e s).1
  where
    by : (b : Bool) → eqb (byte_at c at) 0xE2 ≡ b → (x : Bool) → eqb (byte_at c at) 0xE3 ≡ x → (b || x) ≡ true
        → next ≡ at + switch_bytes t n
    by true f x g o =
        let first : byte_at c at ≡ 0xE2 = eqb-true (byte_at c at) 0xE2 f in
        let F = unprefixed (origin c limit i next at e) (λ k. omega arith) in
        let k = halfword_at c (at + 1) in
        let same : Switch Branches k ≡ Switch t n = (rw first at (ap shape_of F.same)) ∙ s in
        let kind : t ≡ Branches = cc in
        let size : n ≡ k = cc in
        rw (kind, size) (omega (arith, rw first at F.ends))
    by false f true g o =
        let first : byte_at c at ≡ 0xE3 = eqb-true (byte_at c at) 0xE3 g in
        let F = unprefixed (origin c limit i next at e) (λ k. omega arith) in
        let k = halfword_at c (at + 1) in
        let same : Switch Ranges k ≡ Switch t n = (rw first at (ap shape_of F.same)) ∙ s in
        let kind : t ≡ Ranges = cc in
        let size : n ≡ k = cc in
        rw (kind, size) (omega (arith, rw first at F.ends))
    by false f false g o = let z : ◌≡◌ {A = ℕ} 0 1 = cc in absurd (omega arith)

head-long : (t : Table) (n : ℕ) → 7 ≤ switch_bytes t n
head-long Branches n = omega arith
head-long Ranges n = omega arith

-- Two codes that agree on a switch.
module _ (c d : List ℕ) (at : ℕ) where
  exit-same : Agree c d at (at + 7) → exit_label d at ≡ exit_label c at
  unfolding exit_distance
  exit-same A = ap (place_at at) (halfword-same c d (at + 3) (λ x l u. A x (omega arith) (omega arith)))

  else_same : Agree c d at (at + 7) → else_distance d at ≡ else_distance c at
  unfolding else_distance
  else_same A = halfword-same c d (at + 5) (λ x l u. A x (omega arith) (omega arith))

  target-same : (t : Table) (n : ℕ) → Agree c d at (at + switch_bytes t n) → (k : ℕ) → k < table_size t n
      → table_target d at t k ≡ table_target c at t k
  unfolding branch_distance range_distance
  target-same Branches n A k h = rw (halfword-same c d (at + 7 + 2 * k) (λ x l u. A x (omega arith) (omega arith)))
  target-same Ranges n A k h =
      rw (
        halfword-same c d (at + 7 + 10 * k + 8) (λ x l u. A x (omega arith) (omega arith)),
        else_same (λ x l u. A x l (omega arith)),
      )

  targets-same : (t : Table) (n : ℕ) → Agree c d at (at + switch_bytes t n) → switch_targets d at t n ≡ switch_targets c at t n
  unfolding switch_targets
  targets-same t n A =
      rw (
        else_same (λ x l u. A x l (omega (arith, head-long t n))),
        series-same (table_target d at t) (table_target c at t) 0 (table_size t n) (λ k l u. target-same t n A k (omega arith)),
      )

-- At a start of the cut.
module _ (S : Members) (r : List ℕ) (sound : record_number r ≡ 0) (placed : relocation_sound r ≡ true)
    (marks : Marks) (c : cut_of (code_of r) ≡ cut marks) (p at : ℕ) (s : starts_in marks p at ≡ true) (i : Instruction) (next : ℕ)
    (d : decode_at (code_of r) (region_end (code_of r) p) at ≡ Ok (i, next)) where
  pub copy-iter : is_iter (relocated S r) at ≡ is_iter (code_of r) at
  copy-iter = rw (first_byte S r sound placed marks c p at s i next d)

  pub copy-switch : is_switch (relocated S r) at ≡ is_switch (code_of r) at
  copy-switch = rw (first_byte S r sound placed marks c p at s i next d)

  pub iter_label : (k : ℕ) → shape_of i ≡ Iter k → label_word (relocated S r) at ≡ label_word (code_of r) at
  iter_label k e =
      let is : is_iter (code_of r) at ≡ true =
      eq-eqb (byte_at (code_of r) at) 0xE0 (iter-origin (code_of r) (region_end (code_of r) p) at next i d e).0 in
      rw (copy-iter, is)

  module _ (t : Table) (n : ℕ) (e : shape_of i ≡ Switch t n) where
    switch-agrees : Agree (code_of r) (relocated S r) at (at + switch_bytes t n)
    switch-agrees x l u =
        inner-bytes S r sound placed marks c p at s i next d (other-inner i (Switch t n) e refl) x l
        (omega (arith, switch-long (code_of r) (region_end (code_of r) p) at next i d t n e))

    pub copy-targets : switch_targets (relocated S r) at t n ≡ switch_targets (code_of r) at t n
    copy-targets = targets-same (code_of r) (relocated S r) at t n switch-agrees

    pub copy-exit : exit_label (relocated S r) at ≡ exit_label (code_of r) at
    copy-exit =
        exit-same (code_of r) (relocated S r) at
        (λ x l u. switch-agrees x l (omega (arith, head-long t n)))

    pub switch_label : label_word (relocated S r) at ≡ label_word (code_of r) at
    switch_label = rw (copy-iter, copy-exit)
