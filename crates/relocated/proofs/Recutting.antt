-- The copy is cut like the record's code: each instruction that is visited ends at the same place. By induction on the cut.
use mathlib.Core.Bool.{Bool, true, false, cond}
use mathlib.Core.List.{List}
use mathlib.Core.Path.{◌≡◌, refl, ap}
use Prim.Native.Nat.{ℕ, zero, suc, ◌+◌, ◌-◌, ◌<◌, ◌≤◌}
use native.Mathlib.Omega.{arith}
use borrow.Author.Tests.{ltb-true}
use lib.Dec.{ltb}
use lib.ListN.{length}
use Rattle.entries.specs.Entries.{entry_at, entry_count, region_end}
use Rattle.header.specs.Header.{code_of}
use Rattle.record.specs.Number.{record_number}
use Rattle.opcode.specs.Decode.{decode_at}
use Rattle.opcode.specs.Decode.{Decoded}
use Rattle.opcode.specs.declared.DecodeError.TheVariants.{Unserved, Past}
use Rattle.std.specs.Prelude.{Err, Ok}
use Rattle.opcode.specs.declared.instruction.Instruction.{Instruction}
use Rattle.layout.specs.Cut.{Marks, updated, cut, cut_at, cut_from, cut_procedures, cut_of}
use Rattle.entries.proofs.Ordered.{ordered}
use Rattle.layout.proofs.Cutting.{Cutted, cutting-starts}
use Rattle.module_set.specs.Members.{Members}
use Rattle.relocation.specs.Relocation.{relocation_sound, relocated}
use Rattle.relocated.proofs.Copying.{copy-length}
use Rattle.relocated.proofs.Places.{Visits, visits-first, visits-later}
use Rattle.relocated.proofs.EntryTable.{code-sound, copy-entry, copy-count, copy-region, copy-sound}
use Rattle.relocated.proofs.Starts.{not-bad, thens}
use Rattle.relocated.proofs.Decoding.{renumbered, visited-decodes}

-- Two codes with one region of a procedure, whose visited instructions end at the same places.
module _ (c d : List ℕ) (p : ℕ) (region : region_end d p ≡ region_end c p) where
  abbrev EndsAlike : (n from : ℕ) → Type 0
  EndsAlike n from =
      (at : ℕ) (i : Instruction) (next : ℕ) → Visits c p n from at → decode_at c (region_end c p) at ≡ Ok (i, next)
      → (j : Instruction) × (decode_at d (region_end d p) at ≡ Ok (j, next))

  cut_step : (n from : ℕ) (marks marks' : Marks) (b : Bool) (e : Decoded) → ltb from (region_end c p) ≡ b
      → decode_at c (region_end c p) from ≡ e → EndsAlike (suc n) from
      → ((next : ℕ) (m : Marks) → EndsAlike n next → cut_from c p n next m ≡ cut marks' → cut_from d p n next m ≡ cut marks')
      → cond b (cut_at (cut_from c p n) p from marks e) (cut marks) ≡ cut marks'
      → cond b (cut_at (cut_from d p n) p from marks (decode_at d (region_end d p) from)) (cut marks) ≡ cut marks'
  cut_step n from marks marks' false e b' e' E rest q = q
  cut_step n from marks marks' true (Err Unserved) b' e' E rest q = absurd (not-bad q)
  cut_step n from marks marks' true (Err Past) b' e' E rest q = absurd (not-bad q)
  cut_step n from marks marks' true (Ok (i, next)) b' e' E rest q =
      rw (E from i next (visits-first (ltb-true from (region_end c p) b')) e').1
      (rest next (updated marks from (p + 1)) (λ at k after v. E at k after (visits-later e' v)) q)

  cut-same : (n from : ℕ) (marks marks' : Marks) → EndsAlike n from → cut_from c p n from marks ≡ cut marks'
      → cut_from d p n from marks ≡ cut marks'
  cut-same zero from marks marks' E q = q
  cut-same (suc n) from marks marks' E q =
      rw (ap (ltb from) region)
      (cut_step n from marks marks' (ltb from (region_end c p)) (decode_at c (region_end c p) from) refl refl E
      (λ next m. cut-same n next m marks') q)

module _ (S : Members) (r : List ℕ) (sound : record_number r ≡ 0) (placed : relocation_sound r ≡ true) where
  region-cut : (p : ℕ) (marks marks' : Marks) → p < entry_count (code_of r)
      → cut_from (code_of r) p (length (code_of r)) (entry_at (code_of r) p) marks ≡ cut marks'
      → cut_from (relocated S r) p (length (relocated S r)) (entry_at (relocated S r) p) marks ≡ cut marks'
  region-cut p marks marks' h q =
      rw (copy-length S r, copy-entry S r sound placed p h)
      (cut-same (code_of r) (relocated S r) p (copy-region S r sound placed p h)
      (length (code_of r)) (entry_at (code_of r) p) marks marks'
      (λ at i next v d. (renumbered S r i, visited-decodes S r sound placed p at i next h v d)) q)

  all-cut : (n p : ℕ) (marks marks' : Marks) → 1 ≤ p → p + n ≡ entry_count (code_of r)
      → cut_procedures (code_of r) p n marks ≡ cut marks' → cut_procedures (relocated S r) p n marks ≡ cut marks'
  all-cut zero p marks marks' l to q = region-cut 0 marks marks' (omega arith) q
  all-cut (suc n) p marks marks' l to q =
      let code = code_of r in
      let t = thens (cut_procedures code (p + 1) n) (cut_from code p (length code) (entry_at code p) marks) q in
      rw (region-cut p marks t.0 (omega arith) t.1) (all-cut n (p + 1) t.0 marks' (omega arith) (omega arith) t.2)

  pub copy-cut : (marks : Marks) → cut_of (code_of r) ≡ cut marks → cut_of (relocated S r) ≡ cut marks
  unfolding cut_of
  copy-cut marks q =
      let some = (ordered (code_of r) (code-sound r sound)).some in
      rw (copy-count S r sound placed)
      (all-cut (entry_count (code_of r) - 1) 1 (λ at. 0) marks (omega arith) (omega (arith, some)) q)

  -- What cutting the copy gives.
  pub copy-starts : (marks : Marks) → cut_of (code_of r) ≡ cut marks → Cutted (relocated S r) marks
  copy-starts marks q = cutting-starts (relocated S r) marks (copy-sound S r sound placed) (copy-cut marks q)
