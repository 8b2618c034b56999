-- The numbers 1 to 7 over a set, and 17.
use Rattle.std.specs.Prelude.{Bool, true, false, not, ◌&&◌, ◌||◌, List, [], ◌∷◌, ℕ, eqb, leb, length}
use Rattle.words.specs.Order.{every}
use Rattle.words.specs.Refusal.{lower}
use Rattle.record.specs.Number.{record_number}
use Rattle.module_set.specs.Members.{Member, Members, libraries, imports_of}

abbrev pub every_member : (Member → Bool) → Members → Bool
every_member test [] = true
every_member test (M ∷ S) = test M && every_member test S

-- The lowest number that a member gives; 0 where none does.
abbrev pub lowest_of : (Member → ℕ) → Members → ℕ
lowest_of number [] = 0
lowest_of number (M ∷ S) = lower (number M) (lowest_of number S)

-- 02, K1: "Load, run and each check make their tests over every module". No module at all is 1.
unfoldable pub records_number : Members → ℕ
records_number [] = 1
records_number (M ∷ S) = lowest_of (λ X. record_number X.bytes) (M ∷ S)

abbrev pub has : List ℕ → ℕ → Bool
has [] x = false
has (y ∷ ys) x = eqb y x || has ys x

abbrev pub sids_of : Members → List ℕ
sids_of [] = []
sids_of (M ∷ S) = M.sid ∷ sids_of S

abbrev pub distinct : List ℕ → Bool
distinct [] = true
distinct (x ∷ xs) = not (has xs x) && distinct xs

-- 17: "an import not among the lent libraries, two under one SID, or over 16 modules". The main module has no SID.
unfoldable pub linked : Members → Bool
linked S =
    leb (length S) 16
    && (distinct (sids_of (libraries S)) && every_member (λ M. every (has (sids_of (libraries S))) (imports_of M.bytes)) S)
