-- The libraries that the copies name: by module numbers instead of a record's import list. Each number of an import stands for the same
-- library in both.
use mathlib.Core.Bool.{true}
use mathlib.Core.List.{List, [], ◌∷◌}
use mathlib.Core.Path.{◌≡◌, ◌∙◌, refl, sym}
use Prim.Native.Nat.{ℕ, zero, suc, ◌≤◌, ◌<◌}
use native.Mathlib.Omega.{arith}
use borrow.Author.Tests.{lt-ltb}
use lib.ListN.{length, get_or}
use Rattle.words.proofs.Series.{series-length}
use Rattle.header.specs.Header.{header_of}
use Rattle.entries.specs.Libraries.{Library, no_library, library_in}
use Rattle.words.specs.Bytes.{word_at}
use Rattle.module_set.specs.Members.{Members, member_at, libraries, imports_of, number_of, resolved}
use Rattle.module_set.specs.Linked.{linked}
use Rattle.verifier.specs.Check.{library_of, libraries_over, libraries_of}
use Rattle.relocated.proofs.Modules.{resolved-range}
use Rattle.relocated.proofs.Numbers.{SameLibraries}

abbrev lent_from : Members → List Library
lent_from [] = []
lent_from (M ∷ S) = library_of M ∷ lent_from S

abbrev pub lent_libraries : Members → List Library
lent_libraries S = lent_from (libraries S)

from_at : (S : Members) (l : ℕ) → l < length S → get_or (lent_from S) l no_library ≡ library_of (member_at S l)
from_at [] l h = absurd (omega arith)
from_at (M ∷ S) zero h = refl
from_at (M ∷ S) (suc l) h = from_at S l (omega arith)

pub lent_at : (S : Members) (l : ℕ) → 0 < l → l < length S → library_in (lent_libraries S) l ≡ library_of (member_at S l)
unfolding library_in
lent_at [] l some h = absurd (omega arith)
lent_at (M ∷ S) zero some h = absurd (omega arith)
lent_at (M ∷ S) (suc l) some h = from_at S l (omega arith)

over-at : (S : Members) (sids : List ℕ) (l : ℕ) → l < length sids
    → get_or (libraries_over S sids) l no_library ≡ library_of (member_at S (number_of S (get_or sids l 0)))
over-at S [] l h = absurd (omega arith)
over-at S (sid ∷ sids) zero h = refl
over-at S (sid ∷ sids) (suc l) h = over-at S sids l (omega arith)

import-at : (S : Members) (r : List ℕ) (l : ℕ) → 1 ≤ l → l ≤ (header_of r).imports
    → library_in (libraries_of S r) l ≡ library_of (member_at S (resolved S r l))
unfolding library_in libraries_of resolved
import-at S r zero some most = absurd (omega arith)
import-at S r (suc l) some most =
    let long : length (imports_of r) ≡ (header_of r).imports = series-length (word_at r) 4 28 (header_of r).imports in
    rw (lt-ltb l (length (imports_of r)) (omega arith)) (over-at S (imports_of r) l (omega arith))

-- Of a member of a linked set.
pub same-libraries : (S : Members) (r : List ℕ) → linked S ≡ true → (k : ℕ) → k < length S → (member_at S k).bytes ≡ r
    → SameLibraries S r (libraries_of S r) (lent_libraries S)
same-libraries S r together k inside member l some most =
    let range = resolved-range S r together k inside member l some most in
    lent_at S (resolved S r l) range.0 range.1 ∙ sym (import-at S r l some most)
