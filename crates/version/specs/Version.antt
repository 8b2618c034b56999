-- The version word. 01: "A version table may be empty. Otherwise its first word is a digit or space, a digit, "/", then a hyphen
-- or A to Z."
use Rattle.std.specs.Prelude.{Bool, ◌&&◌, ◌||◌, List, ℕ, ◌+◌, leb, eqb}
use Rattle.words.specs.Bytes.{byte_at}
use Rattle.header.specs.declared.Header.{Header}
use Rattle.header.specs.Header.{versions_at}

-- The character b is one of first to last.
abbrev pub among : ℕ → ℕ → ℕ → Bool
among first last b = leb first b && leb b last

-- '0' is 48, ' ' 32, '/' 47, '-' 45, 'A' 65.
unfoldable pub issue_at : List ℕ → ℕ → Bool
issue_at r i =
    (among 48 57 (byte_at r i) || eqb (byte_at r i) 32) && (among 48 57 (byte_at r (i + 1)) && (eqb (byte_at r (i + 2)) 47
    && (eqb (byte_at r (i + 3)) 45 || among 65 90 (byte_at r (i + 3)))))

unfoldable pub version_sound : List ℕ → Header → Bool
version_sound r h = eqb h.versions 0 || issue_at r (versions_at h)
