-- The order of issues, and which of them wrap. 02, K11: "Issues order by number, then hyphen before letters; a leading space
-- counts as 0."
use Rattle.std.specs.Prelude.{Bool, true, cond, not, ◌&&◌, ◌||◌, List, [], ◌∷◌, ◌≡◌, ℕ, ◌+◌, ◌-◌, ◌*◌, eqb, ltb}
use Rattle.words.specs.Bytes.{byte_at}
use Rattle.header.specs.declared.Header.{Header}
use Rattle.header.specs.Header.{versions_at}

-- What a version word names: " 3/A" is number 3, revision A.
pub record Issue : Type 0 where
  pub number : ℕ
  pub revision : ℕ

-- '0' is 48, ' ' 32.
abbrev pub digit_of : ℕ → ℕ
digit_of b = cond (eqb b 32) 0 (b - 48)

-- '-' is 45, and comes before 'A', which is 65.
abbrev pub revision_of : ℕ → ℕ
revision_of b = cond (eqb b 45) 0 (b - 64)

unfoldable pub issue_of : List ℕ → ℕ → Issue
issue_of r i =
    record {
      number = 10 * digit_of (byte_at r i) + digit_of (byte_at r (i + 1));
      revision = revision_of (byte_at r (i + 3));
    }

abbrev pub earlier : Issue → Issue → Bool
earlier a b = ltb a.number b.number || (eqb a.number b.number && ltb a.revision b.revision)

-- Issue 3/-.
abbrev pub issue3 : Issue
issue3 = record { number = 3; revision = 0 }

-- 02, K11: "If the first version word is earlier than issue 3/-, these three wrap; from 3/- on, or with no version table, trap 31
-- stays."
unfoldable pub wraps : List ℕ → Header → Bool
wraps r h = not (eqb h.versions 0) && earlier (issue_of r (versions_at h)) issue3

-- Of an issue only the number decides, since 3/- is the first one of its number.
abbrev pub NumberDecides : Type 0
NumberDecides = (a : Issue) → earlier a issue3 ≡ ltb a.number 3

-- Each version word of a list names an earlier issue than the next one, and the next one no earlier issue.
abbrev pub in_order : List ℕ → List (List ℕ) → Bool
in_order a [] = true
in_order a (b ∷ words) =
    let first = issue_of a 0 in
    let second = issue_of b 0 in
    (earlier first second && not (earlier second first)) && in_order b words

-- What comes after " 1/-": "02/-", " 2/A", "02/Z", " 3/-", "03/A", " 9/Z", "10/-".
unfoldable pub later_words : List (List ℕ)
later_words =
    (0x30 ∷ 0x32 ∷ 0x2F ∷ 0x2D ∷ [])
    ∷ (0x20 ∷ 0x32 ∷ 0x2F ∷ 0x41 ∷ [])
    ∷ (0x30 ∷ 0x32 ∷ 0x2F ∷ 0x5A ∷ [])
    ∷ (0x20 ∷ 0x33 ∷ 0x2F ∷ 0x2D ∷ [])
    ∷ (0x30 ∷ 0x33 ∷ 0x2F ∷ 0x41 ∷ [])
    ∷ (0x20 ∷ 0x39 ∷ 0x2F ∷ 0x5A ∷ [])
    ∷ (0x31 ∷ 0x30 ∷ 0x2F ∷ 0x2D ∷ [])
    ∷ []

abbrev pub IssuesRise : Type 0
IssuesRise = in_order (0x20 ∷ 0x31 ∷ 0x2F ∷ 0x2D ∷ []) later_words ≡ true
