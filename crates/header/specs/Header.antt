-- The header and the places of the parts. 01: "Seven header words, highest byte first: import list, code, globals (g),
-- constants (c), relocation, version table, source table. Code is counted in bytes, the rest in words. The parts follow in that
-- order without gaps; globals have no part."
use Rattle.std.specs.Prelude.{Bool, ◌&&◌, List, ℕ, ◌+◌, ◌*◌, leb, take, drop}
use Rattle.words.specs.Bytes.{word_at}
use Rattle.header.specs.declared.Header.{Header}

unfoldable pub header_of : List ℕ → Header
header_of r =
    record {
      imports = word_at r 0;
      code = word_at r 4;
      globals = word_at r 8;
      constants = word_at r 12;
      relocation = word_at r 16;
      versions = word_at r 20;
      sources = word_at r 24;
    }

-- 01: "Largest sizes: 16, 4,096, 1,024, 1,024, 4,096, 16, 2,048."
unfoldable pub sizes_fit : Header → Bool
sizes_fit h =
    leb h.imports 16 && (leb h.code 4096 && (leb h.globals 1024 && (leb h.constants 1024
    && (leb h.relocation 4096 && (leb h.versions 16 && leb h.sources 2048)))))

-- Where each part begins, and where the last one ends: the length of the record.
unfoldable pub code_at : Header → ℕ
code_at h = 28 + 4 * h.imports

unfoldable pub constants_at : Header → ℕ
constants_at h = code_at h + h.code

unfoldable pub relocation_at : Header → ℕ
relocation_at h = constants_at h + 4 * h.constants

unfoldable pub versions_at : Header → ℕ
versions_at h = relocation_at h + 4 * h.relocation

unfoldable pub sources_at : Header → ℕ
sources_at h = versions_at h + 4 * h.versions

unfoldable pub record_length : Header → ℕ
record_length h = sources_at h + 4 * h.sources

-- The bytes of the code part.
unfoldable pub code_of : List ℕ → List ℕ
code_of r = take (header_of r).code (drop (code_at (header_of r)) r)
