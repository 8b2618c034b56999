-- How long pages are. 01: run-and-report "answers the bytes written, or 0 for a buffer too short, which stays untouched". Every
-- run file has a page, and 32,768 bytes hold any: so with such a buffer 0 is never answered.
use Rattle.std.specs.Prelude.{List, ℕ, ◌≤◌, length}
use Rattle.report.specs.Report.{text_of}

abbrev pub PagesFit : Type 0
PagesFit = (f : List ℕ) → (1 ≤ length (text_of f)) × (length (text_of f) ≤ 32768)
