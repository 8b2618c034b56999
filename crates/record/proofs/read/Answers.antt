-- `record::read` meets its contract: the number of the sizes where there is one; else each return is the first test of the
-- parts that is given, and the last one none.
use mathlib.Core.Path.{◌≡◌}
use Rattle.numbers.specs.Number.{number_of}
use Rattle.numbers.specs.declared.Refusal.TheVariants.{Version, Sources, Entries}
use Rattle.words.specs.Refusal.{refusal}
use Rattle.header.specs.Header.{header_of}
use Rattle.record.specs.Number.{reading_of, part_tests, record_number}
use Rattle.record.proofs.Sound.{handed-on, refused, size-refuses, parts-decide}
use Rattle.std.proofs.Common.{rules}
use Rattle.record.proofs.read.Goals.{After-version_sound}
use Rattle.record.proofs.read.Goals as goal

pub returns-in_err-h : goal.returns-in_err-h
unfolding reading_of
returns-in_err-h c =
    let r = c.args.r.now in
    let e = c.in_err-h.field-0.0 in
    let same = size-refuses r e c.in_err-h.ensures.number in
    rw (handed-on c.from_residual.result e c.from_residual.ensures.1)
    record { answer = refused r (header_of r) e same; reading = same; number = same; header = search rules }

-- Where 1 to 3 are not given, the tests of the parts decide.
parts : (c : After-version_sound) →
    let r = c.args.r.now in
    record_number r ≡ refusal (part_tests r)
parts c = parts-decide c.args.r.now c.in_ok-h.ensures.number

pub returns-then-not-version_sound : goal.returns-then-not-version_sound
unfolding reading_of
returns-then-not-version_sound c =
    let r = c.args.r.now in
    let number : number_of Version ≡ record_number r =
    rw (
      parts (goal.at.returns-then-not-version_sound c).After-version_sound,
      ← c.in_ok-h.ensures.header,
      ← c.version_sound.ensures,
      c.if-not-version_sound.true,
    ) in
    record { answer = refused r (header_of r) Version number; reading = number; number = number; header = search rules }

pub returns-then-not-source_sound : goal.returns-then-not-source_sound
unfolding reading_of
returns-then-not-source_sound c =
    let r = c.args.r.now in
    let number : number_of Sources ≡ record_number r =
    rw (
      parts (goal.at.returns-then-not-source_sound c).After-version_sound,
      ← c.in_ok-h.ensures.header,
      ← c.version_sound.ensures,
      c.if-not-version_sound.false,
      ← c.source_sound.ensures,
      c.if-not-source_sound.true,
    ) in
    record { answer = refused r (header_of r) Sources number; reading = number; number = number; header = search rules }

pub returns-then-not-entries_sound : goal.returns-then-not-entries_sound
unfolding reading_of
returns-then-not-entries_sound c =
    let r = c.args.r.now in
    let number : number_of Entries ≡ record_number r =
    rw (
      parts (goal.at.returns-then-not-entries_sound c).After-version_sound,
      ← c.in_ok-h.ensures.header,
      ← c.version_sound.ensures,
      c.if-not-version_sound.false,
      ← c.source_sound.ensures,
      c.if-not-source_sound.false,
      ← c.code_of.ensures,
      ← c.entries_sound.ensures,
      c.if-not-entries_sound.true,
    ) in
    record { answer = refused r (header_of r) Entries number; reading = number; number = number; header = search rules }

pub returns : goal.returns
unfolding reading_of
returns c =
    let r = c.args.r.now in
    let number : 0 ≡ record_number r =
    rw (
      parts (goal.at.returns c).After-version_sound,
      ← c.in_ok-h.ensures.header,
      ← c.version_sound.ensures,
      c.if-not-version_sound.false,
      ← c.source_sound.ensures,
      c.if-not-source_sound.false,
      ← c.code_of.ensures,
      ← c.entries_sound.ensures,
      c.if-not-entries_sound.false,
    ) in
    record { answer = rw (← number, c.in_ok-h.ensures.header); reading = number; number = number; header = c.in_ok-h.ensures.header }
