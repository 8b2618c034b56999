-- `number::is_relocation_sound` meets its contract: code without an external instruction has no entry; else entries
-- by the marks of the places, then places by the marks of the entries.
use mathlib.Core.Path.{◌∙◌, refl, sym, ap}
use Rattle.header.specs.declared.Header.{Header}
use Rattle.relocation.proofs.Sound.{sound-held}
use Rattle.relocation.proofs.Plain.{sound-plain}
use Rattle.relocation.proofs.number.is_relocation_sound.Goals as goal

pub returns-then-not-has_external_byte : goal.returns-then-not-has_external_byte
returns-then-not-has_external_byte c =
    let header_of = c.header_of in
    let if1 = c.if-not-has_external_byte in
    let has-external-byte = c.has_external_byte in
    let code_of_lem = c.code_of-code in
    let a = c.args in
    rw header_of.ensures (sound-plain a.r.now
    (rw (has-external-byte.ensures, code_of_lem.ensures) at (if1.true)))

pub returns-then-not-entries_point : goal.returns-then-not-entries_point
returns-then-not-entries_point c =
    let if2 = c.if-not-entries_point in
    let entries-point = c.entries_point in
    let mark-places = c.mark_places in
    let code_of_lem = c.code_of-code in
    let a = c.args in
    let pre = c.requires in
    sym (sound-held a.r.now pre.r_value code_of_lem.result.now _ _ _ entries-point.result
    code_of_lem.ensures mark-places.ensures refl refl entries-point.ensures
    ∙ rw (if2.true))

pub returns : goal.returns
returns c =
    let all_listed = c.all_listed in
    let header-of2 = c.header_of-imports in
    let mark-entries = c.mark_entries in
    let if2 = c.if-not-entries_point in
    let entries-point = c.entries_point in
    let mark-places = c.mark_places in
    let code_of_lem = c.code_of-code in
    let a = c.args in
    let pre = c.requires in
    all_listed.ensures ∙ sym (sound-held a.r.now pre.r_value code_of_lem.result.now _ _ _ entries-point.result
    code_of_lem.ensures mark-places.ensures mark-entries.ensures (ap (λ (h : Header). h.imports) header-of2.ensures)
    entries-point.ensures ∙ rw (if2.false))
