-- `load::is_taken` meets its contract: the parameters, then the copy, then memory and stack.
use mathlib.Core.List.{[]}
use lib.ListN.{length}
use borrow.Author.Tests.{lt-leb, le-leb}
use Rattle.module_set.specs.Members.{members_of}
use Rattle.relocation.proofs.Sound.{set_sound}
use Rattle.load.proofs.Modules.{set-few}
use Rattle.load.proofs.Loading.{main-globals}
use Rattle.load.proofs.is_taken.Goals as goal

pub returns-then-main-parameters : goal.returns-then-main-parameters
returns-then-main-parameters c =
    let if1 = c.if-main-parameters in
    let header_of = c.header_of-main in
    let record_of = c.record_of in
    let a = c.args in
    let pre = c.requires in
    λ lists.
    let S = members_of a.records.now lists a.directory.now in
    rw (
      main-globals S (pre lists) record_of.result.now (record_of.ensures lists) header_of.result header_of.ensures,
      lt-leb (length a.parameters.now) header_of.result.globals if1.true,
    )

pub copy_size-requires : goal.copy_size-requires
copy_size-requires c =
    let a = c.args in
    let pre = c.requires in record {
      directory_len_bound = set-few a.records.now [] a.directory.now (pre []);
      by_index = λ lists. (set_sound (members_of a.records.now lists a.directory.now) (pre lists)).records;
    }

pub returns-then-copy-copy_size : goal.returns-then-copy-copy_size
returns-then-copy-copy_size c =
    let if2 = c.if-copy-copy_size in
    let copy-size = c.copy_size in
    let if1 = c.if-main-parameters in
    let header_of = c.header_of-main in
    let record_of = c.record_of in
    let a = c.args in
    let pre = c.requires in
    λ lists.
    let S = members_of a.records.now lists a.directory.now in
    rw (
      main-globals S (pre lists) record_of.result.now (record_of.ensures lists) header_of.result header_of.ensures,
      le-leb (length a.parameters.now) header_of.result.globals if1.false,
      ← copy-size.ensures lists,
      lt-leb copy-size.result (length a.copy.now) if2.true,
    )

pub returns : goal.returns
returns c =
    let sizes-taken = c.sizes_taken in
    let frames-start = c.frames_start in
    let if2 = c.if-copy-copy_size in
    let copy-size = c.copy_size in
    let if1 = c.if-main-parameters in
    let header_of = c.header_of-main in
    let record_of = c.record_of in
    let a = c.args in
    let pre = c.requires in
    λ lists.
    let S = members_of a.records.now lists a.directory.now in
    rw (
      main-globals S (pre lists) record_of.result.now (record_of.ensures lists) header_of.result header_of.ensures,
      le-leb (length a.parameters.now) header_of.result.globals if1.false,
      ← copy-size.ensures lists,
      le-leb copy-size.result (length a.copy.now) if2.false,
      ← frames-start.ensures lists,
    ) sizes-taken.ensures
