-- `fast_external::external_step` meets its contract: each branch is its code's step, whose bytes lie within the code.
use mathlib.Core.Path.{◌≡◌, ◌∙◌, sym, ap}
use Prim.Native.Nat.{◌<◌}
use native.Mathlib.Omega.{arith}
use lib.ListN.{length}
use Rattle.std.specs.ControlFlow.{continue_value}
use Rattle.std.specs.Prelude.{Some}
use Rattle.words.specs.Bytes.{byte_at}
use Rattle.fast_frames.proofs.Decoding.{rtn-decodes}
use Rattle.fast_external.proofs.Decoding.{call-external-decodes, load-external-decodes}
use Rattle.fast_external.proofs.Decoding.{store-external-decodes, address-external-decodes}
use Rattle.fast_external.proofs.external_step.Goals.{In_ok-b}
use Rattle.fast_external.proofs.external_step.Goals as goal

-- The code byte.
here : (c : In_ok-b) → (byte_at c.args.code.now c.args.q.pc ≡ c.in_ok-b.field-0.now) × (c.args.q.pc < length c.args.code.now)
here c =
    let found : c.get.result ≡ Some c.in_ok-b.field-0 = c.branch-b.ensures ∙ ap continue_value c.in_ok-b.is in
    let (first, second, third, bounds, value) = c.get.ensures.lookup in
    (sym (rw found at (value (omega arith) 0)), (rw found at bounds).0)

pub return_external-requires : goal.return_external-requires
return_external-requires c =
    let if2 = c.if-b in
    let b = here (goal.at.return_external-requires c).In_ok-b in
    let a = c.args in
    let pre = c.requires in
    record {
      table_len_bound = pre.table_len_bound;
      decodes = rtn-decodes a.code.now a.q.pc (b.0 ∙ if2.true) b.1;
      ready = pre.ready;
    }

pub call_external-requires : goal.call_external-requires
call_external-requires c =
    let b = here (goal.at.call_external-requires c).In_ok-b in
    let if4 = c.in-230 in
    let byte2 = c.byte-n in
    let byte = c.byte-l in
    let if3 = c.if-code-pc in
    let a = c.args in
    let pre = c.requires in record {
      table_len_bound = pre.table_len_bound;
      decodes = rw (byte.ensures.0, byte2.ensures.0)
          (call-external-decodes a.code.now a.q.pc (b.0 ∙ if4.is) if3.false);
      ready = pre.ready;
    }

pub load_external-requires : goal.load_external-requires
load_external-requires c =
    let b = here (goal.at.load_external-requires c).In_ok-b in
    let if5 = c.in-137 in
    let byte2 = c.byte-n in
    let byte = c.byte-l in
    let if3 = c.if-code-pc in
    let a = c.args in
    let pre = c.requires in record {
      table_len_bound = pre.table_len_bound;
      decodes = rw (byte.ensures.0, byte2.ensures.0)
          (load-external-decodes a.code.now a.q.pc (b.0 ∙ if5.is) if3.false);
      ready = pre.ready;
    }

pub store_external-requires : goal.store_external-requires
store_external-requires c =
    let b = here (goal.at.store_external-requires c).In_ok-b in
    let if6 = c.in-152 in
    let byte2 = c.byte-n in
    let byte = c.byte-l in
    let if3 = c.if-code-pc in
    let a = c.args in
    let pre = c.requires in record {
      table_len_bound = pre.table_len_bound;
      decodes = rw (byte.ensures.0, byte2.ensures.0)
          (store-external-decodes a.code.now a.q.pc (b.0 ∙ if6.is) if3.false);
      ready = pre.ready;
    }

pub address_external-requires : goal.address_external-requires
address_external-requires c =
    let b = here (goal.at.address_external-requires c).In_ok-b in
    let if7 = c.in-145 in
    let byte2 = c.byte-n in
    let byte = c.byte-l in
    let if3 = c.if-code-pc in
    let a = c.args in
    let pre = c.requires in record {
      table_len_bound = pre.table_len_bound;
      n_bound = byte2.ensures.1;
      decodes = rw (byte.ensures.0, byte2.ensures.0)
          (address-external-decodes a.code.now a.q.pc (b.0 ∙ if7.is) if3.false);
      ready = pre.ready;
    }
