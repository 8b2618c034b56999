-- `icode::write_lookup` meets its contract: the length of `out`, then the values of each case of the lookup.
use lib.ListN.{length}
use borrow.Author.Tests.{lt-ltb, le-ltb}
use Rattle.icode.specs.Interface.{span_reply}
use Rattle.icode.proofs.Values.{four-values}
use Rattle.icode.proofs.write_lookup.Goals as goal

pub returns-then-out-lt4 : goal.returns-then-out-lt4
unfolding span_reply
returns-then-out-lt4 c =
    let a = c.args in
    rw (four-values a.lookup, lt-ltb (length a.out.now) 4 c.if-out-lt4.true)

pub returns-in-Some : goal.returns-in-Some
unfolding span_reply
returns-in-Some c =
    rw (
      c.in-Some.is,
      le-ltb (length c.args.out.now) 4 c.if-out-lt4.false,
      c.write_span.ensures,
    )

pub returns-in-None : goal.returns-in-None
unfolding span_reply
returns-in-None c =
    rw (
      c.in-None.is,
      le-ltb (length c.args.out.now) 4 c.if-out-lt4.false,
      c.write_span-in-None.ensures,
    )
