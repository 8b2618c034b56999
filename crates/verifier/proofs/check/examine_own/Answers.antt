-- The table holds the libraries of the module.
use lib.ListN.{length}
use Rattle.verifier.specs.Lent.{members}
use Rattle.verifier.proofs.Records.{listed}
use Rattle.verifier.proofs.check.examine_own.Goals as goal

pub fill_libraries-size-requires : goal.fill_libraries-size-requires
fill_libraries-size-requires c = (listed (members c.args.set) c.args.own (length c.args.w.now) c.requires).inside

pub code-code-requires : goal.code-code-requires
code-code-requires c = (listed (members c.args.set) c.args.own (length c.args.w.now) c.requires).inside

pub results-requires : goal.results-requires
results-requires c = (listed (members c.args.set) c.args.own (length c.args.w.now) c.requires).inside

pub examine_in-requires-clause-room : goal.examine_in-requires-clause-room
examine_in-requires-clause-room c =
    rw c.code-code.ensures.value (listed (members c.args.set) c.args.own (length c.args.w.now) c.requires).enough
