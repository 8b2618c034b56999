-- What a module of a linked set has: sound entries, and a code that is not too long.
use Rattle.verifier.specs.Lent.{members}
use Rattle.verifier.proofs.Records.{a-module}
use Rattle.verifier.proofs.linked.LinkedSet.code.Goals as goal

pub returns-clause-sound : goal.returns-clause-sound
returns-clause-sound c =
    let set = c.args.self in
    rw (c.code_of.ensures, c.record.ensures) (a-module (members set) c.args.k set.linkable.numberless c.requires).entries

pub returns-clause-small : goal.returns-clause-small
returns-clause-small c =
    let set = c.args.self in
    rw (c.code_of.ensures, c.record.ensures) (a-module (members set) c.args.k set.linkable.numberless c.requires).small
