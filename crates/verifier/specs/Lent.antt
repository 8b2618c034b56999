-- The members of a set that is lent as a linked one.
use Rattle.module_set.specs.Members.{Members, members_of}
use Rattle.verifier.specs.declared.linked.LinkedSet.{LinkedSet}

abbrev pub members : LinkedSet → Members
members set = members_of set.records.now set.lists.now set.directory.now
