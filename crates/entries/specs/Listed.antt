-- The libraries that code lends together.
use Rattle.std.specs.Prelude.{List}
use Rattle.entries.specs.Libraries.{Library, libraries_in}
use Rattle.entries.specs.declared.Libraries.{Libraries}

abbrev pub listed : Libraries → List Library
listed L = libraries_in L.table.now L.records.now L.lists.now
