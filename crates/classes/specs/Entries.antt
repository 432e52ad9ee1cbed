-- What is read of a class.
use Rattle.std.specs.Prelude.{length}
use Rattle.classes.specs.Rows.{Class}
use Rattle.classes.specs.declared.entries.Entries.{Entries}

abbrev pub entries_of : Class → Entries
entries_of k = record { members = k.members; dictionary = k.dictionary; weak = k.weak; immutable = k.immutable; del = k.del; ancestor_count = length k.ancestors }
