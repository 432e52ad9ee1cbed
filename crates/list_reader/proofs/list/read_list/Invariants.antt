use Rattle.std.proofs.Common.{◌≡◌, ◌++◌, map, vec_items}
use Rattle.list_reader.specs.Calls.{says}
use Rattle.list_words.specs.Pieces.{lines, counted}
use Rattle.list_reader.specs.Readings.{said}
use Rattle.list_reader.proofs.list.read_list.Given as goal

abbrev pub invariant-loop-line : goal.invariant-loop-line
invariant-loop-line l = map said (vec_items l.read) ++ map says l.line-iterator ≡ map says (lines (counted l.list))
