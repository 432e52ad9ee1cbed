use Rattle.std.proofs.Common.{◌≡◌, ◌+◌, ◌++◌, map, drop, vec_items}
use Rattle.list_reader.specs.Readings.{said}
use Rattle.list_check.specs.Report.{entries}
use Rattle.list_check.proofs.report.entries.Given as goal

abbrev pub invariant-loop-i : goal.invariant-loop-i
invariant-loop-i l = vec_items l.text ++ entries (l.i + 1) (map said (drop l.i l.lines)) ≡ entries 1 (map said l.lines)
