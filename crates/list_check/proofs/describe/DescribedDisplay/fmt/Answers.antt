use Rattle.list_check.proofs.describe.DescribedDisplay.fmt.Goals as goal

pub returns-in-Make-clause-writes : goal.returns-in-Make-clause-writes
returns-in-Make-clause-writes g c plain ok = rw (c.in-Make.is, ← c.deref.ensures.value) (c.write-in-Make.ensures.writes plain ok)
