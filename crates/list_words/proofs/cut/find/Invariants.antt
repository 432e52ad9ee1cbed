use Rattle.list_words.proofs.Cuts.{IsPast}
use Rattle.list_words.proofs.cut.find.Given as goal

abbrev pub invariant-loop-place : goal.invariant-loop-place
invariant-loop-place l = IsPast l.separator l.bytes l.place
