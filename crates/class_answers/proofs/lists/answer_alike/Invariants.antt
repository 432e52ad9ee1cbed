use Rattle.std.proofs.Common.{◌≡◌}
use Rattle.class_answers.proofs.lists.answer_alike.Given as goal

abbrev pub invariant-loop-request : goal.invariant-loop-request
invariant-loop-request g l =
    g.A.ClassTable.rows l.initial.a ≡ g.B.ClassTable.rows l.initial.b → g.A.ClassTable.rows l.a ≡ g.B.ClassTable.rows l.b
