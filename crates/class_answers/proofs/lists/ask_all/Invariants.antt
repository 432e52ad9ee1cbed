use Rattle.std.proofs.Common.{◌≡◌, ◌++◌, drop, vec_items}
use Rattle.class_answers.specs.Answers.{answers_of, rows_after_all}
use Rattle.class_answers.proofs.lists.ask_all.Given as goal

abbrev pub invariant-loop-request : goal.invariant-loop-request
invariant-loop-request g l =
    (vec_items l.answers ++ answers_of (g.T.ClassTable.rows l.table) (drop l.request-index l.requests) ≡ answers_of (g.T.ClassTable.rows l.initial.table) l.requests)
    × (rows_after_all (g.T.ClassTable.rows l.table) (drop l.request-index l.requests) ≡ rows_after_all (g.T.ClassTable.rows l.initial.table) l.requests)
