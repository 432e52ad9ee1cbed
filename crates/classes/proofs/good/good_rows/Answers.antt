use Rattle.std.proofs.Common.{◌≡◌, rules, get_or, length, ◌∙◌, arith}
use borrow.Author.Tests.{tests}
use Rattle.std.proofs.lemmas.Iterator.{YieldsList-from_range}
use Rattle.std.proofs.lemmas.Iterator.Search.{all_from_yields_List}
use Rattle.classes.specs.Rows.{no_class, good_row, all_good}
use Rattle.classes.proofs.Checks.{good_by_place, class_at_next}
use Rattle.classes.proofs.good.good_rows.Goals as goal
use Rattle.classes.proofs.good.good_rows.Goals.{then-last-ne0, else-last-ne0}

pub returns-then-is_plain_weak : goal.returns-then-is_plain_weak
returns-then-is_plain_weak g c =
    let rows = g.T.ClassTable.rows c.args.table.now in
    let n = length rows in
    let each : c.all.result ≡ all_good rows rows =
    all_from_yields_List (λ i. good_row rows (get_or rows i no_class)) _ _ _ c.all.ensures.ran (YieldsList-from_range 0 n n (cc) (omega arith)) (λ x b q k. search (rules, tests, class_at_next))
    ∙ good_by_place rows in
    elim c.if-last-ne0.branch [ then-last-ne0 w ↦ grind arith | else-last-ne0 w ↦ absurd (grind arith) ]
