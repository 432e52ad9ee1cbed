use Rattle.std.proofs.Common.{rules, get_or, length, ◌∙◌, arith}
use borrow.Author.Tests.{tests}
use Rattle.std.proofs.lemmas.Iterator.{YieldsList-from_range}
use Rattle.std.proofs.lemmas.Iterator.Search.{all_from_yields_List}
use Rattle.classes.specs.Rows.{class_at, known}
use Rattle.classes.proofs.Checks.{known_by_place}
use Rattle.classes.proofs.good.knows_ancestors.Goals as goal

pub returns : goal.returns
returns g c =
    let rows = g.T.ClassTable.rows c.args.table.now in
    let ancestors = (class_at rows c.args.class).ancestors in
    let n = length ancestors in
    all_from_yields_List (λ i. known rows (get_or ancestors i 0)) _ _ _ c.all.ensures.ran (YieldsList-from_range 0 n n (cc) (omega arith)) (λ x b q k. search (rules, tests))
    ∙ known_by_place rows ancestors
