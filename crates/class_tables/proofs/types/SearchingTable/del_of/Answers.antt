use Rattle.std.proofs.Common.{◌≡◌, rules, ◌∙◌}
use borrow.Author.Tests.{tests}
use Rattle.std.specs.List.{find}
use Rattle.std.specs.Option.{unwrap_or}
use Rattle.std.proofs.lemmas.Iterator.{YieldsList-from_slice}
use Rattle.std.proofs.lemmas.Iterator.Search.{find_from_yields_List}
use Rattle.classes.specs.Rows.{class_at}
use Rattle.class_tables.specs.Kept.{class_of, rows_of}
use Rattle.class_tables.proofs.Searching.{by_ancestors}
use Rattle.class_tables.proofs.types.SearchingTable.del_of.Goals as goal

pub returns : goal.returns
returns c =
    let rows = rows_of c.args.self.now in
    let kept = c.first.result.now in
    let found = find_from_yields_List (λ a. (class_at rows a).del) _ _ c.find.result c.find.ensures.ran (YieldsList-from_slice kept (search rules)) (λ x b q k. search (rules, tests)) in
    let first : c.unwrap_or.result ≡ unwrap_or (find (λ a. (class_at rows a).del) kept) 0 = search (rules, found) in
    first ∙ by_ancestors rows c.args.class (class_of c.in-Some.row.now) kept _ c.in-Some.ensures.1 c.if-row.false c.first.ensures
