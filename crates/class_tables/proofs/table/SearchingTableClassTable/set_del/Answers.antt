use Rattle.std.proofs.Common.{◌≡◌, rules, true, sym, ap, ◌∙◌}
use Rattle.classes.specs.Rows.{Class, class_at, known}
use Rattle.class_tables.specs.Kept.{class_of, rows_of}
use Rattle.class_tables.proofs.Setting.{row_set}
use Rattle.class_tables.proofs.table.SearchingTableClassTable.set_del.Goals as goal

pub returns-clause-after : goal.returns-clause-after
returns-clause-after c =
    let rows = rows_of c.args.self.now in
    let is : known rows c.args.class ≡ true = search rules in
    let row : class_of c.in-Some.row.now ≡ class_at rows c.args.class = search rules in
    row_set c.args.self.now c.args.class c.args.del _ is (ap (λ (k : Class). k.immutable) (sym row) ∙ c.if-row.false)
