use Rattle.std.proofs.Common.{◌≡◌, rules, ◌+◌}
use Rattle.classes.specs.Rows.{find_del}
use Rattle.class_tables.specs.Kept.{rows_of}
use Rattle.class_settled.proofs.Filled.{gives}
use Rattle.class_settled.proofs.settled.settle.Goals as goal

pub returns : goal.returns
returns c =
    let items = c.from_fn.ensures.items in
    (items.long, λ k. gives _ _ (λ i y. y ≡ find_del (rows_of c.args.rows.now) (i + 1)) 64 (λ i y q low call. search rules) c.from_fn.result items k 0)
