use Rattle.std.proofs.Common.{refl, sym, ◌∙◌}
use Rattle.list_words.proofs.Cuts.{cut_at, without}
use Rattle.list_words.proofs.Joins.{last_word, last_line}
use Rattle.list_words.proofs.cut.cut.Goals as goal

pub returns-in-Some : goal.returns-in-Some
returns-in-Some c last = cut_at c.args.separator last c.args.bytes.now c.in-Some.end (sym c.find.ensures ∙ c.in-Some.is)

pub returns-in-None : goal.returns-in-None
returns-in-None c =
    let none = without c.args.separator c.args.bytes.now (sym c.find.ensures ∙ c.in-None.is) in
    (refl, last_word c.args.separator c.args.bytes.now none, last_line c.args.separator c.args.bytes.now none)
