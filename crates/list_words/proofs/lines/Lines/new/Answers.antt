use Rattle.std.proofs.Common.{ap, ◌∙◌, take}
use Rattle.std.proofs.lemmas.List.{take_min}
use Rattle.list_words.specs.Pieces.{lines}
use Rattle.list_words.proofs.Joins.{split_again}
use Rattle.list_words.proofs.lines.Lines.new.Goals as goal

pub returns-clause-lines : goal.returns-clause-lines
returns-clause-lines c = ap (λ n. lines (take n c.args.list.now)) c.min.ensures ∙ ap lines (take_min 65536 c.args.list.now)

pub returns-clause-again : goal.returns-clause-again
returns-clause-again c = split_again c.args.list.now _ (returns-clause-lines c)
