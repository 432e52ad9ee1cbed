use Rattle.std.proofs.Common.{rules}
use Rattle.std.proofs.Math.Seq.{take-set-lt}
use Rattle.payload.proofs.rows.RowPayload.replace_edge.Goals as goal

pub returns-then-position-self : goal.returns-then-position-self
returns-then-position-self c = search (rules, take-set-lt)
