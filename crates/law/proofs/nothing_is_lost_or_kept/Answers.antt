use Rattle.law.proofs.Kept.{nothing_lost_or_kept}
use Rattle.law.proofs.nothing_is_lost_or_kept.Goals as goal

pub returns : goal.returns
returns c = nothing_lost_or_kept
