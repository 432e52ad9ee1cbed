use Rattle.law.proofs.Whole.{lives}
use Rattle.law.proofs.objects_live_and_die_in_order.Goals as goal

pub returns : goal.returns
returns c = lives
