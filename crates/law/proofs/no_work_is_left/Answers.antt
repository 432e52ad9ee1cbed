use Rattle.definition.specs.Opening.{opening}
use Rattle.law.proofs.Moments.{opening_between, end_between}
use Rattle.law.proofs.no_work_is_left.Goals as goal

pub returns : goal.returns
returns c capacity first classes e cs = (end_between cs (opening capacity first classes) (opening_between capacity first classes e)).rests
