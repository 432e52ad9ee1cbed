use Rattle.definition.specs.Opening.{opening}
use Rattle.law.proofs.Moments.{opening_between, end_between}
use Rattle.law.proofs.Ending.{hand_backs_end_at}
use Rattle.law.proofs.hand_backs_end.Goals as goal

pub returns : goal.returns
returns c capacity first classes e cs =
    let end = end_between cs (opening capacity first classes) (opening_between capacity first classes e) in hand_backs_end_at _ end.always.inv end.rests
