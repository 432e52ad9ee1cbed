use Rattle.definition.specs.Opening.{opening}
use Rattle.law.proofs.Moments.{opening_between}
use Rattle.law.proofs.Placed.{every_named}
use Rattle.law.proofs.places_name_what_was_put_there.Goals as goal

pub returns : goal.returns
returns c capacity first classes e cs = every_named cs (opening capacity first classes) (opening_between capacity first classes e)
