use Rattle.definition.specs.Opening.{opening}
use Rattle.law.proofs.Moments.{opening_between}
use Rattle.law.proofs.Settings.{every_set}
use Rattle.law.proofs.settings_are_what_calls_set.Goals as goal

pub returns : goal.returns
returns c capacity first classes e cs = every_set cs (opening capacity first classes) (opening_between capacity first classes e)
