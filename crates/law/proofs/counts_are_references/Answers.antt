use Rattle.definition.specs.Opening.{opening}
use Rattle.law.proofs.Moments.{opening_between}
use Rattle.law.proofs.Counted.{every_counted}
use Rattle.law.proofs.counts_are_references.Goals as goal

pub returns : goal.returns
returns c capacity first classes e cs = every_counted cs (opening capacity first classes) (opening_between capacity first classes e)
