use Rattle.law.proofs.Whole.{law}
use Rattle.law.proofs.the_law_holds_of_every_run.Goals as goal

pub returns : goal.returns
returns c = law
