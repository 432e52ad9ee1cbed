use Rattle.law.proofs.Kept.{tallied}
use Rattle.law.proofs.tallies_tell_the_state.Goals as goal

pub returns : goal.returns
returns c = tallied
