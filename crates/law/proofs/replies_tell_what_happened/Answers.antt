use Rattle.law.proofs.Telling.{replies}
use Rattle.law.proofs.replies_tell_what_happened.Goals as goal

pub returns : goal.returns
returns c capacity first classes e cs = replies capacity first classes cs
