use Rattle.std.proofs.Common.{rules}
use Rattle.list_reader.specs.Calls.{Asks, Weaken}
use Rattle.list_reader.proofs.read.weaken.Goals as goal

pub returns-in_err-callback : goal.returns-in_err-callback
returns-in_err-callback c = let e = c.in_err-callback.ensures (λ callback. Asks (Weaken c.in_ok-class.class c.in_ok-object.object callback)) in search rules

pub returns : goal.returns
returns c = let e = c.in_ok-callback.ensures (λ callback. Asks (Weaken c.in_ok-class.class c.in_ok-object.object callback)) in search rules
