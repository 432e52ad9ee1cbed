use Rattle.std.proofs.Common.{rules}
use Rattle.list_reader.specs.Calls.{Asks}
use Rattle.list_reader.proofs.read.single.Goals as goal

pub returns-in_err-last_number : goal.returns-in_err-last_number
returns-in_err-last_number g c made h = let e = c.in_err-last_number.ensures (λ n. Asks (made n)) in search rules

pub returns : goal.returns
returns g c made h = let e = c.in_ok-last_number.ensures (λ n. Asks (made n)) in let f = h _ _ (search rules) c.call.ensures in search rules
