use Rattle.std.proofs.Common.{rules}
use Rattle.list_reader.specs.Calls.{Asks, Make}
use Rattle.list_reader.proofs.read.make.Goals as goal

pub returns-in_err-edges : goal.returns-in_err-edges
returns-in_err-edges c = let e = c.in_err-edges.ensures (λ edges. Asks (Make c.in_ok-class.class c.in_ok-dictionary.dictionary edges)) in search rules
