-- How deaths start, how their turns open and end, and that they nest, over every run.
use Rattle.std.proofs.Common.{List}
use Rattle.definition.specs.State.{State}
use Rattle.definition.specs.Calls.{Call}
use Rattle.law.specs.Run.{run, history}
use Rattle.law.specs.Events.{Every}
use Rattle.law.proofs.Moments.{Between, each_between, change_always}
use Rattle.law.proofs.Everywhere.{Living, every_living}

pub living : (cs : List Call) (s : State) → Between s → Every Living (history (run cs s))
living cs s b = every_living Between (λ c s i k g. (change_always c s k g).inv) (λ c s i k. each_between c s k) cs s b.always.inv b
