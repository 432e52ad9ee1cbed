-- The steps of a run lead from one moment to the next.
use Rattle.std.proofs.Common.{List, [], refl, subst}
use Rattle.std.proofs.lemmas.List.{append-nil}
use Rattle.definition.specs.State.{State}
use Rattle.definition.specs.Calls.{Call}
use Rattle.law.specs.Run.{Step, run, end, history, Chain}
use Rattle.law.specs.Events.{Every}
use Rattle.law.proofs.Moments.{Between, each_between, change_always}
use Rattle.law.proofs.WithHistory.{run_over}

pub chained : (cs : List Call) (s : State) → Between s → Chain (history (run cs s)) s (end cs s)
unfolding Every
chained cs s b =
    let o = run_over Between (λ c s i k g. (change_always c s k g).inv) (λ c s i k. each_between c s k) (λ h t. Chain h s t) (λ st h. Unit {0}) (λ st h m q. (tt, (refl, q))) cs s [] b (record { inv = b.always.inv; kept = refl; every = tt }) in
    subst (λ (h : List Step). Chain h s (end cs s)) (append-nil (history (run cs s))) o.kept
