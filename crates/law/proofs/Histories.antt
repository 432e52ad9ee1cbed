-- What holds of each kind of step holds of every step of a run.
use Rattle.std.proofs.Common.{List}
use Rattle.refusal.specs.declared.Fault.{Fault}
use Rattle.definition.specs.State.{State}
use Rattle.definition.specs.Death.{advance}
use Rattle.definition.specs.Calls.{Call, replied, outcome}
use Rattle.law.specs.Run.{Accepted, Refused, Small, Step, own_change, run, history}
use Rattle.law.specs.Events.{Every}
use Rattle.law.proofs.Granted.{Granted}
use Rattle.law.proofs.Moments.{Always, Between, advance_always, change_always, each_between}
use Rattle.law.proofs.WithHistory.{Made, own, refused, small, every_step}

pub record EachStep (P : Step → Type 0) : Type 0 where
  pub accepts : (c : Call) (s : State) → Between s → Granted c s → P (record { what = Accepted c (replied (outcome c s)); before = s; after = own_change (outcome c s) })
  pub refuses : (c : Call) (fault : Fault) (s : State) → Between s → P (record { what = Refused c fault; before = s; after = s })
  pub steps : (s : State) → Always s → P (record { what = Small; before = s; after = advance s })

module _ (P : Step → Type 0) (each : EachStep P) where
  one : (st : Step) (h : List Step) → Made Between st → Always st.before → P st × Always st.after
  one _ h (own c s i b g j) a = (each.accepts c s b g, change_always c s b g)
  one _ h (refused c fault s i b e) a = (each.refuses c fault s b, a)
  one _ h (small s i r) a = (each.steps s a, advance_always s a)

  pub every_history : (cs : List Call) (s : State) → Between s → Every (λ st h. P st) (history (run cs s))
  every_history cs s b =
      every_step Between (λ c s i k g. (change_always c s k g).inv) (λ c s i k. each_between c s k) (λ h s. Always s) (λ st h. P st) one cs s b.always.inv b b.always
