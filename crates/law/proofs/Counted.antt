-- At every moment of a run counts are references.
use Rattle.std.proofs.Common.{List}
use Rattle.definition.specs.State.{State}
use Rattle.definition.specs.Calls.{Call}
use Rattle.law.specs.Run.{run, history}
use Rattle.law.specs.Events.{Every}
use Rattle.law.specs.Law.{Counted}
use Rattle.law.proofs.Counts.{counted_at}
use Rattle.law.proofs.Histories.{every_history}
use Rattle.law.proofs.Moments.{Between, advance_always, change_always}

pub every_counted : (cs : List Call) (s : State) → Between s → Every (λ st h. Counted st.after) (history (run cs s))
every_counted = every_history (λ st. Counted st.after) (record {
  accepts = λ c s b g. let a = change_always c s b g in counted_at _ a.inv a.arguments;
  refuses = λ c fault s b. counted_at s b.always.inv b.always.arguments;
  steps = λ s a. let n = advance_always s a in counted_at _ n.inv n.arguments;
})
