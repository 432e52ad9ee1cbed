-- Over every run a place names what an accepted call last put there, until a death empties it.
use Rattle.std.proofs.Common.{List, refl}
use Rattle.definition.specs.State.{State}
use Rattle.definition.specs.Calls.{Call}
use Rattle.law.specs.Run.{run, history}
use Rattle.law.specs.Events.{Every}
use Rattle.law.specs.Places.{Named}
use Rattle.law.proofs.Placing.{step_named}
use Rattle.law.proofs.Puts.{call_named}
use Rattle.law.proofs.Histories.{every_history}
use Rattle.law.proofs.Moments.{Between}

pub every_named : (cs : List Call) (s : State) → Between s → Every (λ st h. Named st.what st.before st.after) (history (run cs s))
every_named = every_history (λ st. Named st.what st.before st.after) (record {
  accepts = λ c s b g. call_named c s b.always.inv b.always.shaped g;
  refuses = λ c fault s b p q. refl;
  steps = λ s a. step_named s a.inv a.listed;
})
