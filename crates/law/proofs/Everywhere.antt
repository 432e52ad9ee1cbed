-- How objects live and die, over every run: the five fields of the law that say when deaths start, how their turns open and end, and that they nest.
use Rattle.std.proofs.Common.{ℕ, List, [], ◌∷◌, ◌≢◌}
use Rattle.definition.specs.State.{State}
use Rattle.definition.specs.Calls.{Call, outcome, call}
use Rattle.law.specs.Run.{Refused, Step, own_change, run, history}
use Rattle.law.specs.Events.{Dying, Every, Newer}
use Rattle.law.specs.Law.{Still}
use Rattle.law.proofs.Invariant.{Inv}
use Rattle.law.proofs.Granted.{Granted}
use Rattle.law.proofs.Living.{Changes, quiet}
use Rattle.law.proofs.Smalls.{quiet_self, small_changes}
use Rattle.law.proofs.Calling.{own_changes}
use Rattle.law.proofs.Deaths.{OneStep, one_step}
use Rattle.law.proofs.WithHistory.{Made, own, refused, small, made_before, made_after, every_step}
use Rattle.law.proofs.Waiting.{CallEnds, made_call_ends}
use Rattle.law.proofs.Nesting.{OrderedStack, order_kept, nested}

-- what each kind of step changes
pub made_changes : {K : State → Type 0} (st : Step) → Made K st → Changes st.what st.before st.after
made_changes _ (own c s i k g j) = own_changes c s i g
made_changes _ (refused c fault s i k e) = quiet (Refused c fault) s s (quiet_self s)
made_changes _ (small s i r) = small_changes s i

-- fields of the record Lives that rest on no callback
pub record Living (st : Step) (h : List Step) : Type 0 where
  pub one : OneStep st
  pub call_ends : CallEnds st.what st.before st.after
  pub nested : (o p : ℕ) → o ≢ p → Dying st.before o → Dying st.before p → Newer h p o → Still st.before st.after o

-- each step keeps the order of the stack, and so it is as the law says
pub living_kept : {K : State → Type 0} (st : Step) (h : List Step) → Made K st → OrderedStack h st.before → Living st h × OrderedStack (st ∷ h) st.after
living_kept st h m r =
    let ch = made_changes st m in
    (record { one = one_step st ch; call_ends = made_call_ends st m; nested = nested st ch h (made_before st m) r }, order_kept st ch h (made_after st m) r)

-- Over every run from a state with the invariant. K is what holds besides between calls: given that there each accepted
-- call's own change keeps the invariant, and each call K
pub every_living :
    (K : State → Type 0)
    → ((c : Call) (s : State) → Inv s [] → K s → Granted c s → Inv (own_change (outcome c s)) [])
    → ((c : Call) (s : State) → Inv s [] → K s → K (call c s))
    → (cs : List Call) (s : State) → Inv s [] → K s → Every Living (history (run cs s))
unfolding Newer
every_living K effect again cs s i k = every_step K effect again OrderedStack Living living_kept cs s i k (record { above = λ o p ne d e n. absurd n })
