-- A run: the calls made on a newly opened core, their answers, and the moments between, small steps included.
use Rattle.std.specs.Prelude.{◌≡◌, ℕ, zero, suc, cond, List, [], ◌∷◌, ◌++◌, Some, None, Option, Result}
use Rattle.refusal.specs.declared.Fault.{Fault}
use Rattle.definition.specs.State.{State}
use Rattle.definition.specs.Death.{advance, rests, work}
use Rattle.definition.specs.Calls.{Call, Reply, Outcome, Answers, DeathsFollow, refusal, outcome, replied, call, answer}

-- what leads from one moment to the next: an accepted call's own change, a refused call, or a small step of the newest death
pub data What : Type 0 where
  Accepted : Call → Reply → What
  Refused : Call → Fault → What
  Small : What

pub record Step : Type 0 where
  pub what : What
  pub before : State
  pub after : State

-- the small steps from a moment on until no work is left, the newest first
abbrev pub small_steps : ℕ → State → List Step
small_steps zero s = []
small_steps (suc n) s = cond (rests s) [] (small_steps n (advance s) ++ (record { what = Small; before = s; after = advance s } ∷ []))

abbrev pub own_change : Outcome → State
own_change (Answers number listed s) = s
own_change (DeathsFollow left s) = s

abbrev pub following : Outcome → List Step
following (Answers number listed s) = []
following (DeathsFollow left s) = small_steps (work s) s

abbrev pub steps_of : Option Fault → Call → State → List Step
steps_of None c s = following (outcome c s) ++ (record { what = Accepted c (replied (outcome c s)); before = s; after = own_change (outcome c s) } ∷ [])
steps_of (Some fault) c s = record { what = Refused c fault; before = s; after = s } ∷ []

-- a call with its answer and its steps, the newest first
pub record Exchange : Type 0 where
  pub call : Call
  pub answer : Result Reply Fault
  pub steps : List Step

abbrev pub exchange : Call → State → Exchange
exchange c s = record { call = c; answer = answer c s; steps = steps_of (refusal c s) c s }

-- the calls of a run, the newest first, and where they lead
unfoldable pub run : List Call → State → List Exchange
run [] s = []
run (c ∷ cs) s = run cs (call c s) ++ (exchange c s ∷ [])

unfoldable pub end : List Call → State → State
end [] s = s
end (c ∷ cs) s = end cs (call c s)

-- all steps of a run, the newest first
abbrev pub history : List Exchange → List Step
history [] = []
history (e ∷ es) = e.steps ++ history es

-- each step begins where the one before it ended, from s to t
abbrev pub Chain : List Step → State → State → Type 0
Chain [] s t = t ≡ s
Chain (st ∷ h) s t = (t ≡ st.after) × Chain h s st.before
