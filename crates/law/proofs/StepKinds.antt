-- The kinds of steps of a run.
use Rattle.std.proofs.Common.{◌≡◌, false}
use Rattle.refusal.specs.declared.Fault.{Fault}
use Rattle.definition.specs.State.{State}
use Rattle.definition.specs.Death.{advance, rests}
use Rattle.definition.specs.Calls.{Call, replied, outcome}
use Rattle.law.specs.Run.{Accepted, Refused, Small, Step, own_change}
use Rattle.law.proofs.Granted.{Granted}

-- a step of a run: the own change of a call that is granted, a refused call, or a small step while there is work
pub data Moment : Step → Type 0 where
  granting : (c : Call) (s : State) → Granted c s → Moment (record { what = Accepted c (replied (outcome c s)); before = s; after = own_change (outcome c s) })
  refusing : (c : Call) (fault : Fault) (s : State) → Moment (record { what = Refused c fault; before = s; after = s })
  moving : (s : State) → rests s ≡ false → Moment (record { what = Small; before = s; after = advance s })
