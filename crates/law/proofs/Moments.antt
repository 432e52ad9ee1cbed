-- What is so at every moment of a run, and between two calls.
use Rattle.std.proofs.Common.{◌≡◌, ℕ, zero, suc, true, List, [], ◌∷◌, Option, Some, None, refl}
use Rattle.refusal.specs.declared.Fault.{Fault}
use Rattle.classes.specs.Rows.{Class}
use Rattle.definition.specs.State.{State}
use Rattle.definition.specs.Death.{advance, rests, settle, settled, work}
use Rattle.definition.specs.Calls.{Call, Make, Hold, Drop, Store, Swap, SetDictionary, Weaken, Upgrade, ListWeak, Intern, Attend, SetDel, HandBack, Outcome, Answers, DeathsFollow, refusal, outcome, after, state_after, call}
use Rattle.definition.specs.Opening.{can_open, opening}
use Rattle.law.specs.Run.{own_change, end}
use Rattle.law.proofs.Invariant.{Inv}
use Rattle.law.proofs.Steps.{advance_inv}
use Rattle.law.proofs.Granted.{Granted, granted}
use Rattle.law.proofs.Makes.{make_effect, weaken_effect}
use Rattle.law.proofs.Shapes.{Shaped, advance_shaped, effect_shaped, opening_shaped}
use Rattle.law.proofs.Counts.{opening_inv}
use Rattle.law.proofs.Others.{effect_inv_other, after_rests}
use Rattle.law.proofs.Listed.{Listed, advance_listed}
use Rattle.law.proofs.Arguments.{Arguments, advance_arguments, effect_arguments, opening_arguments}
use Rattle.law.proofs.Referents.{effect_listed, opening_listed}

-- what an accepted call changes keeps the invariant
pub effect : (c : Call) (s : State) → Inv s [] → Shaped s → rests s ≡ true → Granted c s → Inv (own_change (outcome c s)) []
effect (Make class dictionary payload) s i sh r g = make_effect class dictionary payload s i g
effect (Hold o) s i sh r g = effect_inv_other (Hold o) tt s i sh r g
effect (Drop o lent) s i sh r g = effect_inv_other (Drop o lent) tt s i sh r g
effect (Store o slot v) s i sh r g = effect_inv_other (Store o slot v) tt s i sh r g
effect (Swap o edge v) s i sh r g = effect_inv_other (Swap o edge v) tt s i sh r g
effect (SetDictionary o dictionary lent) s i sh r g = effect_inv_other (SetDictionary o dictionary lent) tt s i sh r g
effect (Weaken class o callback dictionary) s i sh r g = weaken_effect class o callback dictionary s i g
effect (Upgrade w) s i sh r g = effect_inv_other (Upgrade w) tt s i sh r g
effect (ListWeak o lent) s i sh r g = effect_inv_other (ListWeak o lent) tt s i sh r g
effect (Intern o) s i sh r g = effect_inv_other (Intern o) tt s i sh r g
effect (Attend host) s i sh r g = effect_inv_other (Attend host) tt s i sh r g
effect (SetDel class del) s i sh r g = effect_inv_other (SetDel class del) tt s i sh r g
effect (HandBack turn lent) s i sh r g = effect_inv_other (HandBack turn lent) tt s i sh r g

-- at every moment
pub record Always (s : State) : Type 0 where
  pub inv : Inv s []
  pub shaped : Shaped s
  pub listed : Listed s
  pub arguments : Arguments s

-- between two calls
pub record Between (s : State) : Type 0 where
  pub always : Always s
  pub rests : rests s ≡ true

-- a step of a death keeps it
pub advance_always : (s : State) → Always s → Always (advance s)
advance_always s a = record { inv = advance_inv s a.inv; shaped = advance_shaped s a.shaped; listed = advance_listed s a.inv a.listed; arguments = advance_arguments s a.arguments }

-- and so do all that follow
settle_always : (n : ℕ) (s : State) → Always s → Always (settle n s)
unfolding settle
settle_always zero s a = a
settle_always (suc n) s a = settle_always n (advance s) (advance_always s a)

-- what follows a call
after_always : (out : Outcome) → Always (own_change out) → Always (after out)
unfolding settled
after_always (Answers number listed s) a = a
after_always (DeathsFollow left s) a = settle_always (work s) s a

-- each call's own change
pub change_always : (c : Call) (s : State) → Between s → Granted c s → Always (own_change (outcome c s))
change_always c s b g = let a = b.always in record { inv = effect c s a.inv a.shaped b.rests g; shaped = effect_shaped c s a.shaped; listed = effect_listed c s a.inv a.listed; arguments = effect_arguments c s a.arguments }

-- and then the next call starts where it may
pub call_between : (c : Call) (s : State) → Between s → Granted c s → Between (after (outcome c s))
call_between c s b g = let a = change_always c s b g in record { always = after_always (outcome c s) a; rests = after_rests c s b.always.inv b.rests a.inv }

-- a core opens so
pub opening_between : (capacity first : ℕ) (classes : List Class) → can_open capacity first classes ≡ true → Between (opening capacity first classes)
opening_between capacity first classes e = record { always = record { inv = opening_inv capacity first classes e; shaped = opening_shaped capacity first classes; listed = opening_listed capacity first classes; arguments = opening_arguments capacity first classes }; rests = refl }

-- any call, refused or not
pub each_between : (c : Call) (s : State) → Between s → Between (call c s)
unfolding call
each_between c s b = go (refusal c s) refl
  where
    go : (r : Option Fault) → refusal c s ≡ r → Between (state_after r (outcome c s) s)
    go None e = call_between c s b (granted c s e)
    go (Some fault) e = b

-- and so where a run comes to
pub end_between : (cs : List Call) (s : State) → Between s → Between (end cs s)
unfolding end
end_between [] s b = b
end_between (c ∷ cs) s b = end_between cs (call c s) (each_between c s b)
