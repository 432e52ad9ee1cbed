-- The calls that make no object keep the invariant; and what follows a call keeps it.
use Rattle.std.proofs.Common.{◌≡◌, ℕ, zero, suc, ◌+◌, true, List, [], ◌∷◌, set, Some, None, Option, refl, arith}
use Rattle.std.proofs.lemmas.Bool.{ne_eqb, cond_both}
use Rattle.refusal.specs.declared.Fault.{Fault}
use Rattle.classes.specs.Rows.{after_set_del}
use Rattle.definition.specs.Base.{put}
use Rattle.definition.specs.State.{Resting, State}
use Rattle.definition.specs.Changes.{with_places, with_handles, with_interned, with_attends, with_classes}
use Rattle.definition.specs.Death.{loose, advance, waits, rests, settle, settled, work}
use Rattle.definition.specs.Calls.{Call, Make, Hold, Drop, Store, Swap, SetDictionary, Weaken, Upgrade, ListWeak, Intern, Attend, SetDel, HandBack, hold, hold_all, exchanged, content, slot_place, edge_place, handed, new_reference, reused, answering, standing, Outcome, Answers, DeathsFollow, outcome, refusal, after, state_after, call}
use Rattle.definition.proofs.Settles.{settled_rests}
use Rattle.law.specs.Run.{own_change}
use Rattle.law.proofs.Invariant.{Inv}
use Rattle.law.proofs.Steps.{tidy, on_top, advance_inv}
use Rattle.law.proofs.Granted.{Granted, granted}
use Rattle.law.proofs.Shapes.{Shaped}
use Rattle.law.proofs.Effects.{attend_effect, intern_effect, drop_effect, set_del_effect, hold_effect, upgrade_effect, list_effect}
use Rattle.law.proofs.Exchanges.{store_effect, swap_effect, set_dictionary_effect}
use Rattle.law.proofs.Backs.{hand_back_effect}

-- it makes no object
abbrev pub MakesNone : Call → Type 0
MakesNone (Make class dictionary payload) = ⊥
MakesNone (Hold o) = Unit {0}
MakesNone (Drop o lent) = Unit {0}
MakesNone (Store o slot v) = Unit {0}
MakesNone (Swap o edge v) = Unit {0}
MakesNone (SetDictionary o dictionary lent) = Unit {0}
MakesNone (Weaken class o callback dictionary) = ⊥
MakesNone (Upgrade w) = Unit {0}
MakesNone (ListWeak o lent) = Unit {0}
MakesNone (Intern o) = Unit {0}
MakesNone (Attend host) = Unit {0}
MakesNone (SetDel class del) = Unit {0}
MakesNone (HandBack turn lent) = Unit {0}

-- what a call that makes no object changes keeps the invariant, where no work is left before it
pub effect_inv_other : (c : Call) → MakesNone c → (s : State) → Inv s [] → Shaped s → rests s ≡ true → Granted c s → Inv (own_change (outcome c s)) []
effect_inv_other (Make class dictionary payload) n s i sh r g = absurd n
effect_inv_other (Hold o) n s i sh r g = hold_effect o s i g
effect_inv_other (Drop o lent) n s i sh r g = drop_effect o lent s i g
effect_inv_other (Store o slot v) n s i sh r g = store_effect o slot v s i sh g
effect_inv_other (Swap o edge v) n s i sh r g = swap_effect o edge v s i g
effect_inv_other (SetDictionary o dictionary lent) n s i sh r g = set_dictionary_effect o dictionary lent s i g
effect_inv_other (Weaken class o callback dictionary) n s i sh r g = absurd n
effect_inv_other (Upgrade w) n s i sh r g = upgrade_effect w s i g
effect_inv_other (ListWeak o lent) n s i sh r g = list_effect o lent s i g
effect_inv_other (Intern o) n s i sh r g = intern_effect o s i g
effect_inv_other (Attend host) n s i sh r g = attend_effect host s i g
effect_inv_other (SetDel class del) n s i sh r g = set_del_effect class del s i g
effect_inv_other (HandBack turn lent) n s i sh r g = hand_back_effect turn lent s i r g

-- ---- what follows a call

-- the steps that follow keep the invariant
pub settle_inv : (n : ℕ) (s : State) → Inv s [] → Inv (settle n s) []
unfolding settle
settle_inv zero s i = i
settle_inv (suc n) s i = settle_inv n (advance s) (advance_inv s i)

pub settled_inv : (s : State) → Inv s [] → Inv (settled s) []
unfolding settled
settled_inv s i = settle_inv (work s) s i

-- and so does what follows a call's own change
pub after_inv : (out : Outcome) → Inv (own_change out) [] → Inv (after out) []
after_inv (Answers number listed s) i = i
after_inv (DeathsFollow left s) i = settled_inv s i

-- a call keeps the invariant if its own change does when it is not refused
pub call_inv_from : (c : Call) (s : State) → (Granted c s → Inv (own_change (outcome c s)) []) → Inv s [] → Inv (call c s) []
unfolding call
call_inv_from c s own i = go (refusal c s) refl
  where
    go : (f : Option Fault) → refusal c s ≡ f → Inv (state_after f (outcome c s) s) []
    go None e = after_inv (outcome c s) (own (granted c s e))
    go (Some fault) e = i

-- ---- no work is left

-- the newest death is the same, and in the same phase
same_waits : (l : List ℕ) (s t : State) → ((o : ℕ) (below : List ℕ) → l ≡ o ∷ below → t.phase o ≡ s.phase o) → waits l s ≡ true → waits l t ≡ true
same_waits [] s t h r = r
same_waits (o ∷ below) s t h r = rw (h o below refl) r

-- handles let no death go on
hold_all_rests : (l : List ℕ) (s : State) → rests s ≡ true → rests (hold_all l s) ≡ true
hold_all_rests [] s r = r
hold_all_rests (o ∷ os) s r = hold_all_rests os (hold o s) (same_waits s.stack s (hold o s) (λ p below st. refl) r)

-- nor does an exchange
exchanged_rests : (s : State) (o k v : ℕ) → rests s ≡ true → rests (exchanged o k v s) ≡ true
exchanged_rests s o k v r =
    let x = content s o k in
    let u = with_places o (set (s.places o) k v) s in
    let t = with_handles x (s.handles x + 1) u in
    cond_both (loose u x) t u (λ w. rests w ≡ true) (λ e. same_waits s.stack s t (λ p below st. refl) r) (λ e. same_waits s.stack s u (λ p below st. refl) r)

-- a new object is not the newest of the dying
born_other : (s : State) → Inv s [] → (o : ℕ) (below : List ℕ) → s.stack ≡ o ∷ below → put s.phase s.next Resting o ≡ s.phase o
born_other s i o below st = let lo = (on_top s [] i o below st).1 in rw (ne_eqb o s.next (λ q. omega arith)) refl

-- after an accepted call no work is left
pub after_rests : (c : Call) (s : State) → Inv s [] → rests s ≡ true → Inv (own_change (outcome c s)) [] → rests (after (outcome c s)) ≡ true
unfolding outcome
after_rests (Make class dictionary payload) s i r j = same_waits s.stack s (own_change (outcome (Make class dictionary payload) s)) (born_other s i) r
after_rests (Hold o) s i r j = same_waits s.stack s (hold o s) (λ p below st. refl) r
after_rests (Drop o lent) s i r j = settled_rests _ (tidy _ [] j)
after_rests (Store o slot v) s i r j = let t = handed (Store o slot v) s in exchanged_rests t o (slot_place slot) v (same_waits s.stack s t (λ p below st. refl) r)
after_rests (Swap o edge v) s i r j = let t = handed (Swap o edge v) s in exchanged_rests t o (edge_place s o edge) v (same_waits s.stack s t (λ p below st. refl) r)
after_rests (SetDictionary o dictionary lent) s i r j = settled_rests _ (tidy _ [] j)
after_rests (Weaken class o callback dictionary) s i r j =
    let c = Weaken class o callback dictionary in
    cond_both (reused s class o callback) _ _ (λ out. rests (after out) ≡ true)
    (λ e. same_waits s.stack s (hold (s.cached o) s) (λ p below st. refl) r)
    (λ e. same_waits s.stack s (new_reference class o callback dictionary (handed c s)) (born_other s i) r)
after_rests (Upgrade w) s i r j = let o = (s.shape w).referent in cond_both (answering s w) _ _ (λ out. rests (after out) ≡ true) (λ e. same_waits s.stack s (hold o s) (λ p below st. refl) r) (λ e. r)
after_rests (ListWeak o lent) s i r j = hold_all_rests (standing s o) s r
after_rests (Intern o) s i r j = same_waits s.stack s (with_interned o true s) (λ p below st. refl) r
after_rests (Attend host) s i r j = same_waits s.stack s (with_attends host s) (λ p below st. refl) r
after_rests (SetDel class del) s i r j = same_waits s.stack s (with_classes (after_set_del s.classes class del) s) (λ p below st. refl) r
after_rests (HandBack turn lent) s i r j = settled_rests _ (tidy _ [] j)
