-- The slots of an object stand among its places, behind the dictionary, at every moment.
use Rattle.std.proofs.Common.{ℕ, zero, suc, ◌-◌, ◌≤◌, not, ◌&&◌, eqb, List, [], ◌∷◌, length, get_or, set, replicate, Some, None, Option, arith, length-append}
use Rattle.std.proofs.lemmas.Bool.{ne_eqb, cond_both}
use Rattle.std.proofs.lemmas.List.{length-set, length-replicate}
use Rattle.refusal.specs.declared.Fault.{Fault}
use Rattle.classes.specs.Rows.{Class, class_at}
use Rattle.definition.specs.Base.{put}
use Rattle.definition.specs.State.{Phase, Absent, Resting, DelOpen, Taking, Draining, Calling, Freeing, Leaving, Shape, State}
use Rattle.definition.specs.Changes.{with_places, with_turns, born}
use Rattle.definition.specs.Death.{loose, less, spent, takes, drains, leaving, give_up, advance, settle, settled, work}
use Rattle.definition.specs.Calls.{Call, Make, Hold, Drop, Store, Swap, SetDictionary, Weaken, Upgrade, ListWeak, Intern, Attend, SetDel, HandBack, hold, hold_all, exchanged, content, slot_place, edge_place, dictionary_of, handed, handed_back, del_ends, newest_back, slot_count, new_places, reused, answering, standing, Outcome, Answers, DeathsFollow, outcome, refusal, after, state_after, call}
use Rattle.definition.specs.Opening.{opening}
use Rattle.definition.proofs.Sums.{same, point}
use Rattle.definition.proofs.Advance.{give_up_cases, advance_cases}
use Rattle.law.specs.Run.{own_change}

-- the dictionary and the slots are places, unless there is neither
abbrev pub Shaped : State → Type 0
Shaped s = (o : ℕ) → (s.shape o).slots ≤ length (s.places o) - 1

-- ---- deaths

-- giving up a reference changes no place
pub give_up_shaped : (s : State) (x : ℕ) → Shaped s → Shaped (give_up x s)
give_up_shaped s x h = give_up_cases s x Shaped (λ lo. h) (λ lo e. h) (λ lo ph e. (λ a. h, λ a. h))

-- a place's content changes
set_shaped : (s : State) (o k v : ℕ) → Shaped s → Shaped (with_places o (set (s.places o) k v) s)
set_shaped s o k v h = point (λ y. (s.shape y).slots ≤ length (put s.places o (set (s.places o) k v) y) - 1) o (rw (same o, length-set (s.places o) k v) (h o)) (λ y ne. rw (ne_eqb y o ne) (h y))

-- nor does a round
takes_shaped : (s : State) (o w : ℕ) (rest : List ℕ) → Shaped s → Shaped (takes w rest o s)
takes_shaped s o w rest h = cond_both (spent s w) _ _ Shaped (λ e. h) (λ e. h)

drains_shaped : (s : State) (o w : ℕ) (rest : List ℕ) → Shaped s → Shaped (drains w rest o s)
drains_shaped s o w rest h = cond_both (s.attends && not (eqb (s.callback w) 0)) _ _ Shaped (λ e. h) (λ e. h)

-- a freed object has neither places nor slots
frees_shaped : (s : State) (o : ℕ) (below : List ℕ) → Shaped s → Shaped (leaving o below s)
frees_shaped s o below h = point (λ y. ((leaving o below s).shape y).slots ≤ length ((leaving o below s).places y) - 1) o (rw (same o) (omega arith)) (λ y ne. rw (ne_eqb y o ne) (h y))

-- each step of a death keeps it
pub advance_shaped : (s : State) → Shaped s → Shaped (advance s)
advance_shaped s h = advance_cases s Shaped (record {
  idle = λ r. h;
  gives = λ o below top x xs gv. give_up_shaped _ x h;
  takes = λ o below top gv r w rest wk few. takes_shaped s o w rest h;
  completes = λ o below top gv ph w ws hd. h;
  clears = λ o below top gv r hd wk. h;
  drains = λ o below top gv ph w ws hd. drains_shaped s o w ws h;
  empties = λ o below top gv k ph l. give_up_shaped _ (get_or (s.places o) k 0) (set_shaped s o k 0 h);
  leaves = λ o below top gv k ph l. give_up_shaped _ (s.callback o) h;
  frees = λ o below top gv ph. frees_shaped s o below h;
})

-- and so do all that follow
pub settle_shaped : (n : ℕ) (s : State) → Shaped s → Shaped (settle n s)
unfolding settle
settle_shaped zero s h = h
settle_shaped (suc n) s h = settle_shaped n (advance s) (advance_shaped s h)

-- ---- calls

-- handles change no place
hold_all_shaped : (l : List ℕ) (s : State) → Shaped s → Shaped (hold_all l s)
hold_all_shaped [] s h = h
hold_all_shaped (o ∷ os) s h = hold_all_shaped os (hold o s) h

-- an exchange keeps how many places there are
exchanged_shaped : (s : State) (o k v : ℕ) → Shaped s → Shaped (exchanged o k v s)
exchanged_shaped s o k v h = let u = with_places o (set (s.places o) k v) s in cond_both (loose u (content s o k)) _ u Shaped (λ e. set_shaped s o k v h) (λ e. set_shaped s o k v h)

-- a new object has its slots
new_length : (row : Class) (dictionary : ℕ) (edges : List ℕ) → slot_count row ≤ length (new_places row dictionary edges) - 1
new_length row dictionary edges = omega (arith, length-append (replicate (slot_count row) 0) edges, length-replicate {A = ℕ} (slot_count row) 0)

born_shaped : (shape : Shape) (l : List ℕ) (callback : ℕ) (s : State) → shape.slots ≤ length l - 1 → Shaped s → Shaped (born shape l callback s)
born_shaped shape l callback s n h = point (λ y. ((born shape l callback s).shape y).slots ≤ length ((born shape l callback s).places y) - 1) s.next (rw (same s.next) n) (λ y ne. rw (ne_eqb y s.next ne) (h y))

-- a hand back changes no place
back_shaped : (s : State) (o : ℕ) (below : List ℕ) (p : Phase) → Shaped s → Shaped (handed_back p o below s)
back_shaped s o below Absent h = h
back_shaped s o below Resting h = h
back_shaped s o below (DelOpen c) h = cond_both (loose s o) (less o s) s (λ u. Shaped (del_ends o below u)) (λ e. cond_both (spent (less o s) o) _ _ Shaped (λ z. h) (λ z. h)) (λ e. cond_both (spent s o) _ _ Shaped (λ z. h) (λ z. h))
back_shaped s o below Taking h = h
back_shaped s o below Draining h = h
back_shaped s o below (Calling c w) h = h
back_shaped s o below (Freeing k) h = h
back_shaped s o below Leaving h = h

newest_shaped : (l : List ℕ) (s : State) → Shaped s → Shaped (newest_back l s)
newest_shaped [] s h = h
newest_shaped (o ∷ below) s h = back_shaped (with_turns (s.turns - 1) s) o below (s.phase o) h

-- each call's own change keeps it
pub effect_shaped : (c : Call) (s : State) → Shaped s → Shaped (own_change (outcome c s))
unfolding outcome
effect_shaped (Make class dictionary payload) s h = born_shaped _ _ 0 (handed (Make class dictionary payload) s) (new_length (class_at s.classes class) dictionary payload.edges) h
effect_shaped (Hold o) s h = h
effect_shaped (Drop o lent) s h = give_up_shaped (handed (Drop o lent) s) o h
effect_shaped (Store o slot v) s h = exchanged_shaped (handed (Store o slot v) s) o (slot_place slot) v h
effect_shaped (Swap o edge v) s h = exchanged_shaped (handed (Swap o edge v) s) o (edge_place s o edge) v h
effect_shaped (SetDictionary o dictionary lent) s h = give_up_shaped _ (dictionary_of s o) (set_shaped (handed (SetDictionary o dictionary lent) s) o 0 dictionary h)
effect_shaped (Weaken class o callback dictionary) s h =
    cond_both (reused s class o callback) _ _ (λ out. Shaped (own_change out)) (λ e. h) (λ e. born_shaped _ _ callback (handed (Weaken class o callback dictionary) s) (new_length (class_at s.classes class) dictionary []) h)
effect_shaped (Upgrade w) s h = cond_both (answering s w) _ _ (λ out. Shaped (own_change out)) (λ e. h) (λ e. h)
effect_shaped (ListWeak o lent) s h = hold_all_shaped (standing s o) s h
effect_shaped (Intern o) s h = h
effect_shaped (Attend host) s h = h
effect_shaped (SetDel class del) s h = h
effect_shaped (HandBack turn lent) s h = newest_shaped s.stack s h

-- what follows a call's own change
after_shaped : (out : Outcome) → Shaped (own_change out) → Shaped (after out)
unfolding settled
after_shaped (Answers number listed s) h = h
after_shaped (DeathsFollow left s) h = settle_shaped (work s) s h

-- each call keeps it, refused or not
pub call_shaped : (c : Call) (s : State) → Shaped s → Shaped (call c s)
unfolding call
call_shaped c s h = go (refusal c s)
  where
    go : (f : Option Fault) → Shaped (state_after f (outcome c s) s)
    go None = after_shaped (outcome c s) (effect_shaped c s h)
    go (Some fault) = h

-- a core opens with it
pub opening_shaped : (capacity first : ℕ) (classes : List Class) → Shaped (opening capacity first classes)
opening_shaped capacity first classes o = omega arith
