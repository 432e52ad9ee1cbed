-- Calls keep what lists and rounds hold: references to their object.
use Rattle.std.proofs.Common.{◌≡◌, ℕ, ◌-◌, false, List, [], ◌∷◌, set, refl, inr, arith}
use Rattle.std.proofs.lemmas.Bool.{cond_both}
use Rattle.definition.specs.State.{Phase, Absent, Resting, DelOpen, Taking, Draining, Calling, Freeing, Leaving, Shape, State}
use Rattle.definition.specs.Changes.{with_places, with_turns, born}
use Rattle.definition.specs.Death.{loose, less, spent}
use Rattle.definition.specs.Calls.{Call, Make, Hold, Drop, Store, Swap, SetDictionary, Weaken, Upgrade, ListWeak, Intern, Attend, SetDel, HandBack, hold, hold_all, exchanged, content, slot_place, edge_place, dictionary_of, handed, handed_back, del_ends, newest_back, slot_count, new_reference, reused, answering, standing, outcome}
use Rattle.definition.specs.Opening.{opening}
use Rattle.definition.proofs.Sums.{same}
use Rattle.classes.specs.Rows.{Class, class_at}
use Rattle.law.specs.Run.{own_change}
use Rattle.law.proofs.Invariant.{Inv}
use Rattle.law.proofs.Listed.{Listed, phase_listed, cons_listed, shape_listed, falling_above, unheld, give_up_listed}

-- ---- births

-- a new object is in no list yet
born_listed : (shape : Shape) (l : List ℕ) (callback : ℕ) (s : State) → Inv s [] → Listed s → Listed (born shape l callback s)
born_listed shape l callback s i h =
    let absent = i.frame.fresh s.next (inr (omega arith)) in
    let none : s.strong s.next ≡ 0 = let q = (rw absent at (i.good s.next i.frame.first).left).0 in omega arith in
    let a = shape_listed h s.next shape (λ r. falling_above s.next s.next (s.weak r) (i.lists r) (omega arith)) (unheld s i s.next i.frame.first none) in
    phase_listed a s.next Resting refl

-- a new reference refers to the object whose list it is in
reference_listed : (class o callback dictionary : ℕ) (s : State) → Inv s [] → Listed s → Listed (new_reference class o callback dictionary (handed (Weaken class o callback dictionary) s))
reference_listed class o callback dictionary s i h =
    let shape : Shape = record { class = class; kind = 1; traced = false; slots = slot_count (class_at s.classes class); referent = o } in
    cons_listed (born_listed shape [] callback s i h) o s.next (rw (same s.next))
    (rw (same s.next) refl)

-- ---- the other calls

-- handles change no list
hold_all_listed : (l : List ℕ) (s : State) → Listed s → Listed (hold_all l s)
hold_all_listed [] s h = h
hold_all_listed (o ∷ os) s h = hold_all_listed os (hold o s) h

-- nor does an exchange
exchanged_listed : (s : State) (o k v : ℕ) → Listed s → Listed (exchanged o k v s)
exchanged_listed s o k v h = cond_both (loose (with_places o (set (s.places o) k v) s) (content s o k)) _ _ Listed (λ e. h) (λ e. h)

-- a del ends
del_listed : (s : State) (o : ℕ) (below : List ℕ) → Listed s → Listed (del_ends o below s)
del_listed s o below h =
    cond_both (spent s o) _ _ Listed
    (λ e. phase_listed h o Taking refl)
    (λ e. phase_listed h o Resting refl)

-- a turn is handed back
back_listed : (s : State) (o : ℕ) (below : List ℕ) (p : Phase) → Listed s → Listed (handed_back p o below s)
back_listed s o below Absent h = h
back_listed s o below Resting h = h
back_listed s o below (DelOpen c) h = cond_both (loose s o) (less o s) s (λ u. Listed (del_ends o below u)) (λ e. del_listed (less o s) o below h) (λ e. del_listed s o below h)
back_listed s o below Taking h = h
back_listed s o below Draining h = h
back_listed s o below (Calling c w) h = phase_listed h o Draining refl
back_listed s o below (Freeing k) h = h
back_listed s o below Leaving h = h

-- the newest
newest_listed : (l : List ℕ) (s : State) → Listed s → Listed (newest_back l s)
newest_listed [] s h = h
newest_listed (o ∷ below) s h = back_listed (with_turns (s.turns - 1) s) o below (s.phase o) h

-- each call's own change keeps it
pub effect_listed : (c : Call) (s : State) → Inv s [] → Listed s → Listed (own_change (outcome c s))
unfolding outcome
effect_listed (Make class dictionary payload) s i h = born_listed _ [] 0 s i h
effect_listed (Hold o) s i h = h
effect_listed (Drop o lent) s i h = give_up_listed (handed (Drop o lent) s) o h
effect_listed (Store o slot v) s i h = exchanged_listed (handed (Store o slot v) s) o (slot_place slot) v h
effect_listed (Swap o edge v) s i h = exchanged_listed (handed (Swap o edge v) s) o (edge_place s o edge) v h
effect_listed (SetDictionary o dictionary lent) s i h = give_up_listed (with_places o (set (s.places o) 0 dictionary) (handed (SetDictionary o dictionary lent) s)) (dictionary_of s o) h
effect_listed (Weaken class o callback dictionary) s i h = cond_both (reused s class o callback) _ _ (λ out. Listed (own_change out)) (λ e. h) (λ e. reference_listed class o callback dictionary s i h)
effect_listed (Upgrade w) s i h = cond_both (answering s w) _ _ (λ out. Listed (own_change out)) (λ e. h) (λ e. h)
effect_listed (ListWeak o lent) s i h = hold_all_listed (standing s o) s h
effect_listed (Intern o) s i h = h
effect_listed (Attend host) s i h = h
effect_listed (SetDel class del) s i h = h
effect_listed (HandBack turn lent) s i h = newest_listed s.stack s h

-- a core opens with it
pub opening_listed : (capacity first : ℕ) (classes : List Class) → Listed (opening capacity first classes)
opening_listed capacity first classes = record { listed = λ o w c. absurd (omega arith); round = λ o w c. absurd (omega arith); left = λ o w e. refl }
