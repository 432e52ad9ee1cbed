-- While a callback turn is open, its death holds the argument and the callback, until they are given up.
use Rattle.std.proofs.Common.{◌≡◌, ℕ, suc, ◌+◌, ◌-◌, Bool, true, false, not, ◌&&◌, eqb, List, [], ◌∷◌, get_or, set, refl, ap, arith}
use Rattle.std.proofs.lemmas.Bool.{ne_eqb, both_ways, cond_both}
use Rattle.classes.specs.Rows.{Class}
use Rattle.definition.specs.Base.{put}
use Rattle.definition.specs.State.{Phase, Absent, Resting, DelOpen, Taking, Draining, Calling, Freeing, Leaving, State, is_open}
use Rattle.definition.specs.Changes.{with_phase, with_places, with_callback, with_giving, with_handles, with_turns, with_stack}
use Rattle.definition.specs.Death.{loose, less, spent, unlisted, clearing_begins, give_up, advance}
use Rattle.definition.specs.Calls.{Call, Make, Hold, Drop, Store, Swap, SetDictionary, Weaken, Upgrade, ListWeak, Intern, Attend, SetDel, HandBack, content, dictionary_of, standing, reused, answering, handed, hold, hold_all, exchanged, del_ends, handed_back, newest_back, outcome}
use Rattle.definition.specs.Opening.{opening}
use Rattle.definition.proofs.Sums.{same, point}
use Rattle.definition.proofs.Advance.{give_up_cases, advance_cases}
use Rattle.law.specs.Run.{own_change}

-- what the death gives up once the callback has run
abbrev asked : Phase → List ℕ
asked Absent = []
asked Resting = []
asked (DelOpen c) = []
asked Taking = []
asked Draining = []
asked (Calling c w) = w ∷ c ∷ w ∷ []
asked (Freeing k) = []
asked Leaving = []

abbrev is_call : Phase → Bool
is_call Absent = false
is_call Resting = false
is_call (DelOpen c) = false
is_call Taking = false
is_call Draining = false
is_call (Calling c w) = true
is_call (Freeing k) = false
is_call Leaving = false

-- where no turn is open, no callback turn is
shut : (p : Phase) → is_open p ≡ false → is_call p ≡ false
shut Absent e = refl
shut Resting e = refl
shut (DelOpen c) e = refl
shut Taking e = refl
shut Draining e = refl
shut (Calling c w) e = let z : ◌≡◌ {A = ℕ} 0 1 = cc in absurd (omega arith)
shut (Freeing k) e = refl
shut Leaving e = refl

-- the argument and its callback, and the reference that the round held
abbrev Held : (ℕ → Phase) → (ℕ → List ℕ) → Type 0
Held ph gv = (o c w : ℕ) → ph o ≡ Calling c w → gv o ≡ w ∷ c ∷ w ∷ []

abbrev pub Arguments : State → Type 0
Arguments s = Held s.phase s.giving

-- ---- one object changes

module _ (ph : ℕ → Phase) (gv : ℕ → List ℕ) (h : Held ph gv) (o : ℕ) where
  -- to a phase without a callback turn
  turned : (p : Phase) → is_call p ≡ false → Held (put ph o p) gv
  turned p n = point (λ y. (c w : ℕ) → put ph o p y ≡ Calling c w → gv y ≡ w ∷ c ∷ w ∷ []) o (λ c w e. absurd (both_ways (is_call p) n (ap is_call (rw (same o) at e)))) (λ y ne c w e. h y c w (rw (ne_eqb y o ne) at e))

  -- in what it gives up, where it has no callback turn
  given : (l : List ℕ) → is_call (ph o) ≡ false → Held ph (put gv o l)
  given l n = point (λ y. (c w : ℕ) → ph y ≡ Calling c w → put gv o l y ≡ w ∷ c ∷ w ∷ []) o (λ c w e. absurd (both_ways (is_call (ph o)) n (ap is_call e))) (λ y ne c w e. rw (ne_eqb y o ne) (h y c w e))

  -- and a callback turn opens
  calls : (d v : ℕ) → Held (put ph o (Calling d v)) (put gv o (v ∷ d ∷ v ∷ []))
  calls d v = point (λ y. (c w : ℕ) → put ph o (Calling d v) y ≡ Calling c w → put gv o (v ∷ d ∷ v ∷ []) y ≡ w ∷ c ∷ w ∷ []) o (λ c w e. rw (same o) (ap asked (rw (same o) at e))) (λ y ne c w e. rw (ne_eqb y o ne) (h y c w (rw (ne_eqb y o ne) at e)))

-- ---- small steps

-- a death that starts has no callback turn
give_up_arguments : (u : State) (x : ℕ) → Arguments u → Arguments (give_up x u)
give_up_arguments u x h = give_up_cases u x Arguments (λ lo. h) (λ lo e. h) (λ lo ph e. (λ q. turned u.phase u.giving h x _ refl, λ q. turned u.phase u.giving h x _ refl))

-- each way in which a small step can go
pub advance_arguments : (s : State) → Arguments s → Arguments (advance s)
advance_arguments s h = advance_cases s Arguments (record {
  idle = λ r. h;
  gives = λ o below top x xs gv. give_up_arguments (with_giving o xs s) x (given s.phase s.giving h o xs (shut (s.phase o) top.moves));
  takes = λ o below top gv r w rest wk few. cond_both (spent s w) _ _ Arguments (λ e. turned s.phase s.giving h o Taking refl) (λ e. turned s.phase s.giving h o Taking refl);
  completes = λ o below top gv ph w ws hd. turned s.phase s.giving h o Draining refl;
  clears = λ o below top gv r hd wk. turned s.phase s.giving h o (Freeing 0) refl;
  drains = λ o below top gv ph w ws hd. cond_both (s.attends && not (eqb (s.callback w) 0)) _ _ Arguments (λ e. calls s.phase s.giving h o (s.callback w) w) (λ e. given s.phase s.giving h o (s.callback w ∷ w ∷ []) (shut (s.phase o) top.moves));
  empties = λ o below top gv k ph l. give_up_arguments (with_phase o (Freeing (suc k)) (with_places o (set (s.places o) k 0) s)) (get_or (s.places o) k 0) (turned s.phase s.giving h o (Freeing (suc k)) refl);
  leaves = λ o below top gv k ph l. give_up_arguments (with_phase o Leaving (with_callback o 0 (unlisted o s))) (s.callback o) (turned s.phase s.giving h o Leaving refl);
  frees = λ o below top gv ph. given (put s.phase o Absent) s.giving (turned s.phase s.giving h o Absent refl) o [] (rw (same o) refl);
})

-- ---- calls

-- handles given change nothing of this
hold_all_arguments : (os : List ℕ) (t : State) → Arguments t → Arguments (hold_all os t)
hold_all_arguments [] t h = h
hold_all_arguments (o ∷ os) t h = hold_all_arguments os (hold o t) h

-- nor does an exchange
exchanged_arguments : (t : State) (o k v : ℕ) → Arguments t → Arguments (exchanged o k v t)
exchanged_arguments t o k v h =
    let u = with_places o (set (t.places o) k v) t in
    let x = content t o k in
    cond_both (loose u x) (with_handles x (u.handles x + 1) u) u Arguments (λ e. h) (λ e. h)

-- nor the end of a del turn
del_ends_arguments : (u : State) (o : ℕ) (below : List ℕ) → Arguments u → Arguments (del_ends o below u)
del_ends_arguments u o below h = cond_both (spent u o) (clearing_begins o u) (with_stack below (with_phase o Resting u)) Arguments (λ e. turned u.phase u.giving h o Taking refl) (λ e. turned u.phase u.giving h o Resting refl)

-- a hand back ends a turn
handed_back_arguments : (p : Phase) (o : ℕ) (below : List ℕ) (s : State) → Arguments s → Arguments (handed_back p o below s)
handed_back_arguments Absent o below s h = h
handed_back_arguments Resting o below s h = h
handed_back_arguments (DelOpen c) o below s h = cond_both (loose s o) (less o s) s (λ v. Arguments (del_ends o below v)) (λ e. del_ends_arguments (less o s) o below h) (λ e. del_ends_arguments s o below h)
handed_back_arguments Taking o below s h = h
handed_back_arguments Draining o below s h = h
handed_back_arguments (Calling c w) o below s h = turned s.phase s.giving h o Draining refl
handed_back_arguments (Freeing k) o below s h = h
handed_back_arguments Leaving o below s h = h

-- and where nothing is dying, nothing changes
newest_back_arguments : (l : List ℕ) (s : State) → Arguments s → Arguments (newest_back l s)
newest_back_arguments [] s h = h
newest_back_arguments (o ∷ below) s h = handed_back_arguments (s.phase o) o below (with_turns (s.turns - 1) s) h

-- each call's own change keeps it
pub effect_arguments : (c : Call) (s : State) → Arguments s → Arguments (own_change (outcome c s))
unfolding outcome
effect_arguments (Make class dictionary payload) s h = turned s.phase s.giving h s.next Resting refl
effect_arguments (Hold o) s h = h
effect_arguments (Drop o lent) s h = give_up_arguments (handed (Drop o lent) s) o h
effect_arguments (Store o slot v) s h = exchanged_arguments (handed (Store o slot v) s) o _ v h
effect_arguments (Swap o edge v) s h = exchanged_arguments (handed (Swap o edge v) s) o _ v h
effect_arguments (SetDictionary o dictionary lent) s h = give_up_arguments (with_places o (set (s.places o) 0 dictionary) (handed (SetDictionary o dictionary lent) s)) (dictionary_of s o) h
effect_arguments (Weaken class o callback dictionary) s h = cond_both (reused s class o callback) _ _ (λ out. Arguments (own_change out)) (λ e. h) (λ e. turned s.phase s.giving h s.next Resting refl)
effect_arguments (Upgrade w) s h = cond_both (answering s w) _ _ (λ out. Arguments (own_change out)) (λ e. h) (λ e. h)
effect_arguments (ListWeak o lent) s h = hold_all_arguments (standing s o) s h
effect_arguments (Intern o) s h = h
effect_arguments (Attend host) s h = h
effect_arguments (SetDel class del) s h = h
effect_arguments (HandBack turn lent) s h = newest_back_arguments s.stack s h

-- a core opens with it
pub opening_arguments : (capacity first : ℕ) (classes : List Class) → Arguments (opening capacity first classes)
opening_arguments capacity first classes o c w e = absurd (both_ways (is_call Absent) refl (ap is_call e))
