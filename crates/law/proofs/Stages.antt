-- How far each object's life has come: lives only go forward, and births are given once.
use Rattle.std.proofs.Common.{◌≡◌, ℕ, suc, ◌-◌, ◌≤◌, true, false, not, ◌&&◌, eqb, ◌⊎◌, List, [], ◌∷◌, get_or, set, refl, inl, inr, arith}
use Rattle.std.proofs.lemmas.Bool.{ne_eqb, cond_both}
use Rattle.definition.specs.Base.{put}
use Rattle.definition.specs.State.{Phase, Absent, Resting, DelOpen, Taking, Draining, Calling, Freeing, Leaving, State, is_unfreed, is_live}
use Rattle.definition.specs.Changes.{with_phase, with_places, with_callback, with_giving, with_turns}
use Rattle.definition.specs.Death.{loose, less, spent, found, takes, drains, unlisted, give_up, advance}
use Rattle.definition.specs.Calls.{Call, Make, Hold, Drop, Store, Swap, SetDictionary, Weaken, Upgrade, ListWeak, Intern, Attend, SetDel, HandBack, Answers, content, dictionary_of, handed, hold, hold_all, reused, standing, answering, exchanged, new_reference, del_ends, handed_back, newest_back, outcome}
use Rattle.definition.proofs.Sums.{same, point}
use Rattle.definition.proofs.Advance.{Rounds, give_up_cases, advance_cases}
use Rattle.law.specs.Run.{own_change}

-- 1: live; 2: its clearing goes on; 3: its places are emptied; 4: all of them are; 5: nobody, not born yet or freed
abbrev pub stage : Phase → ℕ
stage Absent = 5
stage Resting = 1
stage (DelOpen c) = 1
stage Taking = 2
stage Draining = 2
stage (Calling c w) = 2
stage (Freeing k) = 3
stage Leaving = 4

-- ---- what stages tell

-- what is live is at the first stage
pub live_stage : (p : Phase) → is_live p ≡ true → stage p ≡ 1
live_stage Absent e = let z : ◌≡◌ {A = ℕ} 0 1 = cc in absurd (omega arith)
live_stage Resting e = refl
live_stage (DelOpen c) e = refl
live_stage Taking e = let z : ◌≡◌ {A = ℕ} 0 1 = cc in absurd (omega arith)
live_stage Draining e = let z : ◌≡◌ {A = ℕ} 0 1 = cc in absurd (omega arith)
live_stage (Calling c w) e = let z : ◌≡◌ {A = ℕ} 0 1 = cc in absurd (omega arith)
live_stage (Freeing k) e = let z : ◌≡◌ {A = ℕ} 0 1 = cc in absurd (omega arith)
live_stage Leaving e = let z : ◌≡◌ {A = ℕ} 0 1 = cc in absurd (omega arith)

-- and what is there is live
pub stage_live : (p : Phase) → stage p ≤ 1 → is_live p ≡ true
stage_live Absent e = absurd (omega arith)
stage_live Resting e = refl
stage_live (DelOpen c) e = refl
stage_live Taking e = absurd (omega arith)
stage_live Draining e = absurd (omega arith)
stage_live (Calling c w) e = absurd (omega arith)
stage_live (Freeing k) e = absurd (omega arith)
stage_live Leaving e = absurd (omega arith)

-- cleared and unfreed
pub cleared_stage : (p : Phase) → is_unfreed p ≡ true → is_live p ≡ false → (2 ≤ stage p) × (stage p ≤ 4)
cleared_stage Absent e d = let z : ◌≡◌ {A = ℕ} 0 1 = cc in absurd (omega arith)
cleared_stage Resting e d = let z : ◌≡◌ {A = ℕ} 0 1 = cc in absurd (omega arith)
cleared_stage (DelOpen c) e d = let z : ◌≡◌ {A = ℕ} 0 1 = cc in absurd (omega arith)
cleared_stage Taking e d = omega arith
cleared_stage Draining e d = omega arith
cleared_stage (Calling c w) e d = omega arith
cleared_stage (Freeing k) e d = omega arith
cleared_stage Leaving e d = omega arith

-- and what is between is cleared and unfreed
pub stage_cleared : (p : Phase) → 2 ≤ stage p → stage p ≤ 4 → (is_unfreed p ≡ true) × (is_live p ≡ false)
stage_cleared Absent e d = absurd (omega arith)
stage_cleared Resting e d = absurd (omega arith)
stage_cleared (DelOpen c) e d = absurd (omega arith)
stage_cleared Taking e d = (refl, refl)
stage_cleared Draining e d = (refl, refl)
stage_cleared (Calling c w) e d = (refl, refl)
stage_cleared (Freeing k) e d = (refl, refl)
stage_cleared Leaving e d = (refl, refl)

-- stages go from 1 to 5
pub stage_range : (p : Phase) → (1 ≤ stage p) × (stage p ≤ 5)
stage_range Absent = omega arith
stage_range Resting = omega arith
stage_range (DelOpen c) = omega arith
stage_range Taking = omega arith
stage_range Draining = omega arith
stage_range (Calling c w) = omega arith
stage_range (Freeing k) = omega arith
stage_range Leaving = omega arith

-- what is unfreed is at one before the last
pub unfreed_stage : (p : Phase) → is_unfreed p ≡ true → stage p ≤ 4
unfreed_stage Absent e = let z : ◌≡◌ {A = ℕ} 0 1 = cc in absurd (omega arith)
unfreed_stage Resting e = omega arith
unfreed_stage (DelOpen c) e = omega arith
unfreed_stage Taking e = omega arith
unfreed_stage Draining e = omega arith
unfreed_stage (Calling c w) e = omega arith
unfreed_stage (Freeing k) e = omega arith
unfreed_stage Leaving e = omega arith

-- ---- no object goes back

abbrev pub Older : State → State → Type 0
Older s t = (o : ℕ) → stage (s.phase o) ≤ stage (t.phase o)

-- one object comes further
pub phase_older : (s : State) (o : ℕ) (p : Phase) → stage (s.phase o) ≤ stage p → (y : ℕ) → stage (s.phase y) ≤ stage (put s.phase o p y)
phase_older s o p l = point (λ y. stage (s.phase y) ≤ stage (put s.phase o p y)) o (rw (same o) l) (λ y ne. rw (ne_eqb y o ne) (omega arith))

-- a reference is given up at last
pub give_up_older : (s m : State) (x : ℕ) → Older s m → Older s (give_up x m)
give_up_older s m x f = give_up_cases m x (Older s) (λ lo. f) (λ lo e. f) (λ lo ph e. (λ a. from ph (DelOpen (found m x)) (omega arith), λ a. from ph Taking (omega arith)))
  where
    from : m.phase x ≡ Resting → (p : Phase) → 1 ≤ stage p → (y : ℕ) → stage (s.phase y) ≤ stage (put m.phase x p y)
    from ph p l = point (λ y. stage (s.phase y) ≤ stage (put m.phase x p y)) x (rw (same x) (let q = rw ph at (f x) in omega arith)) (λ y ne. rw (ne_eqb y x ne) (f y))

-- taking a reference off
takes_older : (s : State) (o w : ℕ) (rest : List ℕ) → Rounds s o → Older s (takes w rest o s)
takes_older s o w rest r = cond_both (spent s w) _ _ (Older s) (λ e. phase_older s o Taking (low r)) (λ e. phase_older s o Taking (low r))
  where
    low : Rounds s o → stage (s.phase o) ≤ 2
    low (inl ph) = rw ph (omega arith)
    low (inr d) = rw d.0 (omega arith)

-- taking a callback out
drains_older : (s : State) (o w : ℕ) (ws : List ℕ) → s.phase o ≡ Draining → Older s (drains w ws o s)
drains_older s o w ws ph = cond_both (s.attends && not (eqb (s.callback w) 0)) _ _ (Older s) (λ e. phase_older s o (Calling (s.callback w) w) (rw ph (omega arith))) (λ e y. omega arith)

-- a small step takes none back
pub advance_older : (s : State) → Older s (advance s)
advance_older s = advance_cases s (Older s) (record {
  idle = λ r y. omega arith;
  gives = λ o below top x xs gv. give_up_older s (with_giving o xs s) x (λ y. omega arith);
  takes = λ o below top gv r w rest wk few. takes_older s o w rest r;
  completes = λ o below top gv ph w ws hd. phase_older s o Draining (rw ph (omega arith));
  clears = λ o below top gv r hd wk. phase_older s o (Freeing 0) (low s o r);
  drains = λ o below top gv ph w ws hd. drains_older s o w ws ph;
  empties = λ o below top gv k ph h. give_up_older s (with_phase o (Freeing (suc k)) (with_places o (set (s.places o) k 0) s)) (get_or (s.places o) k 0) (phase_older s o (Freeing (suc k)) (rw ph (omega arith)));
  leaves = λ o below top gv k ph h. give_up_older s (with_phase o Leaving (with_callback o 0 (unlisted o s))) (s.callback o) (phase_older s o Leaving (rw ph (omega arith)));
  frees = λ o below top gv ph. phase_older s o Absent (rw ph (omega arith));
})
  where
    low : (s : State) (o : ℕ) → Rounds s o → stage (s.phase o) ≤ 3
    low s o (inl ph) = rw ph (omega arith)
    low s o (inr d) = rw d.0 (omega arith)

-- ---- calls

-- none goes back, but that the next birth may be given
pub record Ages (s t : State) : Type 0 where
  pub next : s.next ≤ t.next
  pub stages : (o : ℕ) → (stage (s.phase o) ≤ stage (t.phase o)) ⊎ ((o ≡ s.next) × (t.phase o ≡ Resting))

-- where no birth is given
pub older_ages : (s t : State) → s.next ≡ t.next → Older s t → Ages s t
older_ages s t e f = record { next = omega arith; stages = λ o. inl (f o) }

-- where one is
pub born_ages : (s t : State) → t.next ≡ suc s.next → ((y : ℕ) → t.phase y ≡ put s.phase s.next Resting y) → Ages s t
born_ages s t e f = record { next = omega arith; stages = point (λ y. (stage (s.phase y) ≤ stage (t.phase y)) ⊎ ((y ≡ s.next) × (t.phase y ≡ Resting))) s.next (inr (refl, rw (f s.next, same s.next) refl)) (λ y ne. inl (rw (f y, ne_eqb y s.next ne) (omega arith))) }

-- an exchange
exchanged_ages : (s t : State) (o k v : ℕ) → t.next ≡ s.next → ((y : ℕ) → t.phase y ≡ s.phase y) → Ages s (exchanged o k v t)
exchanged_ages s t o k v e f = let u = with_places o (set (t.places o) k v) t in cond_both (loose u (content t o k)) _ u (Ages s) (λ l. record { next = omega arith; stages = λ y. inl (rw (f y) (omega arith)) }) (λ l. record { next = omega arith; stages = λ y. inl (rw (f y) (omega arith)) })

-- handles
hold_all_ages : (s : State) (os : List ℕ) (t : State) → Ages s t → Ages s (hold_all os t)
hold_all_ages s [] t a = a
hold_all_ages s (o ∷ os) t a = hold_all_ages s os (hold o t) record { next = a.next; stages = a.stages }

-- a hand back
back_older : (s t : State) (o : ℕ) (below : List ℕ) → ((y : ℕ) → t.phase y ≡ s.phase y) → (p : Phase) → s.phase o ≡ p → Older s (handed_back p o below t)
back_older s t o below f Absent ph = λ y. rw (f y) (omega arith)
back_older s t o below f Resting ph = λ y. rw (f y) (omega arith)
back_older s t o below f (DelOpen c) ph = cond_both (loose t o) (less o t) t (λ u. Older s (del_ends o below u)) (λ e. ends (less o t) f) (λ e. ends t f)
  where
    ends : (u : State) → ((y : ℕ) → u.phase y ≡ s.phase y) → Older s (del_ends o below u)
    ends u g = cond_both (spent u o) _ _ (Older s) (λ e. one Taking (omega arith)) (λ e. one Resting (omega arith))
      where
        one : (p : Phase) → 1 ≤ stage p → (y : ℕ) → stage (s.phase y) ≤ stage (put u.phase o p y)
        one p l = point (λ y. stage (s.phase y) ≤ stage (put u.phase o p y)) o (rw (same o, ph) l) (λ y ne. rw (ne_eqb y o ne, g y) (omega arith))
back_older s t o below f Taking ph = λ y. rw (f y) (omega arith)
back_older s t o below f Draining ph = λ y. rw (f y) (omega arith)
back_older s t o below f (Calling c w) ph = point (λ y. stage (s.phase y) ≤ stage (put t.phase o Draining y)) o (rw (same o, ph) (omega arith)) (λ y ne. rw (ne_eqb y o ne, f y) (omega arith))
back_older s t o below f (Freeing k) ph = λ y. rw (f y) (omega arith)
back_older s t o below f Leaving ph = λ y. rw (f y) (omega arith)

-- whatever is handed back
newest_older : (s : State) (l : List ℕ) → Older s (newest_back l s)
newest_older s [] y = omega arith
newest_older s (o ∷ below) y = back_older s (with_turns (s.turns - 1) s) o below (λ z. refl) (s.phase o) refl y

-- neither giving up nor a hand back makes an object
pub give_up_next : (s : State) (x : ℕ) → (give_up x s).next ≡ s.next
give_up_next s x = give_up_cases s x (λ t. t.next ≡ s.next) (λ lo. refl) (λ lo e. refl) (λ lo ph e. (λ a. refl, λ a. refl))

-- nor does what a hand back ends
back_next : (p : Phase) (o : ℕ) (below : List ℕ) (s : State) → (handed_back p o below s).next ≡ s.next
back_next Absent o below s = refl
back_next Resting o below s = refl
back_next (DelOpen c) o below s = cond_both (loose s o) (less o s) s (λ u. (del_ends o below u).next ≡ s.next) (λ e. cond_both (spent (less o s) o) _ _ (λ (u : State). u.next ≡ s.next) (λ d. refl) (λ d. refl)) (λ e. cond_both (spent s o) _ _ (λ (u : State). u.next ≡ s.next) (λ d. refl) (λ d. refl))
back_next Taking o below s = refl
back_next Draining o below s = refl
back_next (Calling c w) o below s = refl
back_next (Freeing k) o below s = refl
back_next Leaving o below s = refl

-- whatever is handed back
newest_next : (s : State) (l : List ℕ) → (newest_back l s).next ≡ s.next
newest_next s [] = refl
newest_next s (o ∷ below) = back_next (s.phase o) o below (with_turns (s.turns - 1) s)

-- an accepted call's own change
pub outcome_ages : (c : Call) (s : State) → Ages s (own_change (outcome c s))
unfolding outcome
outcome_ages (Make class dictionary payload) s = born_ages s _ refl (λ y. refl)
outcome_ages (Hold o) s = older_ages s _ refl (λ y. omega arith)
outcome_ages (Drop o lent) s = let t = handed (Drop o lent) s in older_ages s _ (omega (arith, give_up_next t o)) (give_up_older s t o (λ y. omega arith))
outcome_ages (Store o slot v) s = exchanged_ages s (handed (Store o slot v) s) o _ v refl (λ y. refl)
outcome_ages (Swap o edge v) s = exchanged_ages s (handed (Swap o edge v) s) o _ v refl (λ y. refl)
outcome_ages (SetDictionary o dictionary lent) s =
    let t = with_places o (set (s.places o) 0 dictionary) (handed (SetDictionary o dictionary lent) s) in
    older_ages s _ (omega (arith, give_up_next t (dictionary_of s o))) (give_up_older s t (dictionary_of s o) (λ y. omega arith))
outcome_ages (Weaken class o callback dictionary) s =
    cond_both (reused s class o callback) (Answers (s.cached o) [] (hold (s.cached o) s)) (Answers s.next [] (new_reference class o callback dictionary (handed (Weaken class o callback dictionary) s))) (λ out. Ages s (own_change out))
    (λ e. older_ages s _ refl (λ y. omega arith))
    (λ e. born_ages s _ refl (λ y. refl))
outcome_ages (Upgrade w) s =
    cond_both (answering s w) (Answers (s.shape w).referent [] (hold (s.shape w).referent s)) (Answers 0 [] s) (λ out. Ages s (own_change out)) (λ e. older_ages s _ refl (λ y. omega arith)) (λ e. older_ages s _ refl (λ y. omega arith))
outcome_ages (ListWeak o lent) s = hold_all_ages s (standing s o) s (older_ages s s refl (λ y. omega arith))
outcome_ages (Intern o) s = older_ages s _ refl (λ y. omega arith)
outcome_ages (Attend host) s = older_ages s _ refl (λ y. omega arith)
outcome_ages (SetDel class del) s = older_ages s _ refl (λ y. omega arith)
outcome_ages (HandBack turn lent) s = older_ages s _ (omega (arith, newest_next s s.stack)) (newest_older s s.stack)

-- a small step makes none
pub advance_next : (s : State) → (advance s).next ≡ s.next
advance_next s = advance_cases s (λ (t : State). t.next ≡ s.next) (record {
  idle = λ r. refl;
  gives = λ o below top x xs gv. give_up_next (with_giving o xs s) x;
  takes = λ o below top gv r w rest wk few. cond_both (spent s w) _ _ (λ (t : State). t.next ≡ s.next) (λ e. refl) (λ e. refl);
  completes = λ o below top gv ph w ws hd. refl;
  clears = λ o below top gv r hd wk. refl;
  drains = λ o below top gv ph w ws hd. cond_both (s.attends && not (eqb (s.callback w) 0)) _ _ (λ (t : State). t.next ≡ s.next) (λ e. refl) (λ e. refl);
  empties = λ o below top gv k ph h. give_up_next (with_phase o (Freeing (suc k)) (with_places o (set (s.places o) k 0) s)) (get_or (s.places o) k 0);
  leaves = λ o below top gv k ph h. give_up_next (with_phase o Leaving (with_callback o 0 (unlisted o s))) (s.callback o);
  frees = λ o below top gv ph. refl;
})

-- so a small step ages
pub advance_ages : (s : State) → Ages s (advance s)
advance_ages s = older_ages s (advance s) (omega (arith, advance_next s)) (advance_older s)
