-- Over every run what the core is set to is what calls set, and what an object is made as stays.
use Rattle.std.proofs.Common.{◌≡◌, ℕ, zero, suc, ◌-◌, true, false, not, ◌&&◌, eqb, ◌⊎◌, List, [], ◌∷◌, get_or, set, refl, ◌∙◌, inl, inr, arith}
use Rattle.std.proofs.lemmas.Bool.{ne_eqb, cond_both}
use Rattle.classes.specs.Rows.{class_at}
use Rattle.definition.specs.State.{Phase, Absent, Resting, DelOpen, Taking, Draining, Calling, Freeing, Leaving, Shape, State, is_unfreed, is_live}
use Rattle.definition.specs.Changes.{with_phase, with_places, with_callback, with_giving, with_turns, born}
use Rattle.definition.specs.Death.{loose, less, spent, unlisted, leaving, give_up, advance, settle, settled, work}
use Rattle.definition.specs.Calls.{Call, Make, Hold, Drop, Store, Swap, SetDictionary, Weaken, Upgrade, ListWeak, Intern, Attend, SetDel, HandBack, hold, hold_all, gained, content, slot_place, edge_place, dictionary_of, handed, handed_back, del_ends, newest_back, slot_count, new_places, new_reference, reused, answering, standing, Outcome, Answers, DeathsFollow, replied, outcome, after}
use Rattle.definition.proofs.Sums.{same, point}
use Rattle.definition.proofs.Advance.{give_up_cases, advance_cases}
use Rattle.law.specs.Run.{Accepted, Small, own_change, run, history}
use Rattle.law.specs.Events.{Every}
use Rattle.law.specs.Settings.{attends_by, made_as, Set}
use Rattle.law.proofs.Invariant.{Inv}
use Rattle.law.proofs.Makes.{reused_live}
use Rattle.law.proofs.Histories.{every_history}
use Rattle.law.proofs.Moments.{Between}

-- nothing is set, and nothing is made
abbrev Unset : State → State → Type 0
Unset s t = (t.capacity ≡ s.capacity) × (t.attends ≡ s.attends) × (t.classes ≡ s.classes) × ((p : ℕ) → t.shape p ≡ s.shape p)

-- giving up a reference sets nothing
give_up_unset : (u : State) (x : ℕ) → Unset u (give_up x u)
give_up_unset u x =
    let k : Unset u u = (refl, refl, refl, λ p. refl) in
    give_up_cases u x (Unset u) (λ lo. k) (λ lo e. k) (λ lo ph e. (λ q. k, λ q. k))

-- ---- small steps

-- giving up a reference sets nothing
gives_set : (s u : State) (x : ℕ) → Unset s u → Set Small s (give_up x u)
gives_set s u x k =
    give_up_cases u x (Set Small s) (λ lo. (k.0, k.1, k.2, λ p. inl (k.3 p))) (λ lo e. (k.0, k.1, k.2, λ p. inl (k.3 p)))
    (λ lo ph e. (λ q. (k.0, k.1, k.2, λ p. inl (k.3 p)), λ q. (k.0, k.1, k.2, λ p. inl (k.3 p))))

-- small steps set nothing, but what is freed has no shape
small_set : (s : State) → Set Small s (advance s)
small_set s = advance_cases s (Set Small s) (record {
  idle = λ r. (refl, refl, refl, λ p. inl refl);
  gives = λ o below top x xs gv. gives_set s (with_giving o xs s) x (refl, refl, refl, λ p. refl);
  takes = λ o below top gv r w rest wk few. cond_both (spent s w) _ _ (Set Small s) (λ e. (refl, refl, refl, λ p. inl refl)) (λ e. (refl, refl, refl, λ p. inl refl));
  completes = λ o below top gv ph w ws hd. (refl, refl, refl, λ p. inl refl);
  clears = λ o below top gv r hd wk. (refl, refl, refl, λ p. inl refl);
  drains = λ o below top gv ph w ws hd. cond_both (s.attends && not (eqb (s.callback w) 0)) _ _ (Set Small s) (λ e. (refl, refl, refl, λ p. inl refl)) (λ e. (refl, refl, refl, λ p. inl refl));
  empties = λ o below top gv k ph h. gives_set s (with_phase o (Freeing (suc k)) (with_places o (set (s.places o) k 0) s)) (get_or (s.places o) k 0) (refl, refl, refl, λ p. refl);
  leaves = λ o below top gv k ph h. gives_set s (with_phase o Leaving (with_callback o 0 (unlisted o s))) (s.callback o) (refl, refl, refl, λ p. refl);
  frees = λ o below top gv ph. (refl, refl, refl, point (λ y. ((leaving o below s).shape y ≡ s.shape y) ⊎ ((leaving o below s).phase y ≡ Absent)) o (inr (rw (same o) refl)) (λ y ne. inl (rw (ne_eqb y o ne) refl)));
})

-- ---- calls that set nothing

-- handles set nothing
hold_all_unset : (l : List ℕ) (s : State) → Unset s (hold_all l s)
hold_all_unset [] s = (refl, refl, refl, λ p. refl)
hold_all_unset (o ∷ os) s = hold_all_unset os (hold o s)

-- nor does the end of a del
del_unset : (s : State) (o : ℕ) (below : List ℕ) → Unset s (del_ends o below s)
del_unset s o below = cond_both (spent s o) _ _ (Unset s) (λ e. (refl, refl, refl, λ p. refl)) (λ e. (refl, refl, refl, λ p. refl))

-- nor any hand back
back_unset : (s : State) (o : ℕ) (below : List ℕ) (h : Phase) → Unset s (handed_back h o below s)
back_unset s o below Absent = (refl, refl, refl, λ p. refl)
back_unset s o below Resting = (refl, refl, refl, λ p. refl)
back_unset s o below (DelOpen c) = cond_both (loose s o) (less o s) s (λ u. Unset s (del_ends o below u)) (λ e. del_unset (less o s) o below) (λ e. del_unset s o below)
back_unset s o below Taking = (refl, refl, refl, λ p. refl)
back_unset s o below Draining = (refl, refl, refl, λ p. refl)
back_unset s o below (Calling c w) = (refl, refl, refl, λ p. refl)
back_unset s o below (Freeing k) = (refl, refl, refl, λ p. refl)
back_unset s o below Leaving = (refl, refl, refl, λ p. refl)

-- that of the newest turn among them
newest_unset : (l : List ℕ) (s : State) → Unset s (newest_back l s)
newest_unset [] s = (refl, refl, refl, λ p. refl)
newest_unset (o ∷ below) s = back_unset (with_turns (s.turns - 1) s) o below (s.phase o)

-- nor does what becomes the host's handle
gained_unset : (o : ℕ) (s : State) → Unset s (gained o s)
gained_unset o s = cond_both (loose s o) _ s (Unset s) (λ e. (refl, refl, refl, λ p. refl)) (λ e. (refl, refl, refl, λ p. refl))

-- ---- calls that make an object

-- the next birth is nobody's, so an object is made
born_made : (v : Shape) (l : List ℕ) (callback : ℕ) (s : State) → s.phase s.next ≡ Absent → (p : ℕ) → (born v l callback s).shape p ≡ made_as s.next v s p
born_made v l callback s absent = point (λ p. (born v l callback s).shape p ≡ made_as s.next v s p) s.next (rw (same s.next, absent) refl) (λ p ne. rw (ne_eqb p s.next ne) refl)

-- what is live is unfreed
live_stands : (h : Phase) → is_live h ≡ true → is_unfreed h ≡ true
live_stands Absent l = let z : ◌≡◌ {A = ℕ} 0 1 = cc in absurd (omega arith)
live_stands Resting l = refl
live_stands (DelOpen c) l = refl
live_stands Taking l = refl
live_stands Draining l = refl
live_stands (Calling c w) l = refl
live_stands (Freeing k) l = refl
live_stands Leaving l = refl

-- what stands already is not made again
again_made : (w : ℕ) (v : Shape) (s : State) → is_unfreed (s.phase w) ≡ true → (p : ℕ) → s.shape p ≡ made_as w v s p
again_made w v s u = point (λ p. s.shape p ≡ made_as w v s p) w (rw (same w, u) refl) (λ p ne. rw (ne_eqb p w ne) refl)

-- ---- the calls

-- an accepted call sets what it says, and makes what it answers as it says
call_set : (c : Call) (s : State) → Inv s [] → Set (Accepted c (replied (outcome c s))) s (own_change (outcome c s))
unfolding outcome
call_set (Make class dictionary payload) s i = (refl, refl, refl, born_made _ (new_places (class_at s.classes class) dictionary payload.edges) 0 (handed (Make class dictionary payload) s) (i.frame.fresh s.next (inr (omega arith))))
call_set (Hold o) s i = (refl, refl, refl, λ p. refl)
call_set (Drop o lent) s i = give_up_unset (handed (Drop o lent) s) o
call_set (Store o slot v) s i = gained_unset (content s o (slot_place slot)) (with_places o (set (s.places o) (slot_place slot) v) (handed (Store o slot v) s))
call_set (Swap o edge v) s i = gained_unset (content s o (edge_place s o edge)) (with_places o (set (s.places o) (edge_place s o edge) v) (handed (Swap o edge v) s))
call_set (SetDictionary o dictionary lent) s i = give_up_unset (with_places o (set (s.places o) 0 dictionary) (handed (SetDictionary o dictionary lent) s)) (dictionary_of s o)
call_set (Weaken class o callback dictionary) s i =
    let h = handed (Weaken class o callback dictionary) s in
    let v : Shape = record { class = class; kind = 1; traced = false; slots = slot_count (class_at s.classes class); referent = o } in
    cond_both (reused s class o callback) (Answers (s.cached o) [] (hold (s.cached o) s)) (Answers s.next [] (new_reference class o callback dictionary h))
    (λ out. Set (Accepted (Weaken class o callback dictionary) (replied out)) s (own_change out))
    (λ e. (refl, refl, refl, again_made (s.cached o) v s (live_stands (s.phase (s.cached o)) (reused_live class o callback s i e))))
    (λ e. (refl, refl, refl, born_made v (new_places (class_at s.classes class) dictionary []) callback h (i.frame.fresh s.next (inr (omega arith)))))
call_set (Upgrade w) s i =
    cond_both (answering s w) (Answers (s.shape w).referent [] (hold (s.shape w).referent s)) (Answers 0 [] s) (λ out. Unset s (own_change out))
    (λ e. (refl, refl, refl, λ p. refl))
    (λ e. (refl, refl, refl, λ p. refl))
call_set (ListWeak o lent) s i = hold_all_unset (standing s o) s
call_set (Intern o) s i = (refl, refl, refl, λ p. refl)
call_set (Attend host) s i = (refl, refl, refl, λ p. refl)
call_set (SetDel class del) s i = (refl, refl, refl, λ p. refl)
call_set (HandBack turn lent) s i = newest_unset s.stack s

pub every_set : (cs : List Call) (s : State) → Between s → Every (λ st h. Set st.what st.before st.after) (history (run cs s))
every_set = every_history (λ st. Set st.what st.before st.after) (record {
  accepts = λ c s b g. call_set c s b.always.inv;
  refuses = λ c fault s b. (refl, refl, refl, λ p. refl);
  steps = λ s a. small_set s;
})

-- ---- the deaths that follow a call set no host

settle_attends : (n : ℕ) (s : State) → (settle n s).attends ≡ s.attends
unfolding settle
settle_attends zero s = refl
settle_attends (suc n) s = settle_attends n (advance s) ∙ (small_set s).1

after_attends : (out : Outcome) → (after out).attends ≡ (own_change out).attends
unfolding settled
after_attends (Answers number listed s) = refl
after_attends (DeathsFollow left s) = settle_attends (work s) s

-- so a host attends after an accepted call as the call says
pub attends_told : (c : Call) (s : State) → Inv s [] → (after (outcome c s)).attends ≡ attends_by c s.attends
attends_told c s i = after_attends (outcome c s) ∙ (call_set c s i).1
