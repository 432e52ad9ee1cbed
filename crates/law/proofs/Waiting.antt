-- A callback turn ends with its hand back, and not before.
use Rattle.std.proofs.Common.{◌≡◌, ℕ, suc, ◌+◌, ◌-◌, false, not, ◌&&◌, eqb, ◌⊎◌, List, [], ◌∷◌, get_or, set, refl, inl, inr, arith}
use Rattle.std.proofs.lemmas.Bool.{ne_eqb, both_ways, cond_both}
use Rattle.definition.specs.Base.{put}
use Rattle.definition.specs.State.{Phase, Absent, Resting, DelOpen, Taking, Draining, Calling, Freeing, Leaving, State, is_live, is_open}
use Rattle.definition.specs.Changes.{with_phase, with_places, with_callback, with_giving, with_handles, with_turns, with_stack}
use Rattle.definition.specs.Death.{loose, less, spent, unlisted, clearing_begins, give_up, advance}
use Rattle.definition.specs.Calls.{Call, Make, Hold, Drop, Store, Swap, SetDictionary, Weaken, Upgrade, ListWeak, Intern, Attend, SetDel, HandBack, Answers, content, dictionary_of, standing, reused, answering, handed, hold, hold_all, exchanged, new_reference, del_ends, handed_back, newest_back, replied, outcome}
use Rattle.definition.proofs.Sums.{same, point}
use Rattle.definition.proofs.Advance.{give_up_cases, advance_cases}
use Rattle.law.specs.Events.{NoTurnOf}
use Rattle.law.specs.Run.{What, Accepted, Step, own_change}
use Rattle.law.specs.Law.{HandedBack}
use Rattle.law.proofs.Invariant.{Inv}
use Rattle.law.proofs.WithHistory.{Made, own, refused, small}

-- every open callback turn stays open
abbrev pub Stays : State → State → Type 0
Stays s t = (o c w : ℕ) → s.phase o ≡ Calling c w → t.phase o ≡ Calling c w

-- or it ends with a hand back
abbrev pub CallEnds : What → State → State → Type 0
CallEnds what s t = (o c w : ℕ) → s.phase o ≡ Calling c w → (t.phase o ≡ Calling c w) ⊎ (HandedBack what × NoTurnOf t o)

-- the phase of an object changes that has no callback turn
elsewhere : (s : State) (o : ℕ) (p : Phase) → ((c w : ℕ) → s.phase o ≡ Calling c w → ⊥) → (y c w : ℕ) → s.phase y ≡ Calling c w → put s.phase o p y ≡ Calling c w
elsewhere s o p f = point (λ y. (c w : ℕ) → s.phase y ≡ Calling c w → put s.phase o p y ≡ Calling c w) o (λ c w e. absurd (f c w e)) (λ y ne c w e. rw (ne_eqb y o ne) e)

-- that has no turn
closed : (s : State) (o : ℕ) (p : Phase) → is_open (s.phase o) ≡ false → (y c w : ℕ) → s.phase y ≡ Calling c w → put s.phase o p y ≡ Calling c w
closed s o p f = elsewhere s o p (λ c w e. both_ways (is_open (s.phase o)) f (rw e refl))

-- a death that starts has no turn before
gives_stays : (s u : State) (x : ℕ) → Stays s u → Stays s (give_up x u)
gives_stays s u x f =
    give_up_cases u x (Stays s) (λ lo. f) (λ lo e. f) (λ lo ph e. (λ q o c w d. closed u x _ (rw ph refl) o c w (f o c w d), λ q o c w d. closed u x _ (rw ph refl) o c w (f o c w d)))

-- small steps end no turn
small_stays : (s : State) → Stays s (advance s)
small_stays s = advance_cases s (Stays s) (record {
  idle = λ r o c w e. e;
  gives = λ o below top x xs gv. gives_stays s (with_giving o xs s) x (λ y c w e. e);
  takes = λ o below top gv r w rest wk few. cond_both (spent s w) _ _ (Stays s) (λ e. closed s o Taking top.moves) (λ e. closed s o Taking top.moves);
  completes = λ o below top gv ph w ws hd. closed s o Draining top.moves;
  clears = λ o below top gv r hd wk. closed s o (Freeing 0) top.moves;
  drains = λ o below top gv ph w ws hd. cond_both (s.attends && not (eqb (s.callback w) 0)) _ _ (Stays s) (λ e. closed s o (Calling (s.callback w) w) top.moves) (λ e y c v d. d);
  empties = λ o below top gv k ph h. gives_stays s (with_phase o (Freeing (suc k)) (with_places o (set (s.places o) k 0) s)) (get_or (s.places o) k 0) (closed s o (Freeing (suc k)) top.moves);
  leaves = λ o below top gv k ph h. gives_stays s (with_phase o Leaving (with_callback o 0 (unlisted o s))) (s.callback o) (closed s o Leaving top.moves);
  frees = λ o below top gv ph. closed s o Absent top.moves;
})

-- ---- calls

-- handles given change no phase
hold_all_stays : (s : State) (os : List ℕ) (t : State) → Stays s t → Stays s (hold_all os t)
hold_all_stays s [] t f = f
hold_all_stays s (o ∷ os) t f = hold_all_stays s os (hold o t) f

-- nor does an exchange
exchanged_stays : (s t : State) (o k v : ℕ) → Stays s t → Stays s (exchanged o k v t)
exchanged_stays s t o k v f =
    let u = with_places o (set (t.places o) k v) t in
    let x = content t o k in
    cond_both (loose u x) (with_handles x (u.handles x + 1) u) u (Stays s) (λ e. f) (λ e. f)

-- nobody is born into a turn
born_stays : (s : State) → Inv s [] → (y c w : ℕ) → s.phase y ≡ Calling c w → put s.phase s.next Resting y ≡ Calling c w
born_stays s i = closed s s.next Resting (rw (i.frame.fresh s.next (inr (omega arith))) refl)

module _ (what : What) (back : HandedBack what) (s : State) (o : ℕ) (below : List ℕ) where
  -- a del turn's end ends no callback turn
  del_ends_stays : (class : ℕ) → s.phase o ≡ DelOpen class → (u : State) → u.phase ≡ s.phase → Stays s (del_ends o below u)
  del_ends_stays class ph u e =
      let f : (p : Phase) (y c w : ℕ) → s.phase y ≡ Calling c w → put u.phase o p y ≡ Calling c w =
      λ p y c w d. rw e (elsewhere s o p (λ c w d. both_ways (is_live (s.phase o)) (rw d refl) (rw ph refl)) y c w d) in
      cond_both (spent u o) (clearing_begins o u) (with_stack below (with_phase o Resting u)) (Stays s) (λ q. f Taking) (λ q. f Resting)

  -- the newest death's turn ends, if it is a callback's
  handed_back_ends : (p : Phase) → s.phase o ≡ p → CallEnds what s (handed_back p o below (with_turns (s.turns - 1) s))
  handed_back_ends Absent ph = λ y c w e. inl e
  handed_back_ends Resting ph = λ y c w e. inl e
  handed_back_ends (DelOpen d) ph =
      let u = with_turns (s.turns - 1) s in
      cond_both (loose u o) (less o u) u (λ v. CallEnds what s (del_ends o below v)) (λ e. λ y c w q. inl (del_ends_stays d ph (less o u) refl y c w q)) (λ e. λ y c w q. inl (del_ends_stays d ph u refl y c w q))
  handed_back_ends Taking ph = λ y c w e. inl e
  handed_back_ends Draining ph = λ y c w e. inl e
  handed_back_ends (Calling d v) ph =
      let t = with_phase o Draining (with_turns (s.turns - 1) s) in
      point (λ y. (c w : ℕ) → s.phase y ≡ Calling c w → (t.phase y ≡ Calling c w) ⊎ (HandedBack what × NoTurnOf t y)) o
      (λ c w e. inr (back, rw (same o) refl))
      (λ y ne c w e. inl (rw (ne_eqb y o ne) e))
  handed_back_ends (Freeing k) ph = λ y c w e. inl e
  handed_back_ends Leaving ph = λ y c w e. inl e

-- and where nothing is dying, none ends
newest_back_ends : (what : What) → HandedBack what → (s : State) (l : List ℕ) → CallEnds what s (newest_back l s)
newest_back_ends what back s [] = λ y c w e. inl e
newest_back_ends what back s (o ∷ below) = handed_back_ends what back s o below (s.phase o) refl

-- an accepted call ends none, but for a hand back
own_call_ends : (c : Call) (s : State) → Inv s [] → CallEnds (Accepted c (replied (outcome c s))) s (own_change (outcome c s))
unfolding outcome
own_call_ends (Make class dictionary payload) s i = λ y c w d. inl (born_stays s i y c w d)
own_call_ends (Hold o) s i = λ y c w e. inl e
own_call_ends (Drop o lent) s i = λ y c w d. inl (gives_stays s (handed (Drop o lent) s) o (λ y c w e. e) y c w d)
own_call_ends (Store o slot v) s i = λ y c w d. inl (exchanged_stays s (handed (Store o slot v) s) o _ v (λ y c w e. e) y c w d)
own_call_ends (Swap o edge v) s i = λ y c w d. inl (exchanged_stays s (handed (Swap o edge v) s) o _ v (λ y c w e. e) y c w d)
own_call_ends (SetDictionary o dictionary lent) s i =
    λ y c w d. inl (gives_stays s (with_places o (set (s.places o) 0 dictionary) (handed (SetDictionary o dictionary lent) s)) (dictionary_of s o) (λ y c w e. e) y c w d)
own_call_ends (Weaken class o callback dictionary) s i =
    cond_both (reused s class o callback) (Answers (s.cached o) [] (hold (s.cached o) s)) (Answers s.next [] (new_reference class o callback dictionary (handed (Weaken class o callback dictionary) s))) (λ out. CallEnds (Accepted (Weaken class o callback dictionary) (replied out)) s (own_change out))
    (λ e. λ y c w d. inl d)
    (λ e. λ y c w d. inl (born_stays s i y c w d))
own_call_ends (Upgrade v) s i =
    cond_both (answering s v) (Answers (s.shape v).referent [] (hold (s.shape v).referent s)) (Answers 0 [] s) (λ out. CallEnds (Accepted (Upgrade v) (replied out)) s (own_change out))
    (λ e. λ y c w d. inl d)
    (λ e. λ y c w d. inl d)
own_call_ends (ListWeak o lent) s i = λ y c w d. inl (hold_all_stays s (standing s o) s (λ y c w e. e) y c w d)
own_call_ends (Intern o) s i = λ y c w e. inl e
own_call_ends (Attend host) s i = λ y c w e. inl e
own_call_ends (SetDel class del) s i = λ y c w e. inl e
own_call_ends (HandBack turn lent) s i = newest_back_ends _ (turn, lent, _, refl) s s.stack

-- every step
pub made_call_ends : {K : State → Type 0} (st : Step) → Made K st → CallEnds st.what st.before st.after
made_call_ends _ (own c s i k g j) = own_call_ends c s i
made_call_ends _ (refused c fault s i k e) = λ o c w e. inl e
made_call_ends _ (small s i r) = λ y c w d. inl (small_stays s y c w d)
