-- What a reply tells, over every run: the births that the call's steps free, and the turn that its last step opens.
use Rattle.std.proofs.Common.{◌≡◌, ℕ, suc, ◌+◌, ◌-◌, ◌<◌, true, ltb, Option, ◌⊎◌, List, [], ◌∷◌, ◌++◌, set, Some, None, Ok, refl, ap, inl, inr, arith}
use Rattle.std.proofs.lemmas.Bool.{ne_eqb, both_ways, cond_both}
use Rattle.refusal.specs.declared.Fault.{Fault}
use Rattle.classes.specs.Rows.{Class}
use Rattle.definition.specs.Base.{put, count}
use Rattle.definition.specs.State.{Phase, Absent, Resting, DelOpen, Taking, Draining, Calling, Freeing, Leaving, no_shape, State, is_unfreed, is_open}
use Rattle.definition.specs.Changes.{with_places, with_turns, with_handles, born}
use Rattle.definition.specs.Death.{loose, less, spent, give_up, waits, rests, work, settled, freed}
use Rattle.definition.specs.Calls.{Call, Make, Hold, Drop, Store, Swap, SetDictionary, Weaken, Upgrade, ListWeak, Intern, Attend, SetDel, HandBack, Outcome, Answers, DeathsFollow, content, dictionary_of, Turn, standing, reused, answering, handed, hold, hold_all, exchanged, del_ends, handed_back, newest_back, newest_turn, turn_since, refusal, outcome, replied, after, state_after, answered, call, answer}
use Rattle.definition.specs.Opening.{opening}
use Rattle.definition.proofs.Sums.{point, count_here}
use Rattle.definition.proofs.Advance.{is_dying}
use Rattle.definition.proofs.Work.{Tidy, dying_unfreed, phase_tidy, pop_tidy, give_up_tidy}
use Rattle.definition.proofs.Settles.{settle_stays, settled_tidy}
use Rattle.law.specs.Run.{What, Accepted, Step, Exchange, small_steps, own_change, following, steps_of, exchange, run}
use Rattle.law.specs.Law.{Lists, none, quiet, Shows, Tells, AllTell}
use Rattle.law.proofs.Replies.{NoneFreed, NoneOpens, put_unfreed, put_closed, give_up_unfreed, frees_listed, Turned, give_up_turned, quiet_step, opened_shown, turns_shown, no_steps}

-- ---- a call's own change

-- A change after which what is on the stack is dying, each once, that frees nobody, opens no turn and leaves as many open
abbrev pub Silent : State → State → Type 0
Silent s t = Tidy t × NoneFreed s.phase t.phase × NoneOpens s.phase t.phase × (t.turns ≡ s.turns)

-- a new object, of whatever shape and with whatever places
born_calm : (s : State) → Tidy s → Silent s (born no_shape [] 0 s)
born_calm s t = (
  record {
    below = point (λ y. is_unfreed (put s.phase s.next Resting y) ≡ true → y < suc s.next) s.next (λ u. omega arith) (λ y ne. rw (ne_eqb y s.next ne) (λ u. omega (arith, t.below y u)));
    dying = point (λ y. 0 < count y s.stack → is_dying (put s.phase s.next Resting y) ≡ true) s.next (λ c. absurd (omega (arith, t.below s.next (dying_unfreed (s.phase s.next) (t.dying s.next c))))) (λ y ne. rw (ne_eqb y s.next ne) (t.dying y));
    once = t.once;
  },
  put_unfreed s.phase s.next Resting refl,
  put_closed s.phase s.next Resting refl,
  refl,
)

-- handles for each of a list
hold_all_calm : (os : List ℕ) (s t : State) → Silent s t → Silent s (hold_all os t)
hold_all_calm [] s t c = c
hold_all_calm (o ∷ os) s t c = hold_all_calm os s (hold o t) c

-- a content that goes into a place
exchanged_calm : (s : State) (o k v : ℕ) → Tidy s → Silent s (exchanged o k v s)
exchanged_calm s o k v t =
    let u = with_places o (set (s.places o) k v) s in
    let x = content s o k in
    let c : Silent s s = (t, λ y e. e, λ y e. e, refl) in
    cond_both (loose u x) (with_handles x (u.handles x + 1) u) u (Silent s) (λ e. c) (λ e. c)

module _ (s : State) (t : Tidy s) (o : ℕ) (below : List ℕ) (st : s.stack ≡ o ∷ below) where
  -- the newest of the dying has been born
  lo : o < s.next
  lo = t.below o (dying_unfreed (s.phase o) (t.dying o (rw st (count_here o below))))

  -- what its del does not keep is dying still, and what it keeps leaves the stack
  del_ends_calm : Silent s (del_ends o below s)
  del_ends_calm =
      cond_both (spent s o) _ _ (Silent s)
      (λ e. (phase_tidy s t o Taking lo refl, put_unfreed s.phase o Taking refl, put_closed s.phase o Taking refl, refl))
      (λ e. (pop_tidy s t o below Resting st (λ u. lo), put_unfreed s.phase o Resting refl, put_closed s.phase o Resting refl, refl))

-- the newest death goes on
handed_back_calm : (s : State) → Tidy s → (o : ℕ) (below : List ℕ) → s.stack ≡ o ∷ below → (p : Phase) → Silent s (handed_back p o below s)
handed_back_calm s t o below st Absent = (t, λ y e. e, λ y e. e, refl)
handed_back_calm s t o below st Resting = (t, λ y e. e, λ y e. e, refl)
handed_back_calm s t o below st (DelOpen c) = cond_both (loose s o) (less o s) s (λ (u : State). Silent s (del_ends o below u)) (λ e. del_ends_calm (less o s) t o below st) (λ e. del_ends_calm s t o below st)
handed_back_calm s t o below st Taking = (t, λ y e. e, λ y e. e, refl)
handed_back_calm s t o below st Draining = (t, λ y e. e, λ y e. e, refl)
handed_back_calm s t o below st (Calling c w) = (phase_tidy s t o Draining (lo s t o below st) refl, put_unfreed s.phase o Draining refl, put_closed s.phase o Draining refl, refl)
handed_back_calm s t o below st (Freeing k) = (t, λ y e. e, λ y e. e, refl)
handed_back_calm s t o below st Leaving = (t, λ y e. e, λ y e. e, refl)

-- What a call's own change does: an answer is calm. Where deaths may follow, nobody is freed, and one turn opens, which the
-- newest death then waits in, or none, or nothing is dying
abbrev pub Own : State → Outcome → Type 0
Own s (Answers number listed t) = Silent s t
Own s (DeathsFollow left t) = Tidy t × NoneFreed s.phase t.phase × (Turned s left t ⊎ ((t.stack ≡ []) × NoneOpens s.phase t.phase))

-- a hand back, of whatever is the newest
newest_own : (s : State) → Tidy s → (l : List ℕ) → s.stack ≡ l → Own s (DeathsFollow (s.turns - 1) (newest_back l s))
newest_own s t [] st = (t, λ y e. e, inr (st, λ y e. e))
newest_own s t (o ∷ below) st =
    let c = handed_back_calm (with_turns (s.turns - 1) s) t o below st (s.phase o) in
    (c.0, c.1, inl (inr (c.3, c.2)))

-- a reference that is given up, from a state v that differs from s in no phase
give_up_own : (s v : State) (x : ℕ) → Tidy v → NoneFreed s.phase v.phase → ((o : ℕ) → is_open (v.phase o) ≡ is_open (s.phase o)) → Own s (DeathsFollow v.turns (give_up x v))
give_up_own s v x t n e = (give_up_tidy v x t, give_up_unfreed s v x n, inl (give_up_turned s v x e))

-- each call
own : (c : Call) (s : State) → Tidy s → Own s (outcome c s)
unfolding outcome
own (Make class dictionary payload) s t = born_calm s t
own (Hold o) s t = (t, λ y e. e, λ y e. e, refl)
own (Drop o lent) s t = give_up_own s (handed (Drop o lent) s) o t (λ y e. e) (λ y. refl)
own (Store o slot v) s t = exchanged_calm (handed (Store o slot v) s) o _ v t
own (Swap o edge v) s t = exchanged_calm (handed (Swap o edge v) s) o _ v t
own (SetDictionary o dictionary lent) s t = give_up_own s _ (dictionary_of s o) t (λ y e. e) (λ y. refl)
own (Weaken class o callback dictionary) s t = cond_both (reused s class o callback) _ _ (Own s) (λ e. (t, λ y u. u, λ y u. u, refl)) (λ e. born_calm s t)
own (Upgrade w) s t = cond_both (answering s w) _ _ (Own s) (λ e. (t, λ y u. u, λ y u. u, refl)) (λ e. (t, λ y u. u, λ y u. u, refl))
own (ListWeak o lent) s t = hold_all_calm (standing s o) s s (t, λ y e. e, λ y e. e, refl)
own (Intern o) s t = (t, λ y e. e, λ y e. e, refl)
own (Attend host) s t = (t, λ y e. e, λ y e. e, refl)
own (SetDel class del) s t = (t, λ y e. e, λ y e. e, refl)
own (HandBack turn lent) s t = newest_own s t s.stack refl

-- after a call too, what is on the stack is dying, each once
pub call_tidy : (c : Call) (s : State) → Tidy s → Tidy (call c s)
unfolding call
call_tidy c s t = go (refusal c s)
  where
    follows : (out : Outcome) → Own s out → Tidy (after out)
    follows (Answers number listed u) o = o.0
    follows (DeathsFollow left u) o = settled_tidy u o.0

    go : (f : Option Fault) → Tidy (state_after f (outcome c s) s)
    go None = follows (outcome c s) (own c s t)
    go (Some fault) = t

-- ---- one call

-- where nothing is dying, no turn is the newest
none_newest : (left : ℕ) (s : State) → s.stack ≡ [] → turn_since left s ≡ None
none_newest left s e = cond_both (ltb left s.turns) (newest_turn s.stack s) None (λ (m : Option Turn). m ≡ None) (λ h. ap (λ (l : List ℕ). newest_turn l s) e) (λ h. refl)

-- the turn that the deaths after a call's own change open is the one that the reply shows
following_shows : (s : State) (what : What) (left : ℕ) (t : State) → Turned s left t ⊎ ((t.stack ≡ []) × NoneOpens s.phase t.phase) → Shows (small_steps (work t) t ++ (record { what = what; before = s; after = t } ∷ [])) (turn_since left (settled t))
unfolding settled
following_shows s what left t (inl (inl o)) = opened_shown (work t) left s t what [] tt o
following_shows s what left t (inl (inr q)) = turns_shown (work t) left t (record { what = what; before = s; after = t } ∷ []) q.0 (quiet_step what s t q.1, tt)
following_shows s what left t (inr q) =
    let r : rests t ≡ true = ap (λ (l : List ℕ). waits l t) q.0 in
    rw (no_steps (work t) t r, settle_stays (work t) t r, none_newest left t q.0) (quiet_step what s t q.1, tt)

-- a step that frees nobody
freeing_none : (st : Step) → NoneFreed st.before.phase st.after.phase → Lists (st ∷ []) []
freeing_none st n = quiet (λ o d. both_ways (is_unfreed (st.after.phase o)) d.1 (n o d.0)) none

-- the reply of an accepted call
outcome_tells : (c : Call) (s : State) (out : Outcome) → Own s out → Tells (following out ++ (record { what = Accepted c (replied out); before = s; after = own_change out } ∷ [])) (Ok (replied out))
unfolding freed
outcome_tells c s (Answers number listed t) o = (freeing_none _ o.1, (quiet_step (Accepted c (replied (Answers number listed t))) s t o.2, tt))
outcome_tells c s (DeathsFollow left t) o = (frees_listed (work t) t o.0 (_ ∷ []) [] (freeing_none _ o.1), following_shows s _ left t o.2)

-- the reply of a call lists the births that its steps free, and shows the turn that its last step opens; a refusal changes nothing
pub call_tells : (c : Call) (s : State) → Tidy s → Tells (steps_of (refusal c s) c s) (answer c s)
unfolding answer
call_tells c s t = go (refusal c s)
  where
    go : (f : Option Fault) → Tells (steps_of f c s) (answered f (outcome c s))
    go None = outcome_tells c s (outcome c s) (own c s t)
    go (Some fault) = (refl, tt)

-- ---- a run

-- the calls of two runs, one after the other
tell_append : (es fs : List Exchange) → AllTell es → AllTell fs → AllTell (es ++ fs)
tell_append [] fs a b = b
tell_append (e ∷ es) fs a b = (a.0, tell_append es fs a.1 b)

-- each reply of a run tells what the steps of its call do, from wherever what is on the stack is dying, each once
pub run_tells : (cs : List Call) (s : State) → Tidy s → AllTell (run cs s)
unfolding run
run_tells [] s t = tt
run_tells (c ∷ cs) s t = tell_append (run cs (call c s)) (exchange c s ∷ []) (run_tells cs (call c s) (call_tidy c s t)) (call_tells c s t, tt)

-- nothing is dying in a core that has just been opened
opening_tidy : (capacity first : ℕ) (classes : List Class) → Tidy (opening capacity first classes)
opening_tidy capacity first classes = record { below = λ x u. let z : ◌≡◌ {A = ℕ} 0 1 = cc in absurd (omega arith); dying = λ x c. absurd (omega arith); once = λ x. omega arith }

-- and so in every run of a core that has just been opened
pub replies : (capacity first : ℕ) (classes : List Class) (cs : List Call) → AllTell (run cs (opening capacity first classes))
replies capacity first classes cs = run_tells cs (opening capacity first classes) (opening_tidy capacity first classes)
