-- What the small steps after a call free, and which turn they open.
use Rattle.std.proofs.Common.{◌≡◌, ℕ, zero, suc, Bool, true, false, not, ◌&&◌, eqb, ltb, ◌⊎◌, List, [], ◌∷◌, ◌++◌, get_or, set, Some, None, sym, refl, ap, ◌∙◌, subst, inl, inr, arith, append_assoc, append-nil}
use Rattle.std.proofs.lemmas.Bool.{ne_eqb, lt-ltb, le-ltb, cases_eq, both_ways, cond_both, cond-true, cond-false}
use Rattle.definition.specs.Base.{put}
use Rattle.definition.specs.State.{Phase, Absent, Resting, DelOpen, Taking, Draining, Calling, Freeing, Leaving, State, is_unfreed, is_open}
use Rattle.definition.specs.Changes.{with_phase, with_places, with_callback, with_held, with_giving}
use Rattle.definition.specs.Death.{more, spent, found, opened, give_up, unlisted, advance, frees_by, frees_top, frees, waits, rests, settle, freed_in}
use Rattle.definition.specs.Calls.{Del, Callback, Asked, newest_turn, turn_since}
use Rattle.definition.proofs.Sums.{same, point}
use Rattle.definition.proofs.Advance.{is_dying, give_up_cases, Top, Idle, advance_cases}
use Rattle.definition.proofs.Work.{Tidy, advance_tidy}
use Rattle.definition.proofs.Settles.{settle_stays, frees_at_rest, freed_stays}
use Rattle.law.specs.Run.{What, Small, Step, small_steps}
use Rattle.law.specs.Events.{Freed}
use Rattle.law.specs.Law.{Lists, quiet, one, Opens, Quiet, AllQuiet, Shows}

-- ---- phases

-- nothing is freed
abbrev pub NoneFreed : (ℕ → Phase) → (ℕ → Phase) → Type 0
NoneFreed p q = (o : ℕ) → is_unfreed (p o) ≡ true → is_unfreed (q o) ≡ true

-- no turn opens
abbrev pub NoneOpens : (ℕ → Phase) → (ℕ → Phase) → Type 0
NoneOpens p q = (o : ℕ) → is_open (p o) ≡ false → is_open (q o) ≡ false

-- one phase changes to that of an unfreed object
pub put_unfreed : (f : ℕ → Phase) (o : ℕ) (p : Phase) → is_unfreed p ≡ true → NoneFreed f (put f o p)
put_unfreed f o p e = point (λ y. is_unfreed (f y) ≡ true → is_unfreed (put f o p y) ≡ true) o (λ u. rw (same o) e) (λ y ne u. rw (ne_eqb y o ne) u)

-- or to one in which no turn is open
pub put_closed : (f : ℕ → Phase) (o : ℕ) (p : Phase) → is_open p ≡ false → NoneOpens f (put f o p)
put_closed f o p e = point (λ y. is_open (f y) ≡ false → is_open (put f o p y) ≡ false) o (λ u. rw (same o) e) (λ y ne u. rw (ne_eqb y o ne) u)

-- or to one in which a turn is open exactly if one was
put_as_open : (f : ℕ → Phase) (o : ℕ) (p : Phase) → is_open p ≡ is_open (f o) → (y : ℕ) → is_open (put f o p y) ≡ is_open (f y)
put_as_open f o p e = point (λ y. is_open (put f o p y) ≡ is_open (f y)) o (rw (same o) e) (λ y ne. rw (ne_eqb y o ne) refl)

-- ---- frees, step by step

-- what a step frees, if anything
abbrev pub StepFrees : State → State → Type 0
StepFrees s t = ((frees s ≡ []) × NoneFreed s.phase t.phase) ⊎ ((x : ℕ) × (frees s ≡ x ∷ []) × (is_unfreed (s.phase x) ≡ true) × (t.phase x ≡ Absent) × ((o : ℕ) → (o ≡ x → ⊥) → t.phase o ≡ s.phase o))

-- a death that starts frees nobody
pub give_up_unfreed : (s v : State) (x : ℕ) → NoneFreed s.phase v.phase → NoneFreed s.phase (give_up x v).phase
give_up_unfreed s v x n =
    give_up_cases v x (λ t. NoneFreed s.phase t.phase) (λ lo. n) (λ lo e. n)
    (λ lo ph e. (λ a o u. put_unfreed v.phase x (DelOpen (found v x)) refl o (n o u), λ a o u. put_unfreed v.phase x Taking refl o (n o u)))

module _ (s : State) (o : ℕ) (below : List ℕ) (st : s.stack ≡ o ∷ below) where
  -- only the newest of the dying may be freed
  frees_on_top : frees s ≡ frees_by (s.phase o) (s.giving o) o
  unfolding frees
  frees_on_top = ap (λ (l : List ℕ). frees_top l s) st

  -- and not while it has something to give up
  gives_first : (x : ℕ) (xs : List ℕ) → s.giving o ≡ x ∷ xs → frees s ≡ []
  gives_first x xs gv = frees_on_top ∙ rw gv (by (s.phase o))
    where
      by : (p : Phase) → frees_by p (x ∷ xs) o ≡ []
      by Absent = refl
      by Resting = refl
      by (DelOpen c) = refl
      by Taking = refl
      by Draining = refl
      by (Calling c w) = refl
      by (Freeing k) = refl
      by Leaving = refl

-- each step frees whom it is said to free, and nobody else
advance_frees : (s : State) → Tidy s → StepFrees s (advance s)
advance_frees s t = advance_cases s (StepFrees s) (record {
  idle = idle;
  gives = λ o below top x xs gv. inl (gives_first s o below top.stack x xs gv, give_up_unfreed s (with_giving o xs s) x (λ y u. u));
  takes = λ o below top gv r w rest wk h.
      cond_both (spent s w) _ _ (StepFrees s) (λ e. inl (rounds o below top r, put_unfreed s.phase o Taking refl)) (λ e. inl (rounds o below top r, put_unfreed s.phase o Taking refl));
  completes = λ o below top gv ph w ws hd. inl (frees_on_top s o below top.stack ∙ rw ph refl, put_unfreed s.phase o Draining refl);
  clears = λ o below top gv r hd wk. inl (rounds o below top r, put_unfreed s.phase o (Freeing 0) refl);
  drains = λ o below top gv ph w ws hd.
      cond_both (s.attends && not (eqb (s.callback w) 0)) _ _ (StepFrees s)
      (λ e. inl (frees_on_top s o below top.stack ∙ rw ph refl, put_unfreed s.phase o (Calling (s.callback w) w) refl))
      (λ e. inl (frees_on_top s o below top.stack ∙ rw ph refl, λ y u. u));
  empties = λ o below top gv k ph h.
      inl (frees_on_top s o below top.stack ∙ rw ph refl, give_up_unfreed s (with_phase o (Freeing (suc k)) (with_places o (set (s.places o) k 0) s)) (get_or (s.places o) k 0) (put_unfreed s.phase o (Freeing (suc k)) refl));
  leaves = λ o below top gv k ph h.
      inl (frees_on_top s o below top.stack ∙ rw ph refl, give_up_unfreed s (with_phase o Leaving (with_callback o 0 (unlisted o s))) (s.callback o) (put_unfreed s.phase o Leaving refl));
  frees = λ o below top gv ph. inr (o, frees_on_top s o below top.stack ∙ rw (ph, gv) refl, rw ph refl, rw (same o) refl, λ y ne. rw (ne_eqb y o ne) refl);
})
  where
    idle : Idle s → StepFrees s s
    idle (inl e) = inl (frees_at_rest s e, λ o u. u)
    idle (inr q) = absurd (both_ways (is_dying (s.phase q.0)) q.2 (t.dying q.0 q.1))

    rounds : (o : ℕ) (below : List ℕ) → Top s o below → (s.phase o ≡ Taking) ⊎ ((s.phase o ≡ Draining) × (s.held o ≡ [])) → frees s ≡ []
    rounds o below top (inl ph) = frees_on_top s o below top.stack ∙ rw ph refl
    rounds o below top (inr d) = frees_on_top s o below top.stack ∙ rw d.0 refl

-- what the small steps free after what was freed before them
pub frees_listed : (n : ℕ) (s : State) → Tidy s → (h : List Step) (l : List ℕ) → Lists h l → Lists (small_steps n s ++ h) (l ++ freed_in n s)
unfolding freed_in
frees_listed zero s t h l f = subst (Lists h) (sym (append-nil l)) f
frees_listed (suc n) s t h l f = go (rests s) refl (frees_listed n (advance s) (advance_tidy s t))
  where
    now : Step
    now = record { what = Small; before = s; after = advance s }

    -- this step
    first : StepFrees s (advance s) → Lists (now ∷ h) (l ++ frees s)
    first (inl q) = subst (λ (m : List ℕ). Lists (now ∷ h) m) (sym (ap (λ (m : List ℕ). l ++ m) q.0 ∙ append-nil l)) (quiet (λ o d. both_ways (is_unfreed ((advance s).phase o)) d.1 (q.1 o d.0)) f)
    first (inr q) =
        subst (λ (m : List ℕ). Lists (now ∷ h) (l ++ m)) (sym q.1)
        (one q.0 (q.2, ap is_unfreed q.3) (λ o d. other o d (cases_eq o q.0)) f)
      where
        other : (o : ℕ) → Freed now o → (o ≡ q.0) ⊎ (o ≡ q.0 → ⊥) → o ≡ q.0
        other o d (inl e) = e
        other o d (inr ne) = absurd (both_ways (is_unfreed (s.phase o)) (ap is_unfreed (sym (q.4 o ne)) ∙ d.1) d.0)

    go : (b : Bool) → rests s ≡ b → ((k : List Step) (m : List ℕ) → Lists k m → Lists (small_steps n (advance s) ++ k) (m ++ freed_in n (advance s))) → Lists (small_steps (suc n) s ++ h) (l ++ (frees s ++ freed_in n (advance s)))
    go true e rest = rw e (subst (Lists h) (sym (ap (λ (m : List ℕ). l ++ m) (freed_stays (suc n) s e) ∙ append-nil l)) f)
    go false e rest =
        rw (e, append_assoc (small_steps n (advance s)) (now ∷ []) h, ← append_assoc l (frees s) (freed_in n (advance s))) (rest (now ∷ h) (l ++ frees s) (first (advance_frees s t)))

-- ---- turns, step by step

-- a turn opens, for the newest death, which then waits
pub record OpensOne (s : State) (turns : ℕ) (t : State) : Type 0 where
  pub asked : Asked
  pub opens : (what : What) → Opens (record { what = what; before = s; after = t }) asked
  pub more : t.turns ≡ suc turns
  pub newest : newest_turn t.stack t ≡ Some (record { depth = t.turns; asked = asked })
  pub rests : rests t ≡ true

-- from so many open turns: one opens, or none
abbrev pub Turned : State → ℕ → State → Type 0
Turned s turns t = OpensOne s turns t ⊎ ((t.turns ≡ turns) × NoneOpens s.phase t.phase)

-- a death that starts opens its del turn, or none
pub give_up_turned : (s v : State) (x : ℕ) → ((o : ℕ) → is_open (v.phase o) ≡ is_open (s.phase o)) → Turned s v.turns (give_up x v)
give_up_turned s v x ph =
    give_up_cases v x (Turned s v.turns) (λ lo. inr (refl, λ o e. ph o ∙ e)) (λ lo q. inr (refl, λ o e. ph o ∙ e))
    (λ lo at_rest q. (
      λ a. inl (record { asked = Del x (found v x); opens = λ what. (sym (ph x) ∙ ap is_open at_rest, rw (same x) refl); more = refl; newest = rw (same x) refl; rests = rw (same x) refl }),
      λ a. inr (refl, λ o e. put_closed v.phase x Taking refl o (ph o ∙ e)),
    ))

-- each step opens one turn or none
advance_turned : (s : State) → Turned s s.turns (advance s)
advance_turned s = advance_cases s (Turned s s.turns) (record {
  idle = λ r. inr (refl, λ o e. e);
  gives = λ o below top x xs gv. give_up_turned s (with_giving o xs s) x (λ y. refl);
  takes = λ o below top gv r w rest wk h. cond_both (spent s w) _ _ (Turned s s.turns) (λ e. inr (refl, put_closed s.phase o Taking refl)) (λ e. inr (refl, put_closed s.phase o Taking refl));
  completes = λ o below top gv ph w ws hd. inr (refl, put_closed s.phase o Draining refl);
  clears = λ o below top gv r hd wk. inr (refl, put_closed s.phase o (Freeing 0) refl);
  drains = λ o below top gv ph w ws hd.
      let c = s.callback w in
      let t = opened (with_phase o (Calling c w) (with_giving o (w ∷ c ∷ w ∷ []) (more w (with_held o ws (with_callback w 0 s))))) in
      cond_both (s.attends && not (eqb c 0)) t (with_giving o (c ∷ w ∷ []) (with_held o ws (with_callback w 0 s))) (Turned s s.turns)
      (λ e. inl (record {
        asked = Callback c w;
        opens = λ what. (o, (top.moves, rw (same o) refl));
        more = refl;
        newest = subst (λ (l : List ℕ). newest_turn l t ≡ Some (record { depth = t.turns; asked = Callback c w })) (sym top.stack) (rw (same o) refl);
        rests = subst (λ (l : List ℕ). waits l t ≡ true) (sym top.stack) (rw (same o) refl);
      }))
      (λ e. inr (refl, λ y q. q));
  empties = λ o below top gv k ph h.
      give_up_turned s (with_phase o (Freeing (suc k)) (with_places o (set (s.places o) k 0) s)) (get_or (s.places o) k 0) (put_as_open s.phase o (Freeing (suc k)) (rw ph refl));
  leaves = λ o below top gv k ph h. give_up_turned s (with_phase o Leaving (with_callback o 0 (unlisted o s))) (s.callback o) (put_as_open s.phase o Leaving (rw ph refl));
  frees = λ o below top gv ph. inr (refl, put_closed s.phase o Absent refl);
})

-- ---- the turn that a reply shows

-- a step that opens none
pub quiet_step : (what : What) (s t : State) → NoneOpens s.phase t.phase → Quiet (record { what = what; before = s; after = t })
quiet_step what s t n (Del o class) q = both_ways (is_open (t.phase o)) (n o q.0) (ap is_open q.1)
quiet_step what s t n (Callback c w) q = both_ways (is_open (t.phase q.0)) (n q.0 q.1.0) (ap is_open q.1.1)

-- no turn has opened since, if as many are open
none_since : (left : ℕ) (s : State) → s.turns ≡ left → turn_since left s ≡ None
none_since left s e = cond-false (ltb left s.turns) (newest_turn s.stack s) None (le-ltb left s.turns (omega arith))

-- no steps follow where no work is left
pub no_steps : (n : ℕ) (s : State) → rests s ≡ true → small_steps n s ≡ []
no_steps zero s e = refl
no_steps (suc n) s e = cond-true (rests s) [] (small_steps n (advance s) ++ (record { what = Small; before = s; after = advance s } ∷ [])) e

-- a turn that has opened is shown
pub opened_shown : (n left : ℕ) (s t : State) (what : What) (h : List Step) → AllQuiet h → OpensOne s left t → Shows (small_steps n t ++ (record { what = what; before = s; after = t } ∷ h)) (turn_since left (settle n t))
opened_shown n left s t what h q o =
    rw (no_steps n t o.rests, settle_stays n t o.rests, cond-true (ltb left t.turns) (newest_turn t.stack t) None (lt-ltb left t.turns (omega (arith, o.more))), o.newest)
    (o.opens what, refl, q)

-- and none, where none has
pub turns_shown : (n left : ℕ) (s : State) (h : List Step) → s.turns ≡ left → AllQuiet h → Shows (small_steps n s ++ h) (turn_since left (settle n s))
unfolding settle
turns_shown zero left s h e q = rw (none_since left s e) q
turns_shown (suc n) left s h e q = go (rests s) refl (advance_turned s) (turns_shown n left (advance s))
  where
    now : Step
    now = record { what = Small; before = s; after = advance s }

    go :
        (b : Bool) → rests s ≡ b → Turned s s.turns (advance s)
        → ((k : List Step) → (advance s).turns ≡ left → AllQuiet k → Shows (small_steps n (advance s) ++ k) (turn_since left (settle n (advance s))))
        → Shows (small_steps (suc n) s ++ h) (turn_since left (settle n (advance s)))
    go true w m rest = rw (w, settle_stays (suc n) s w, none_since left s e) q
    go false w (inl o) rest = rw (w, append_assoc (small_steps n (advance s)) (now ∷ []) h) (opened_shown n left s (advance s) Small h q (subst (λ (k : ℕ). OpensOne s k (advance s)) e o))
    go false w (inr p) rest = rw (w, append_assoc (small_steps n (advance s)) (now ∷ []) h) (rest (now ∷ h) (p.0 ∙ e) (quiet_step Small s (advance s) p.1, q))
