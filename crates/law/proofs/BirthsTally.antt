-- Marks are given once, and objects are made once: what is made and not freed is unfreed.
use Rattle.std.proofs.Common.{◌≡◌, ℕ, suc, ◌+◌, ◌-◌, ◌<◌, ◌≤◌, Bool, true, false, ◌&&◌, eqb, ◌⊎◌, List, [], ◌∷◌, set, refl, ap, subst, inl, inr, arith}
use Rattle.std.proofs.lemmas.Bool.{ne_eqb, eq-eqb, cases_eq, cond_both}
use Rattle.classes.specs.Rows.{after_set_del}
use Rattle.definition.specs.Base.{put, bit, count}
use Rattle.definition.specs.State.{Phase, Absent, Resting, DelOpen, Taking, Draining, Calling, Freeing, Leaving, State, is_unfreed, is_live}
use Rattle.definition.specs.Changes.{with_places, with_handles, with_interned, with_turns, with_attends, with_classes}
use Rattle.definition.specs.Death.{loose, less, spent, give_up}
use Rattle.definition.specs.Calls.{Call, Make, Hold, Drop, Store, Swap, SetDictionary, Weaken, Upgrade, ListWeak, Intern, Attend, SetDel, HandBack, Reply, Outcome, Answers, DeathsFollow, content, slot_place, edge_place, dictionary_of, standing, reused, answering, own_grounds, handed, hold, hold_all, exchanged, new_reference, del_ends, handed_back, newest_back, outcome, after, replied}
use Rattle.definition.proofs.Sums.{same, point}
use Rattle.law.specs.Run.{own_change}
use Rattle.law.specs.Tallies.{kind_of, made_by, interned_by}
use Rattle.law.proofs.Invariant.{Inv}
use Rattle.law.proofs.Granted.{Granted}
use Rattle.law.proofs.Makes.{unmet, reused_live}
use Rattle.law.proofs.Passing.{put_unfreed, give_up_passed, settled_passed}

-- ---- what a call leaves as it is

-- the marks, the next birth, and what is unfreed
pub record Kept (s t : State) : Type 0 where
  pub marks : (y : ℕ) → t.interned y ≡ s.interned y
  pub next : t.next ≡ s.next
  pub unfreed : (y : ℕ) → 0 + bit (is_unfreed (t.phase y)) ≡ bit (is_unfreed (s.phase y))

-- where only other things change
all_kept : (s : State) → Kept s s
all_kept s = record { marks = λ y. refl; next = refl; unfreed = λ y. omega arith }

-- giving up a reference
give_up_kept : (s : State) (x : ℕ) → Kept s (give_up x s)
give_up_kept s x = let p = give_up_passed s s x (record { handles = λ y. refl; marks = λ y. refl; next = refl; unfreed = λ y. omega arith }) in record { marks = p.marks; next = p.next; unfreed = p.unfreed }

-- handles
hold_all_kept : (os : List ℕ) (s : State) → Kept s (hold_all os s)
hold_all_kept [] s = all_kept s
hold_all_kept (o ∷ os) s = let k = hold_all_kept os (hold o s) in record { marks = k.marks; next = k.next; unfreed = k.unfreed }

-- an exchange of what is in a place
exchanged_kept : (o k v : ℕ) (s : State) → Kept s (exchanged o k v s)
exchanged_kept o k v s =
    let x = content s o k in
    let u = with_places o (set (s.places o) k v) s in
    cond_both (loose u x) (with_handles x (u.handles x + 1) u) u (λ t. Kept s t) (λ e. record { marks = λ y. refl; next = refl; unfreed = λ y. omega arith }) (λ e. record { marks = λ y. refl; next = refl; unfreed = λ y. omega arith })

-- a hand back: an object that was dying is still unfreed
back_kept : (l : List ℕ) (s : State) → Kept s (newest_back l s)
back_kept [] s = all_kept s
back_kept (o ∷ below) s = by (s.phase o) refl
  where
    t : State
    t = with_turns (s.turns - 1) s

    ends : (u : State) → u.phase ≡ s.phase → u.interned ≡ s.interned → u.next ≡ s.next → true ≡ is_unfreed (s.phase o) → Kept s (del_ends o below u)
    ends u p m n e =
        cond_both (spent u o) _ _ (Kept s)
        (λ d. record { marks = λ y. rw m refl; next = n; unfreed = λ y. rw p (put_unfreed s.phase o Taking e y) })
        (λ d. record { marks = λ y. rw m refl; next = n; unfreed = λ y. rw p (put_unfreed s.phase o Resting e y) })

    by : (p : Phase) → s.phase o ≡ p → Kept s (handed_back p o below t)
    by Absent ph = record { marks = λ y. refl; next = refl; unfreed = λ y. omega arith }
    by Resting ph = record { marks = λ y. refl; next = refl; unfreed = λ y. omega arith }
    by (DelOpen c) ph = cond_both (loose t o) (less o t) t (λ u. Kept s (del_ends o below u)) (λ e. ends (less o t) refl refl refl (rw ph refl)) (λ e. ends t refl refl refl (rw ph refl))
    by Taking ph = record { marks = λ y. refl; next = refl; unfreed = λ y. omega arith }
    by Draining ph = record { marks = λ y. refl; next = refl; unfreed = λ y. omega arith }
    by (Calling c w) ph = record { marks = λ y. refl; next = refl; unfreed = put_unfreed s.phase o Draining (rw ph refl) }
    by (Freeing k) ph = record { marks = λ y. refl; next = refl; unfreed = λ y. omega arith }
    by Leaving ph = record { marks = λ y. refl; next = refl; unfreed = λ y. omega arith }

-- ---- marks

-- a call gives the mark that is counted, and no other
abbrev pub MarksTold : Call → State → State → Type 0
MarksTold c s t = (y : ℕ) → bit (t.interned y) ≡ interned_by (kind_of c) y + bit (s.interned y)

-- no mark is given
kept_marks : {a b : Bool} → a ≡ b → bit a ≡ 0 + bit b
kept_marks e = omega (arith, ap bit e)

-- a call's own change gives the mark that is counted
own_marks : (c : Call) (s : State) → Granted c s → MarksTold c s (own_change (outcome c s))
unfolding outcome
own_marks (Make class dictionary payload) s g y = kept_marks refl
own_marks (Hold o) s g y = kept_marks refl
own_marks (Drop o lent) s g y = kept_marks ((give_up_kept (handed (Drop o lent) s) o).marks y)
own_marks (Store o slot v) s g y = kept_marks ((exchanged_kept o (slot_place slot) v (handed (Store o slot v) s)).marks y)
own_marks (Swap o edge v) s g y = kept_marks ((exchanged_kept o (edge_place s o edge) v (handed (Swap o edge v) s)).marks y)
own_marks (SetDictionary o dictionary lent) s g y = kept_marks ((give_up_kept (with_places o (set (s.places o) 0 dictionary) (handed (SetDictionary o dictionary lent) s)) (dictionary_of s o)).marks y)
own_marks (Weaken class o callback dictionary) s g y =
    kept_marks (cond_both (reused s class o callback) (Answers (s.cached o) [] (hold (s.cached o) s)) (Answers s.next [] (new_reference class o callback dictionary (handed (Weaken class o callback dictionary) s))) (λ out. (own_change out).interned y ≡ s.interned y) (λ e. refl) (λ e. refl))
own_marks (Upgrade w) s g y =
    let o = (s.shape w).referent in
    kept_marks (cond_both (answering s w) (Answers o [] (hold o s)) (Answers 0 [] s) (λ out. (own_change out).interned y ≡ s.interned y) (λ e. refl) (λ e. refl))
own_marks (ListWeak o lent) s g y = kept_marks ((hold_all_kept (standing s o) s).marks y)
own_marks (Intern o) s g y =
    let e : s.interned o ≡ false = (unmet (own_grounds (Intern o) s) g.own).0 in
    point (λ y. bit ((with_interned o true s).interned y) ≡ bit (eqb o y) + bit (s.interned y)) o (rw (same o, e) refl) (λ y ne. rw (ne_eqb y o ne, ne_eqb o y (λ q. omega arith)) (omega arith)) y
own_marks (Attend host) s g y = kept_marks refl
own_marks (SetDel class del) s g y = kept_marks refl
own_marks (HandBack turn lent) s g y = kept_marks ((back_kept s.stack s).marks y)

-- an accepted call, with the deaths that follow it
pub marks_told : (c : Call) (s : State) → Granted c s → Inv (own_change (outcome c s)) [] → MarksTold c s (after (outcome c s))
marks_told c s g j = follows (outcome c s) j (own_marks c s g)
  where
    follows : (out : Outcome) → Inv (own_change out) [] → MarksTold c s (own_change out) → MarksTold c s (after out)
    follows (Answers number listed t) j h = h
    follows (DeathsFollow left t) j h = λ y. rw ((settled_passed t j).marks y) (h y)

-- ---- births

-- what is known of how often objects were made before
pub record Before (s : State) (before : ℕ → ℕ) : Type 0 where
  pub fresh : (y : ℕ) → 0 < y → s.next ≤ y → before y ≡ 0
  pub made : (y : ℕ) → 0 < y → is_unfreed (s.phase y) ≡ true → 0 < before y
  pub once : (y : ℕ) → 0 < y → before y ≤ 1

-- from s to t objects are made and those of a list freed
pub record Counts (l : List ℕ) (s t : State) (made before : ℕ → ℕ) : Type 0 where
  pub unfreed : (y : ℕ) → 0 < y → count y l + bit (is_unfreed (t.phase y)) ≡ made y + bit (is_unfreed (s.phase y))
  pub fresh : (y : ℕ) → 0 < y → t.next ≤ y → made y + before y ≡ 0
  pub once : (y : ℕ) → 0 < y → made y + before y ≤ 1

-- none is made, and nothing freed
born_none : (s t : State) (before : ℕ → ℕ) → Before s before → t.next ≡ s.next → t.phase ≡ s.phase → Counts [] s t (λ y. 0) before
born_none s t before b n p = record { unfreed = λ y py. rw p refl; fresh = λ y py l. omega (arith, n, b.fresh y py); once = λ y py. omega (arith, b.once y py) }

-- nor where only other things change
kept_counts : (s t : State) (made before : ℕ → ℕ) → Before s before → Kept s t → ((y : ℕ) → 0 < y → made y ≡ 0) → Counts [] s t made before
kept_counts s t made before b k m = record { unfreed = λ y py. omega (arith, k.unfreed y, m y py); fresh = λ y py l. omega (arith, k.next, b.fresh y py, m y py); once = λ y py. omega (arith, m y py, b.once y py) }

-- the next birth is made
born_counts :
    (s t : State) (made before : ℕ → ℕ) → Inv s [] → Before s before → t.next ≡ suc s.next → ((y : ℕ) → is_unfreed (t.phase y) ≡ is_unfreed (put s.phase s.next Resting y))
    → made s.next ≡ 1 → ((y : ℕ) → (y ≡ s.next → ⊥) → made y ≡ 0) → Counts [] s t made before
born_counts s t made before i b n ph one others = record {
  unfreed =
      point (λ y. 0 < y → 0 + bit (is_unfreed (t.phase y)) ≡ made y + bit (is_unfreed (s.phase y))) s.next
      (λ py. rw (ph s.next, same s.next, one, i.frame.fresh s.next (inr (omega arith))) refl)
      (λ y ne py. rw (ph y, ne_eqb y s.next ne, others y ne) refl);
  fresh = λ y py l. omega (arith, b.fresh y py, others y (λ q. omega arith));
  once = point (λ y. 0 < y → made y + before y ≤ 1) s.next (λ py. omega (arith, one, b.fresh s.next py)) (λ y ne py. omega (arith, others y ne, b.once y py));
}

-- how often an accepted call makes an object, as its reply tells
abbrev pub made_of : Call → Reply → (ℕ → ℕ) → ℕ → ℕ
made_of c r before y = made_by (kind_of c) r.number y (before y)

-- the first that is equal
named_once : (x y n : ℕ) → (x ≡ y → n ≡ 0 → ⊥) → bit (eqb x y && eqb n 0) ≡ 0
named_once x y n never = go (cases_eq x y)
  where
    go : (x ≡ y) ⊎ (x ≡ y → ⊥) → bit (eqb x y && eqb n 0) ≡ 0
    go (inl q) = rw (eq-eqb x y q, ne_eqb n 0 (never q)) refl
    go (inr ne) = rw (ne_eqb x y ne) refl

-- a call's own change makes what its reply tells
own_counts : (c : Call) (s : State) (before : ℕ → ℕ) → Inv s [] → Before s before → Granted c s → Counts [] s (own_change (outcome c s)) (made_of c (replied (outcome c s)) before) before
unfolding outcome
own_counts (Make class dictionary payload) s before i b g = born_counts s _ _ before i b refl (λ y. refl) (rw (same s.next) refl) (λ y ne. rw (ne_eqb s.next y (λ q. omega arith)) refl)
own_counts (Hold o) s before i b g = kept_counts s (hold o s) _ before b (record { marks = λ y. refl; next = refl; unfreed = λ y. omega arith }) (λ y py. refl)
own_counts (Drop o lent) s before i b g = let k = give_up_kept (handed (Drop o lent) s) o in kept_counts s _ _ before b (record { marks = k.marks; next = k.next; unfreed = k.unfreed }) (λ y py. refl)
own_counts (Store o slot v) s before i b g = let k = exchanged_kept o (slot_place slot) v (handed (Store o slot v) s) in kept_counts s _ _ before b (record { marks = k.marks; next = k.next; unfreed = k.unfreed }) (λ y py. refl)
own_counts (Swap o edge v) s before i b g = let k = exchanged_kept o (edge_place s o edge) v (handed (Swap o edge v) s) in kept_counts s _ _ before b (record { marks = k.marks; next = k.next; unfreed = k.unfreed }) (λ y py. refl)
own_counts (SetDictionary o dictionary lent) s before i b g =
    let k = give_up_kept (with_places o (set (s.places o) 0 dictionary) (handed (SetDictionary o dictionary lent) s)) (dictionary_of s o) in
    kept_counts s _ _ before b (record { marks = k.marks; next = k.next; unfreed = k.unfreed }) (λ y py. refl)
own_counts (Weaken class o callback dictionary) s before i b g =
    let c = Weaken class o callback dictionary in
    let again : Outcome = Answers (s.cached o) [] (hold (s.cached o) s) in
    let new : Outcome = Answers s.next [] (new_reference class o callback dictionary (handed c s)) in
    cond_both (reused s class o callback) again new (λ out. Counts [] s (own_change out) (made_of c (replied out) before) before)
    (λ e.
    kept_counts s (hold (s.cached o) s) _ before b (record { marks = λ y. refl; next = refl; unfreed = λ y. omega arith })
    (λ y py. named_once (s.cached o) y (before y) (λ q z. let h : is_unfreed (s.phase y) ≡ true = live_unfreed (s.phase y) (subst (λ (x : ℕ). is_live (s.phase x) ≡ true) q (reused_live class o callback s i e)) in omega (arith, b.made y py h))))
    (λ e. born_counts s _ _ before i b refl (λ y. refl) (rw (same s.next, b.fresh s.next i.frame.first (omega arith)) refl) (λ y ne. rw (ne_eqb s.next y (λ q. omega arith)) refl))
  where
    live_unfreed : (p : Phase) → is_live p ≡ true → is_unfreed p ≡ true
    live_unfreed Absent e = e
    live_unfreed Resting e = refl
    live_unfreed (DelOpen d) e = refl
    live_unfreed Taking e = refl
    live_unfreed Draining e = refl
    live_unfreed (Calling d w) e = refl
    live_unfreed (Freeing k) e = refl
    live_unfreed Leaving e = refl
own_counts (Upgrade w) s before i b g =
    let o = (s.shape w).referent in
    cond_both (answering s w) (Answers o [] (hold o s)) (Answers 0 [] s) (λ out. Counts [] s (own_change out) (made_of (Upgrade w) (replied out) before) before)
    (λ e. kept_counts s (hold o s) _ before b (record { marks = λ y. refl; next = refl; unfreed = λ y. omega arith }) (λ y py. refl))
    (λ e. kept_counts s s _ before b (all_kept s) (λ y py. refl))
own_counts (ListWeak o lent) s before i b g = kept_counts s _ _ before b (hold_all_kept (standing s o) s) (λ y py. refl)
own_counts (Intern o) s before i b g = born_none s (with_interned o true s) before b refl refl
own_counts (Attend host) s before i b g = born_none s (with_attends host s) before b refl refl
own_counts (SetDel class del) s before i b g = born_none s (with_classes (after_set_del s.classes class del) s) before b refl refl
own_counts (HandBack turn lent) s before i b g = kept_counts s _ _ before b (back_kept s.stack s) (λ y py. refl)

-- an accepted call, with the deaths that follow it
pub counts_told :
    (c : Call) (s : State) (before : ℕ → ℕ) → Inv s [] → Before s before → Granted c s → Inv (own_change (outcome c s)) []
    → Counts (replied (outcome c s)).freed s (after (outcome c s)) (made_of c (replied (outcome c s)) before) before
counts_told c s before i b g j = follows (outcome c s) j (own_counts c s before i b g)
  where
    follows : (out : Outcome) → Inv (own_change out) [] → Counts [] s (own_change out) (made_of c (replied out) before) before → Counts (replied out).freed s (after out) (made_of c (replied out) before) before
    follows (Answers number listed t) j h = h
    follows (DeathsFollow left t) j h =
        let p = settled_passed t j in
        record { unfreed = λ y py. omega (arith, p.unfreed y, h.unfreed y py); fresh = λ y py l. h.fresh y py (omega (arith, p.next)); once = h.once }
