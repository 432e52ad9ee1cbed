-- The handles that the host has are those given to it without those taken over.
use Rattle.std.proofs.Common.{◌≡◌, ℕ, zero, suc, ◌+◌, ◌-◌, ◌<◌, ◌≤◌, false, ◌⊎◌, List, [], ◌∷◌, length, get_or, set, refl, inl, inr, arith}
use Rattle.std.proofs.lemmas.Bool.{ne_eqb, cases_eq, cases_lt, cond_both, ltb-false}
use Rattle.definition.specs.Base.{put, count}
use Rattle.definition.specs.State.{Phase, Absent, Resting, DelOpen, Taking, Draining, Calling, Freeing, Leaving, State}
use Rattle.definition.specs.Changes.{with_places, with_handles, with_turns}
use Rattle.definition.specs.Death.{loose, less, spent}
use Rattle.definition.specs.Calls.{Call, Make, Hold, Drop, Store, Swap, SetDictionary, Weaken, Upgrade, ListWeak, Intern, Attend, SetDel, HandBack, Reply, Outcome, Answers, DeathsFollow, arguments, content, slot_place, edge_place, dictionary_of, standing, reused, answering, handed, hold, hold_all, exchanged, new_reference, del_ends, handed_back, newest_back, outcome, after, replied}
use Rattle.definition.proofs.Sums.{same, point, term_le_sum, count_cons, count_here, count_other, count_length}
use Rattle.law.specs.Run.{own_change}
use Rattle.law.specs.Tallies.{handles_by}
use Rattle.law.proofs.Invariant.{placed_by, placed, Inv}
use Rattle.law.proofs.Granted.{Granted, handed_names, handed_stores, taken_counts, taken_all_less}
use Rattle.law.proofs.Makes.{reused_bare}
use Rattle.law.proofs.Passing.{give_up_passed, settled_passed}

-- what a call does to the handles of y is what its reply tells
abbrev pub HandlesTold : Call → Reply → State → State → Type 0
HandlesTold c r s t = (y : ℕ) → 0 < y → t.handles y + count y (handles_by c r).taken ≡ s.handles y + count y (handles_by c r).given

-- ---- places

-- what a place of a list names stands in the list
pub content_counted : (l : List ℕ) (k : ℕ) → 0 < get_or l k 0 → 0 < count (get_or l k 0) l
content_counted [] k h = absurd (omega arith)
content_counted (x ∷ xs) zero h = count_here x xs
content_counted (x ∷ xs) (suc k) h = omega (arith, count_cons (get_or xs k 0) x xs, content_counted xs k h)

-- places that name somebody are those of somebody
placed_below : (s : State) (owed : List ℕ) → Inv s owed → (o x : ℕ) → 0 < count x (s.places o) → o < s.next
placed_below s owed i o x c = go (cases_lt o s.next)
  where
    go : (o < s.next) ⊎ (s.next ≤ o) → o < s.next
    go (inl h) = h
    go (inr h) =
        let e : length (s.places o) + s.callback o ≡ 0 = rw (i.frame.fresh o (inr h)) at (i.good o (omega (arith, i.frame.first))).gone in
        absurd (omega (arith, count_length x (s.places o)))

-- and what they name has a reference besides the handles
placed_loose : (s : State) → Inv s [] → (o x : ℕ) → 0 < x → 0 < count x (s.places o) → s.handles x < s.strong x
unfolding placed
placed_loose s i o x px c = omega (arith, (i.good x px).counted, term_le_sum s.next o (placed_by s x) (placed_below s [] i o x c))

-- ---- each call's own change

-- a handle more
hold_handles : (o : ℕ) (s : State) (y : ℕ) → (hold o s).handles y ≡ s.handles y + count y (o ∷ [])
hold_handles o s = point (λ y. (hold o s).handles y ≡ s.handles y + count y (o ∷ [])) o (rw (same o) refl) (λ y ne. rw (ne_eqb y o ne) (omega arith))

-- one more for each of a list
hold_all_handles : (os : List ℕ) (s : State) (y : ℕ) → (hold_all os s).handles y ≡ s.handles y + count y os
hold_all_handles [] s y = omega arith
hold_all_handles (o ∷ os) s y = omega (arith, hold_all_handles os (hold o s) y, hold_handles o s y, count_cons y o os)

-- the next birth has no handle
next_bare : (s : State) → Inv s [] → s.handles s.next ≡ 0
next_bare s i = let q = rw (i.frame.fresh s.next (inr (omega arith))) at (i.good s.next i.frame.first) in omega (arith, q)

-- a hand back changes no handle
back_handles : (l : List ℕ) (s : State) (y : ℕ) → (newest_back l s).handles y ≡ s.handles y
back_handles [] s y = refl
back_handles (o ∷ below) s y = by (s.phase o)
  where
    t : State
    t = with_turns (s.turns - 1) s

    by : (p : Phase) → (handed_back p o below t).handles y ≡ s.handles y
    by Absent = refl
    by Resting = refl
    by (DelOpen c) = cond_both (loose t o) (less o t) t (λ u. (del_ends o below u).handles y ≡ s.handles y) (λ e. cond_both (spent (less o t) o) _ _ (λ (u : State). u.handles y ≡ s.handles y) (λ d. refl) (λ d. refl)) (λ e. cond_both (spent t o) _ _ (λ (u : State). u.handles y ≡ s.handles y) (λ d. refl) (λ d. refl))
    by Taking = refl
    by Draining = refl
    by (Calling c w) = refl
    by (Freeing k) = refl
    by Leaving = refl

module _ (c : Call) (s : State) (i : Inv s []) (g : Granted c s) where
  -- handles that a call takes over
  handed_told : (y : ℕ) → 0 < y → (handed c s).handles y + count y (handed_names (arguments c)) ≡ s.handles y
  handed_told y py = taken_counts (arguments c) s.handles g.owned y py

  -- what was in the place becomes the host's
  exchanged_told : (o k v : ℕ) (y : ℕ) → 0 < y → (exchanged o k v (handed c s)).handles y + count y (handed_names (arguments c)) ≡ s.handles y + count y (content s o k ∷ [])
  exchanged_told o k v y py =
      let x = content s o k in
      let u = with_places o (set (s.places o) k v) (handed c s) in
      cond_both (loose u x) (with_handles x (u.handles x + 1) u) u (λ t. t.handles y + count y (handed_names (arguments c)) ≡ s.handles y + count y (x ∷ []))
      (λ e.
      point (λ y. 0 < y → (with_handles x (u.handles x + 1) u).handles y + count y (handed_names (arguments c)) ≡ s.handles y + count y (x ∷ [])) x
      (λ px. rw (same x) (omega (arith, handed_told x px)))
      (λ y ne py. rw (ne_eqb y x ne) (omega (arith, handed_told y py)))
      y py)
      (λ e. nobody e (cases_eq x 0))
    where
      nobody : loose (with_places o (set (s.places o) k v) (handed c s)) (content s o k) ≡ false → (content s o k ≡ 0) ⊎ (content s o k ≡ 0 → ⊥) → (handed c s).handles y + count y (handed_names (arguments c)) ≡ s.handles y + count y (content s o k ∷ [])
      nobody e (inl z) = rw z (omega (arith, handed_told y py, count_other y 0 (λ q. omega arith)))
      nobody e (inr ne) =
          let x = content s o k in
          let px : 0 < x = omega arith in
          absurd (omega (arith, ltb-false ((handed c s).handles x) (s.strong x) e, taken_all_less (arguments c) s.handles x, placed_loose s i o x px (content_counted (s.places o) k px)))

  -- the next birth gets one
  born_told : (t : State) → ((y : ℕ) → t.handles y ≡ put (handed c s).handles s.next 1 y) → (y : ℕ) → 0 < y → t.handles y + count y (handed_names (arguments c)) ≡ s.handles y + count y (s.next ∷ [])
  born_told t e =
      point (λ y. 0 < y → t.handles y + count y (handed_names (arguments c)) ≡ s.handles y + count y (s.next ∷ [])) s.next
      (λ py. rw (e s.next, same s.next) (omega (arith, handed_told s.next py, next_bare s i)))
      (λ y ne py. rw (e y, ne_eqb y s.next ne) (omega (arith, handed_told y py)))

-- a call's own change does to the handles what its reply tells
own_told : (c : Call) (s : State) → Inv s [] → Granted c s → HandlesTold c (replied (outcome c s)) s (own_change (outcome c s))
unfolding outcome
own_told (Make class dictionary payload) s i g y py =
    let h = born_told (Make class dictionary payload) s i g (own_change (outcome (Make class dictionary payload) s)) (λ y. refl) y py in
    rw (handed_stores payload.edges) at h
own_told (Hold o) s i g y py = omega (arith, hold_handles o s y)
own_told (Drop o lent) s i g y py =
    let t = handed (Drop o lent) s in
    let p = give_up_passed t t o (record { handles = λ y. refl; marks = λ y. refl; next = refl; unfreed = λ y. omega arith }) in
    omega (arith, p.handles y, handed_told (Drop o lent) s i g y py)
own_told (Store o slot v) s i g y py = exchanged_told (Store o slot v) s i g o (slot_place slot) v y py
own_told (Swap o edge v) s i g y py = exchanged_told (Swap o edge v) s i g o (edge_place s o edge) v y py
own_told (SetDictionary o dictionary lent) s i g y py =
    let t = handed (SetDictionary o dictionary lent) s in
    let u = with_places o (set (s.places o) 0 dictionary) t in
    let p = give_up_passed u u (dictionary_of s o) (record { handles = λ y. refl; marks = λ y. refl; next = refl; unfreed = λ y. omega arith }) in
    omega (arith, p.handles y, handed_told (SetDictionary o dictionary lent) s i g y py)
own_told (Weaken class o callback dictionary) s i g y py =
    let c = Weaken class o callback dictionary in
    cond_both (reused s class o callback) (Answers (s.cached o) [] (hold (s.cached o) s)) (Answers s.next [] (new_reference class o callback dictionary (handed c s))) (λ out. (own_change out).handles y + count y (callback ∷ dictionary ∷ []) ≡ s.handles y + count y ((replied out).number ∷ []))
    (λ e.
    let b = reused_bare class o callback dictionary s i g e in
    rw (b.0, b.1, ne_eqb y 0 (λ q. omega arith)) (omega (arith, hold_handles (s.cached o) s y)))
    (λ e. born_told c s i g (new_reference class o callback dictionary (handed c s)) (λ y. refl) y py)
own_told (Upgrade w) s i g y py =
    let o = (s.shape w).referent in
    cond_both (answering s w) (Answers o [] (hold o s)) (Answers 0 [] s) (λ out. (own_change out).handles y + 0 ≡ s.handles y + count y ((replied out).number ∷ []))
    (λ e. omega (arith, hold_handles o s y))
    (λ e. omega (arith, count_other y 0 (λ q. omega arith)))
own_told (ListWeak o lent) s i g y py = omega (arith, hold_all_handles (standing s o) s y)
own_told (Intern o) s i g y py = omega arith
own_told (Attend host) s i g y py = omega arith
own_told (SetDel class del) s i g y py = omega arith
own_told (HandBack turn lent) s i g y py = omega (arith, back_handles s.stack s y)

-- and so does an accepted call, with the deaths that follow it
pub handles_told : (c : Call) (s : State) → Inv s [] → Granted c s → Inv (own_change (outcome c s)) [] → HandlesTold c (replied (outcome c s)) s (after (outcome c s))
handles_told c s i g j = follows (outcome c s) j (own_told c s i g)
  where
    follows : (out : Outcome) → Inv (own_change out) [] → HandlesTold c (replied out) s (own_change out) → HandlesTold c (replied out) s (after out)
    follows (Answers number listed t) j h = h
    follows (DeathsFollow left t) j h = λ y py. rw ((settled_passed t j).handles y) (h y py)
