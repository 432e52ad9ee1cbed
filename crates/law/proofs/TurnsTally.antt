-- The turns that are open are those shown without those handed back.
use Rattle.std.proofs.Common.{◌≡◌, ℕ, zero, suc, ◌+◌, ◌-◌, ◌<◌, true, not, ◌&&◌, eqb, ◌⊎◌, List, [], ◌∷◌, get_or, set, sym, refl, ap, subst, inl, inr, arith}
use Rattle.std.proofs.lemmas.Bool.{eqb-true, eqb-false, lt-ltb, le-ltb, or_parts, not-false, cond_both}
use Rattle.definition.specs.Base.{bit, count}
use Rattle.definition.specs.State.{Phase, Absent, Resting, DelOpen, Taking, Draining, Calling, Freeing, Leaving, State, is_open}
use Rattle.definition.specs.Changes.{with_phase, with_places, with_callback, with_giving, with_handles, with_turns}
use Rattle.definition.specs.Death.{loose, less, spent, give_up, unlisted, advance, rests, settle, settled, work}
use Rattle.definition.specs.Calls.{Call, Make, Hold, Drop, Store, Swap, SetDictionary, Weaken, Upgrade, ListWeak, Intern, Attend, SetDel, HandBack, Outcome, Answers, DeathsFollow, content, slot_place, edge_place, dictionary_of, standing, reused, answering, own_grounds, handed, hold, hold_all, exchanged, new_reference, del_ends, handed_back, newest_back, newest_turn, turn_since, outcome, after, replied}
use Rattle.definition.proofs.Sums.{same, sum_has}
use Rattle.definition.proofs.Advance.{give_up_cases, advance_cases}
use Rattle.definition.proofs.Settles.{rests_stays}
use Rattle.law.specs.Tallies.{kind_of, handed_back_by, shown_by}
use Rattle.law.proofs.Invariant.{Good, open_sum, Inv}
use Rattle.law.proofs.Granted.{Granted}
use Rattle.law.proofs.Makes.{unmet}

-- as many turns are open as were left, or one more, which the newest death waits in
abbrev pub OneTurn : ℕ → State → Type 0
OneTurn left t = (t.turns ≡ left) ⊎ ((t.turns ≡ suc left) × (rests t ≡ true) × (shown_by (newest_turn t.stack t) ≡ 1))

-- ---- deaths open at most one turn

-- by giving up a reference
give_up_turn : (left : ℕ) (s : State) (x : ℕ) → s.turns ≡ left → OneTurn left (give_up x s)
give_up_turn left s x e = give_up_cases s x (OneTurn left) (λ lo. inl e) (λ lo d. inl e) (λ lo ph d. (λ a. inr (ap suc e, rw (same x) refl, rw (same x) refl), λ a. inl e))

-- a step
advance_turn : (left : ℕ) (s : State) → s.turns ≡ left → OneTurn left (advance s)
advance_turn left s e = advance_cases s (OneTurn left) (record {
  idle = λ r. inl e;
  gives = λ o below top x xs gv. give_up_turn left (with_giving o xs s) x e;
  takes = λ o below top gv r w rest wk h. cond_both (spent s w) _ _ (OneTurn left) (λ d. inl e) (λ d. inl e);
  completes = λ o below top gv ph w ws hd. inl e;
  clears = λ o below top gv r hd wk. inl e;
  drains = λ o below top gv ph w ws hd.
      cond_both (s.attends && not (eqb (s.callback w) 0)) _ _ (OneTurn left) (λ d. inr (ap suc e, rw (top.stack, same o) refl, rw (top.stack, same o) refl)) (λ d. inl e);
  empties = λ o below top gv k ph h. give_up_turn left (with_phase o (Freeing (suc k)) (with_places o (set (s.places o) k 0) s)) (get_or (s.places o) k 0) e;
  leaves = λ o below top gv k ph h. give_up_turn left (with_phase o Leaving (with_callback o 0 (unlisted o s))) (s.callback o) e;
  frees = λ o below top gv ph. inl e;
})

-- once a turn is open, no step follows
next_turn : (left : ℕ) (s : State) → OneTurn left s → OneTurn left (advance s)
next_turn left s (inl e) = advance_turn left s e
next_turn left s (inr q) = subst (OneTurn left) (sym (rests_stays s q.1)) (inr q)

-- all steps
settle_turn : (left n : ℕ) (s : State) → OneTurn left s → OneTurn left (settle n s)
unfolding settle
settle_turn left zero s t = t
settle_turn left (suc n) s t = settle_turn left n (advance s) (next_turn left s t)

-- until no work is left
settled_turn : (left : ℕ) (s : State) → OneTurn left s → OneTurn left (settled s)
unfolding settled
settled_turn left s t = settle_turn left (work s) s t

-- the turn more is the one that the reply shows
shown_turn : (left : ℕ) (s : State) → OneTurn left s → s.turns ≡ shown_by (turn_since left s) + left
shown_turn left s (inl e) = rw (le-ltb left s.turns (omega arith)) (omega arith)
shown_turn left s (inr q) = rw (lt-ltb left s.turns (omega arith), q.2) (omega arith)

-- ---- a hand back

-- while a turn is open, something is dying
turn_stacked : (s : State) → Inv s [] → 0 < s.turns → s.stack ≡ [] → ⊥
unfolding open_sum
turn_stacked s i some e =
    let h = sum_has s.next (λ p. bit (is_open (s.phase p))) (omega (arith, i.frame.turns)) in
    let x = h.0 in
    let g : Good (s.phase x) (s.strong x) (bit (s.interned x)) (s.handles x) _ _ 0 _ _ _ (count x s.stack) = i.good x (birth x h.2) in
    let z : 0 < count x s.stack = open_on g h.2 in
    absurd (omega (arith, ap (count x) e))
  where
    open_on : {p : Phase} {s m h q l w e r g k : ℕ} → Good p s m h q l w e r g k → 0 < bit (is_open p) → 0 < k
    open_on {p = Absent} i z = absurd (omega arith)
    open_on {p = Resting} i z = absurd (omega arith)
    open_on {p = (DelOpen d)} i z = omega arith
    open_on {p = Taking} i z = absurd (omega arith)
    open_on {p = Draining} i z = absurd (omega arith)
    open_on {p = (Calling d x)} i z = omega arith
    open_on {p = (Freeing n)} i z = absurd (omega arith)
    open_on {p = Leaving} i z = absurd (omega arith)

    birth : (x : ℕ) → 0 < bit (is_open (s.phase x)) → 0 < x
    birth zero z = absurd (omega (arith, ap (λ (p : Phase). bit (is_open p)) (i.frame.fresh 0 (inl refl))))
    birth (suc x) z = omega arith

-- it takes one off
back_turns : (l : List ℕ) (s : State) → (l ≡ [] → ⊥) → (newest_back l s).turns ≡ s.turns - 1
back_turns [] s ne = absurd (ne refl)
back_turns (o ∷ below) s ne = by (s.phase o)
  where
    t : State
    t = with_turns (s.turns - 1) s

    by : (p : Phase) → (handed_back p o below t).turns ≡ s.turns - 1
    by Absent = refl
    by Resting = refl
    by (DelOpen c) = cond_both (loose t o) (less o t) t (λ u. (del_ends o below u).turns ≡ s.turns - 1) (λ e. cond_both (spent (less o t) o) _ _ (λ (u : State). u.turns ≡ s.turns - 1) (λ d. refl) (λ d. refl)) (λ e. cond_both (spent t o) _ _ (λ (u : State). u.turns ≡ s.turns - 1) (λ d. refl) (λ d. refl))
    by Taking = refl
    by Draining = refl
    by (Calling c w) = refl
    by (Freeing k) = refl
    by Leaving = refl

-- an accepted one is of an open turn
back_open : (turn lent : ℕ) (s : State) → Granted (HandBack turn lent) s → 0 < s.turns
back_open turn lent s g =
    let own = unmet (own_grounds (HandBack turn lent) s) g.own in
    let q = or_parts (eqb turn 0) (not (eqb turn s.turns)) own.0 in
    let a = eqb-false turn 0 q.0 in
    let b = eqb-true turn s.turns (not-false (eqb turn s.turns) q.1) in
    omega arith

-- ---- each call

-- what a call does to the number of open turns is what its reply tells
abbrev pub TurnsTold : Call → State → Outcome → Type 0
TurnsTold c s out = (after out).turns + handed_back_by (kind_of c) ≡ shown_by (replied out).turn + s.turns

-- what a call's own change does to it
abbrev pub OwnTurns : Call → State → Outcome → Type 0
OwnTurns c s (Answers number listed t) = t.turns + handed_back_by (kind_of c) ≡ s.turns
OwnTurns c s (DeathsFollow left t) = OneTurn left t × (left + handed_back_by (kind_of c) ≡ s.turns)

-- handles open no turn
hold_all_turns : (os : List ℕ) (s : State) → (hold_all os s).turns ≡ s.turns
hold_all_turns [] s = refl
hold_all_turns (o ∷ os) s = hold_all_turns os (hold o s)

-- nor does an exchange
exchanged_turns : (o k v : ℕ) (s : State) → (exchanged o k v s).turns ≡ s.turns
exchanged_turns o k v s =
    let x = content s o k in
    let u = with_places o (set (s.places o) k v) s in
    cond_both (loose u x) (with_handles x (u.handles x + 1) u) u (λ t. t.turns ≡ s.turns) (λ e. refl) (λ e. refl)

-- a call's own change: as many turns as its outcome says are left, or one more
own_turns : (c : Call) (s : State) → Inv s [] → Granted c s → OwnTurns c s (outcome c s)
unfolding outcome
own_turns (Make class dictionary payload) s i g = omega arith
own_turns (Hold o) s i g = omega arith
own_turns (Drop o lent) s i g = (give_up_turn s.turns (handed (Drop o lent) s) o refl, omega arith)
own_turns (Store o slot v) s i g = omega (arith, exchanged_turns o (slot_place slot) v (handed (Store o slot v) s))
own_turns (Swap o edge v) s i g = omega (arith, exchanged_turns o (edge_place s o edge) v (handed (Swap o edge v) s))
own_turns (SetDictionary o dictionary lent) s i g = (give_up_turn s.turns (with_places o (set (s.places o) 0 dictionary) (handed (SetDictionary o dictionary lent) s)) (dictionary_of s o) refl, omega arith)
own_turns (Weaken class o callback dictionary) s i g =
    let c = Weaken class o callback dictionary in
    cond_both (reused s class o callback) (Answers (s.cached o) [] (hold (s.cached o) s)) (Answers s.next [] (new_reference class o callback dictionary (handed c s))) (OwnTurns c s) (λ e. omega arith) (λ e. omega arith)
own_turns (Upgrade w) s i g = let o = (s.shape w).referent in cond_both (answering s w) (Answers o [] (hold o s)) (Answers 0 [] s) (OwnTurns (Upgrade w) s) (λ e. omega arith) (λ e. omega arith)
own_turns (ListWeak o lent) s i g = omega (arith, hold_all_turns (standing s o) s)
own_turns (Intern o) s i g = omega arith
own_turns (Attend host) s i g = omega arith
own_turns (SetDel class del) s i g = omega arith
own_turns (HandBack turn lent) s i g = let p = back_open turn lent s g in (inl (back_turns s.stack s (turn_stacked s i p)), omega arith)

-- an accepted call, with the deaths that follow it
pub turns_told : (c : Call) (s : State) → Inv s [] → Granted c s → TurnsTold c s (outcome c s)
turns_told c s i g = follows (outcome c s) (own_turns c s i g)
  where
    follows : (out : Outcome) → OwnTurns c s out → TurnsTold c s out
    follows (Answers number listed t) h = omega (arith, h)
    follows (DeathsFollow left t) h = omega (arith, h.1, shown_turn left (settled t) (settled_turn left t h.0))
