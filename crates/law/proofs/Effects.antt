-- What an accepted call changes keeps the invariant, where no place changes.
use Rattle.std.proofs.Common.{◌≡◌, ℕ, zero, suc, ◌+◌, ◌<◌, ◌≤◌, Bool, true, false, cond, not, ◌&&◌, eqb, ltb, ◌⊎◌, List, [], ◌∷◌, length, get_or, set, refl, ap, inl, inr, arith}
use Rattle.std.proofs.lemmas.Bool.{ne_eqb, cases_eq, cond_both, and_parts, or_parts, not-true, leb-false}
use Rattle.refusal.specs.declared.Refusal.TheVariants.{CountFull, NotWeak, ListShort}
use Rattle.classes.specs.Rows.{Class, no_class, class_at, known, with_flag, with_del, after_set_del}
use Rattle.definition.specs.Base.{bit, those}
use Rattle.definition.specs.State.{Phase, Absent, Resting, DelOpen, Taking, Draining, Calling, Freeing, Leaving, State, is_live}
use Rattle.definition.specs.Death.{spent}
use Rattle.definition.specs.Refusals.{at_argument, at_none, count_full}
use Rattle.definition.specs.Calls.{Hold, Drop, Upgrade, ListWeak, Intern, Attend, SetDel, hold, hold_all, answering, standing, any_full, Answers, outcome}
use Rattle.definition.proofs.Sums.{same, point}
use Rattle.law.specs.Run.{own_change}
use Rattle.law.proofs.Invariant.{Falling, Good, placed, lent, GoodAt, Inv, between, live_born, live_counted, give_up_inv, not_spent}
use Rattle.law.proofs.Steps.{falling_more}
use Rattle.law.proofs.Granted.{Granted, own_first, own_rest, names_live}
use Rattle.law.proofs.Handed.{handed_inv}

-- ---- calls that change no count

-- a host attends, or no longer
pub attend_effect : (host : Bool) (s : State) → Inv s [] → Granted (Attend host) s → Inv (own_change (outcome (Attend host) s)) []
unfolding outcome placed lent
attend_effect host s i g = record { good = i.good; zeroth = i.zeroth; lists = i.lists; frame = i.frame }

-- ---- marks

-- a live object gets a mark
marked : {p : Phase} {s m h q l w e r g k : ℕ} (m' : ℕ) → Good p s m h q l w e r g k → is_live p ≡ true → 0 < m' → Good p s m' h q l w e r g k
marked {p = Absent} m' i l z = let y : ◌≡◌ {A = ℕ} 0 1 = cc in absurd (omega arith)
marked {p = Resting} m' i l z = omega arith
marked {p = (DelOpen c)} m' i l z = omega arith
marked {p = Taking} m' i l z = let y : ◌≡◌ {A = ℕ} 0 1 = cc in absurd (omega arith)
marked {p = Draining} m' i l z = let y : ◌≡◌ {A = ℕ} 0 1 = cc in absurd (omega arith)
marked {p = (Calling c x)} m' i l z = let y : ◌≡◌ {A = ℕ} 0 1 = cc in absurd (omega arith)
marked {p = (Freeing n)} m' i l z = let y : ◌≡◌ {A = ℕ} 0 1 = cc in absurd (omega arith)
marked {p = Leaving} m' i l z = let y : ◌≡◌ {A = ℕ} 0 1 = cc in absurd (omega arith)

-- an object gets its mark
pub intern_effect : (o : ℕ) (s : State) → Inv s [] → Granted (Intern o) s → Inv (own_change (outcome (Intern o) s)) []
unfolding outcome placed lent
intern_effect o s i g =
    let l = names_live s o g.named.0 g.living.0 in
    let po = (between s [] i o (live_born (s.phase o) l)).0 in
    record {
      good = point (λ y. 0 < y → GoodAt (own_change (outcome (Intern o) s)) [] y) o (λ py. rw (same o) (marked 1 (i.good o py) l (omega arith))) (λ y ne py. rw (ne_eqb y o ne) (i.good y py));
      zeroth = rw (ne_eqb 0 o (λ q. omega arith)) i.zeroth;
      lists = i.lists;
      frame = i.frame;
    }

-- ---- a handle is given up

-- the host gives up a handle
pub drop_effect : (o lent : ℕ) (s : State) → Inv s [] → Granted (Drop o lent) s → Inv (own_change (outcome (Drop o lent) s)) []
unfolding outcome
drop_effect o lent s i g = give_up_inv _ [] o (handed_inv (Drop o lent) s i g.owned)

-- ---- rows

-- set del changes nothing else of a row
flag_only : (rows : List Class) (c d : ℕ) (b : Bool) → (class_at (after_set_del rows c b) d).dictionary ≡ (class_at rows d).dictionary
flag_only rows c d b =
    cond_both (known rows c && not (class_at rows c).immutable) (with_del rows c b) rows (λ r. (class_at r d).dictionary ≡ (class_at rows d).dictionary) (λ e. by c d) (λ e. refl)
  where
    at : (rows : List Class) (i j : ℕ) → (get_or (set rows i (with_flag (get_or rows i no_class) b)) j no_class).dictionary ≡ (get_or rows j no_class).dictionary
    at [] i j = refl
    at (k ∷ ks) zero zero = refl
    at (k ∷ ks) zero (suc j) = refl
    at (k ∷ ks) (suc i) zero = refl
    at (k ∷ ks) (suc i) (suc j) = at ks i j

    by : (c d : ℕ) → (class_at (with_del rows c b) d).dictionary ≡ (class_at rows d).dictionary
    by zero d = refl
    by (suc i) zero = refl
    by (suc i) (suc j) = at rows i j

-- a class gets a del, or loses it
pub set_del_effect : (class : ℕ) (del : Bool) (s : State) → Inv s [] → Granted (SetDel class del) s → Inv (own_change (outcome (SetDel class del) s)) []
unfolding outcome placed lent
set_del_effect class del s i g =
    let f = i.frame in
    record {
      good = i.good;
      zeroth = i.zeroth;
      lists = i.lists;
      frame = record { first = f.first; fresh = f.fresh; unfreed = f.unfreed; turns = f.turns; room = f.room; small = f.small; plain = rw (flag_only s.classes class 1 del) f.plain };
    }

-- ---- handles

-- one handle more, which is a reference more
held_more : {p : Phase} {s m h q l w e r g k : ℕ} → Good p s m h q l w e r g k → 0 < s + m → s < 65535 → Good p (s + 1) m (h + 1) q l w e r g k
held_more {p = Absent} i z y = absurd (omega arith)
held_more {p = Resting} i z y = omega arith
held_more {p = (DelOpen c)} i z y = omega arith
held_more {p = Taking} i z y = absurd (omega arith)
held_more {p = Draining} i z y = absurd (omega arith)
held_more {p = (Calling c x)} i z y = absurd (omega arith)
held_more {p = (Freeing n)} i z y = absurd (omega arith)
held_more {p = Leaving} i z y = absurd (omega arith)

-- what is counted or marked is a name
pub counted_name : (s : State) (owed : List ℕ) → Inv s owed → (o : ℕ) → 0 < s.strong o + bit (s.interned o) → 0 < o
counted_name s owed i o c = go (cases_eq o 0)
  where
    go : (o ≡ 0) ⊎ (o ≡ 0 → ⊥) → 0 < o
    go (inl q) = absurd (omega (arith, i.zeroth, ap s.strong q, ap (λ (n : ℕ). bit (s.interned n)) q))
    go (inr ne) = omega arith

-- the host gets a handle of an object that is counted or marked
pub hold_inv : (s : State) (owed : List ℕ) → Inv s owed → (o : ℕ) → 0 < s.strong o + bit (s.interned o) → s.strong o < 65535 → Inv (hold o s) owed
unfolding placed lent
hold_inv s owed i o c n =
    let po = counted_name s owed i o c in
    record {
      good = point (λ y. 0 < y → GoodAt (hold o s) owed y) o (λ py. rw (same o) (held_more (i.good o py) c n)) (λ y ne py. rw (ne_eqb y o ne) (i.good y py));
      zeroth = rw (ne_eqb 0 o (λ q. omega arith)) i.zeroth;
      lists = i.lists;
      frame = i.frame;
    }

-- the count is below the limit of holds
not_full : (s : State) (o : ℕ) → count_full s o ≡ false → s.strong o < 65535
not_full s o e = omega (arith, leb-false 65535 (s.strong o) e)

-- a live object is counted or marked
live_has : (s : State) (owed : List ℕ) → Inv s owed → (o : ℕ) → is_live (s.phase o) ≡ true → 0 < s.strong o + bit (s.interned o)
live_has s owed i o l = live_counted (i.good o (between s owed i o (live_born (s.phase o) l)).0) l

-- of the object that the call names
pub hold_effect : (o : ℕ) (s : State) → Inv s [] → Granted (Hold o) s → Inv (own_change (outcome (Hold o) s)) []
unfolding outcome
hold_effect o s i g = hold_inv s [] i o (live_has s [] i o (names_live s o g.named.0 g.living.0)) (not_full s o (own_first (at_none CountFull (count_full s o)) [] g.own))

-- of the referent, if it answers
pub upgrade_effect : (w : ℕ) (s : State) → Inv s [] → Granted (Upgrade w) s → Inv (own_change (outcome (Upgrade w) s)) []
unfolding outcome
upgrade_effect w s i g =
    let r = (s.shape w).referent in
    cond_both (answering s w) (Answers r [] (hold r s)) (Answers 0 [] s) (λ out. Inv (own_change out) [])
    (λ a.
    let full = at_none CountFull (answering s w && count_full s r) in
    let f : (answering s w && count_full s r) ≡ false = own_first full [] (own_rest (at_argument NotWeak 1 (not (eqb (s.shape w).kind 1))) (full ∷ []) g.own) in
    let n : count_full s r ≡ false = rw a at f in
    hold_inv s [] i r (live_has s [] i r (and_parts (is_live (s.phase r)) (not (spent s r)) a).0) (not_full s r n))
    (λ a. i)

-- ---- the references that a round would hold

-- those of a falling list fall
falling_those : (test : ℕ → Bool) (n : ℕ) (l : List ℕ) → Falling n l → Falling n (those test l)
unfolding Falling
falling_those test n [] f = tt
falling_those test n (w ∷ ws) f =
    cond_both (test w) (w ∷ those test ws) (those test ws) (Falling n)
    (λ e. (f.0, falling_those test w ws f.1))
    (λ e. falling_more w n (those test ws) (omega (arith, f.0)) (falling_those test w ws f.1))

-- all of a list are counted or marked, and none is at the limit of holds
abbrev pub AllHeld : State → List ℕ → Type 0
AllHeld s [] = Unit {0}
AllHeld s (w ∷ ws) = (0 < s.strong w + bit (s.interned w)) × (s.strong w < 65535) × AllHeld s ws

-- holding a newer one leaves them so
all_still : (s : State) (n o : ℕ) (ws : List ℕ) → Falling n ws → n ≤ o → AllHeld s ws → AllHeld (hold o s) ws
unfolding Falling
all_still s n o [] f h a = tt
all_still s n o (w ∷ ws) f h a = (rw (ne_eqb w o (λ q. omega (arith, f.0))) a.0, rw (ne_eqb w o (λ q. omega (arith, f.0))) a.1, all_still s w o ws f.1 (omega (arith, f.0)) a.2)

-- the host gets a handle of each of a falling list
hold_all_inv : (n : ℕ) (l : List ℕ) (s : State) (owed : List ℕ) → Inv s owed → Falling n l → AllHeld s l → Inv (hold_all l s) owed
unfolding Falling
hold_all_inv n [] s owed i f a = i
hold_all_inv n (w ∷ ws) s owed i f a = hold_all_inv w ws (hold w s) owed (hold_inv s owed i w a.0 a.1) f.1 (all_still s w w ws f.1 (omega arith) a.2)

-- those standing, if none is full
all_held : (s : State) (l : List ℕ) → any_full s (those (λ w. not (spent s w)) l) ≡ false → AllHeld s (those (λ w. not (spent s w)) l)
all_held s [] e = tt
all_held s (w ∷ ws) e = go (not (spent s w)) refl e (λ r. all_held s ws r)
  where
    rest : List ℕ
    rest = those (λ v. not (spent s v)) ws

    go : (b : Bool) → not (spent s w) ≡ b → any_full s (cond b (w ∷ rest) rest) ≡ false → (any_full s rest ≡ false → AllHeld s rest) → AllHeld s (cond b (w ∷ rest) rest)
    go true q e more = let p = or_parts (count_full s w) (any_full s rest) e in (not_spent (s.strong w) (s.interned w) (not-true (spent s w) q), not_full s w p.0, more p.1)
    go false q e more = more e

-- of each reference that stands
pub list_effect : (o lent : ℕ) (s : State) → Inv s [] → Granted (ListWeak o lent) s → Inv (own_change (outcome (ListWeak o lent) s)) []
unfolding outcome
list_effect o lent s i g =
    hold_all_inv s.next (standing s o) s [] i (falling_those (λ w. not (spent s w)) s.next (s.weak o) (i.lists o))
    (all_held s (s.weak o) (own_first (at_none CountFull (any_full s (standing s o))) (at_none ListShort (ltb lent (length (standing s o))) ∷ []) g.own))
