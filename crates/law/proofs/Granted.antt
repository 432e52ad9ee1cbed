-- What is so when a call is not refused.
use Rattle.std.proofs.Common.{◌≡◌, ℕ, zero, suc, ◌+◌, ◌-◌, ◌<◌, ◌≤◌, Bool, true, false, not, ◌&&◌, eqb, ◌⊎◌, List, [], ◌∷◌, map, Some, None, refl, ap, inl, inr, arith}
use Rattle.std.proofs.lemmas.Bool.{eqb-true, eqb-false, eq-eqb, ne_eqb, cases_eq, and_cases, not-false, cond_both}
use Rattle.refusal.specs.declared.Refusal.TheVariants.{NoSuch, Dying, NotYours}
use Rattle.definition.specs.Base.{count}
use Rattle.definition.specs.State.{Phase, Absent, Resting, DelOpen, Taking, Draining, Calling, Freeing, Leaving, State, is_unfreed, is_live}
use Rattle.definition.specs.Refusals.{Ground, first_met, leftmost, at_leftmost, Argument, Plain, Names, Gives, Stores, no_such, not_live, dying, taken, past, taken_all}
use Rattle.definition.specs.Calls.{Call, arguments, own_grounds, refusal}
use Rattle.definition.proofs.Sums.{count_cons}

-- ---- no ground is met

first_none : (g : Ground) (gs : List Ground) → first_met (g ∷ gs) ≡ None → (g.met ≡ false) × (first_met gs ≡ None)
first_none g gs e = go g.met refl
  where
    go : (b : Bool) → g.met ≡ b → (g.met ≡ false) × (first_met gs ≡ None)
    go true m = let w : Some (record { refusal = g.refusal; argument = g.argument }) ≡ None = rw m at e in let z : ◌≡◌ {A = ℕ} 0 1 = cc in absurd (omega arith)
    go false m = (m, rw m at e)

abbrev pub AllFalse : List Bool → Type 0
AllFalse [] = Unit {0}
AllFalse (b ∷ bs) = (b ≡ false) × AllFalse bs

none_left : (n : ℕ) (bs : List Bool) → leftmost (suc n) bs ≡ 0 → AllFalse bs
none_left n [] e = tt
none_left n (b ∷ bs) e = go b refl (none_left (suc n) bs)
  where
    go : (c : Bool) → b ≡ c → (leftmost (suc (suc n)) bs ≡ 0 → AllFalse bs) → AllFalse (b ∷ bs)
    go true q rest = let z : suc n ≡ 0 = rw q at e in absurd (omega arith)
    go false q rest = (q, rest (rw q at e))

-- the conditions on names, and the call's own
pub record Granted (c : Call) (s : State) : Type 0 where
  pub named : AllFalse (map (no_such s) (arguments c))
  pub living : AllFalse (map (dying s) (arguments c))
  pub owned : AllFalse (past s.handles (arguments c))
  pub own : first_met (own_grounds c s) ≡ None

not_left : (n : ℕ) → not (eqb n 0) ≡ false → n ≡ 0
not_left n e = eqb-true n 0 (not-false (eqb n 0) e)

pub granted : (c : Call) (s : State) → refusal c s ≡ None → Granted c s
unfolding refusal
granted c s e =
    let lives = at_leftmost Dying (map (dying s) (arguments c)) in
    let owns = at_leftmost NotYours (past s.handles (arguments c)) in
    let a = first_none (at_leftmost NoSuch (map (no_such s) (arguments c))) (lives ∷ owns ∷ own_grounds c s) e in
    let b = first_none lives (owns ∷ own_grounds c s) a.1 in
    let d = first_none owns (own_grounds c s) b.1 in
    record {
      named = none_left 0 (map (no_such s) (arguments c)) (not_left _ a.0);
      living = none_left 0 (map (dying s) (arguments c)) (not_left _ b.0);
      owned = none_left 0 (past s.handles (arguments c)) (not_left _ d.0);
      own = d.1;
    }

-- the own conditions one after another
pub own_first : (g : Ground) (gs : List Ground) → first_met (g ∷ gs) ≡ None → g.met ≡ false
own_first g gs e = (first_none g gs e).0

pub own_rest : (g : Ground) (gs : List Ground) → first_met (g ∷ gs) ≡ None → first_met gs ≡ None
own_rest g gs e = (first_none g gs e).1

-- ---- a name that may be used is that of a live object

pub names_live : (s : State) (o : ℕ) → no_such s (Names o) ≡ false → not_live s o ≡ false → is_live (s.phase o) ≡ true
names_live s o a b = by (s.phase o) a b
  where
    by : (p : Phase) → not (is_unfreed p) ≡ false → (is_unfreed p && not (is_live p)) ≡ false → is_live p ≡ true
    by Absent a b = let z : ◌≡◌ {A = ℕ} 0 1 = cc in absurd (omega arith)
    by Resting a b = refl
    by (DelOpen c) a b = refl
    by Taking a b = let z : ◌≡◌ {A = ℕ} 0 1 = cc in absurd (omega arith)
    by Draining a b = let z : ◌≡◌ {A = ℕ} 0 1 = cc in absurd (omega arith)
    by (Calling c w) a b = let z : ◌≡◌ {A = ℕ} 0 1 = cc in absurd (omega arith)
    by (Freeing k) a b = let z : ◌≡◌ {A = ℕ} 0 1 = cc in absurd (omega arith)
    by Leaving a b = let z : ◌≡◌ {A = ℕ} 0 1 = cc in absurd (omega arith)

-- ---- handles taken over

abbrev pub handed_names : List Argument → List ℕ
handed_names [] = []
handed_names (Plain ∷ as') = handed_names as'
handed_names (Names o ∷ as') = handed_names as'
handed_names (Gives o ∷ as') = o ∷ handed_names as'
handed_names (Stores o ∷ as') = o ∷ handed_names as'

pub handed_stores : (es : List ℕ) → handed_names (map Stores es) ≡ es
handed_stores [] = refl
handed_stores (e ∷ es) = ap (λ (l : List ℕ). e ∷ l) (handed_stores es)

one_taken : (o : ℕ) (h : ℕ → ℕ) (y : ℕ) → 0 < y → (o ≡ 0) ⊎ (0 < h o) → taken o h y + count y (o ∷ []) ≡ h y
one_taken o h y py some = go (cases_eq y o) some
  where
    go : (y ≡ o) ⊎ (y ≡ o → ⊥) → (o ≡ 0) ⊎ (0 < h o) → taken o h y + count y (o ∷ []) ≡ h y
    go (inl q) (inl z) = absurd (omega arith)
    go (inl q) (inr l) = rw (eq-eqb y o q) (omega (arith, ap h q))
    go (inr ne) some = rw (ne_eqb y o ne) (omega arith)

gives_some : (h : ℕ → ℕ) (o : ℕ) → eqb (h o) 0 ≡ false → 0 < h o
gives_some h o e = go (h o) refl
  where
    go : (n : ℕ) → h o ≡ n → 0 < h o
    go zero q = absurd (eqb-false (h o) 0 e q)
    go (suc n) q = omega arith

stores_some : (h : ℕ → ℕ) (o : ℕ) → (not (eqb o 0) && eqb (h o) 0) ≡ false → (o ≡ 0) ⊎ (0 < h o)
stores_some h o e = go (and_cases (not (eqb o 0)) (eqb (h o) 0) e)
  where
    go : (not (eqb o 0) ≡ false) ⊎ (eqb (h o) 0 ≡ false) → (o ≡ 0) ⊎ (0 < h o)
    go (inl q) = inl (eqb-true o 0 (not-false (eqb o 0) q))
    go (inr q) = inr (gives_some h o q)

-- each name's handle is taken over
pub taken_counts : (as' : List Argument) (h : ℕ → ℕ) → AllFalse (past h as') → (y : ℕ) → 0 < y → taken_all as' h y + count y (handed_names as') ≡ h y
taken_counts [] h f y py = omega arith
taken_counts (Plain ∷ as') h f y py = taken_counts as' h f.1 y py
taken_counts (Names o ∷ as') h f y py = taken_counts as' h f.1 y py
taken_counts (Gives o ∷ as') h f y py = omega (arith, taken_counts as' (taken o h) f.1 y py, one_taken o h y py (inr (gives_some h o f.0)), count_cons y o (handed_names as'))
taken_counts (Stores o ∷ as') h f y py = omega (arith, taken_counts as' (taken o h) f.1 y py, one_taken o h y py (stores_some h o f.0), count_cons y o (handed_names as'))

taken_less : (o : ℕ) (h : ℕ → ℕ) (y : ℕ) → taken o h y ≤ h y
taken_less o h y = cond_both (eqb y o) (h o - 1) (h y) (λ n. n ≤ h y) (λ e. omega (arith, ap h (eqb-true y o e))) (λ e. omega arith)

pub taken_all_less : (as' : List Argument) (h : ℕ → ℕ) (y : ℕ) → taken_all as' h y ≤ h y
taken_all_less [] h y = omega arith
taken_all_less (Plain ∷ as') h y = taken_all_less as' h y
taken_all_less (Names o ∷ as') h y = taken_all_less as' h y
taken_all_less (Gives o ∷ as') h y = omega (arith, taken_all_less as' (taken o h) y, taken_less o h y)
taken_all_less (Stores o ∷ as') h y = omega (arith, taken_all_less as' (taken o h) y, taken_less o h y)
