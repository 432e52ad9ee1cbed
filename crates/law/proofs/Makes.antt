-- The calls that make objects keep the invariant.
use Rattle.std.proofs.Common.{◌≡◌, ℕ, zero, suc, ◌<◌, true, false, cond, not, ◌&&◌, eqb, List, [], ◌∷◌, ◌++◌, map, replicate, None, refl, arith}
use Rattle.std.proofs.lemmas.Bool.{ne_eqb, eqb-true, eqb-false, leb-false, and_parts, not-true, not-false, cond_both}
use Rattle.payload.specs.Meaning.{Meaning}
use Rattle.classes.specs.Rows.{Class, class_at}
use Rattle.definition.specs.Base.{count}
use Rattle.definition.specs.State.{Shape, State, is_live}
use Rattle.definition.specs.Changes.{with_weak, born}
use Rattle.definition.specs.Death.{spent}
use Rattle.definition.specs.Refusals.{Ground, first_met, Stores}
use Rattle.definition.specs.Calls.{Make, Weaken, Answers, slot_count, new_places, reused, own_grounds, handed, hold, new_reference, outcome}
use Rattle.definition.proofs.Sums.{count_cons, count_other}
use Rattle.law.specs.Run.{own_change}
use Rattle.law.proofs.Invariant.{Falling, lent, Inv, not_spent, alive}
use Rattle.law.proofs.Moves.{weak_inv, cached_inv}
use Rattle.law.proofs.Granted.{AllFalse, Granted, own_first, own_rest, handed_names, handed_stores}
use Rattle.law.proofs.Holds.{hold_inv}
use Rattle.law.proofs.Handed.{handed_inv}
use Rattle.law.proofs.Births.{born_inv}

-- ---- the places of a new object

-- empty slots name nothing
empty_slots : (y n : ℕ) (l : List ℕ) → 0 < y → count y (replicate n 0 ++ l) ≡ count y l
empty_slots y zero l py = refl
empty_slots y (suc n) l py = rw (ne_eqb y 0 (λ q. omega arith)) (empty_slots y n l py)

-- what is named is the dictionary and the edges
new_named : (row : Class) (dictionary : ℕ) (edges : List ℕ) (y : ℕ) → 0 < y → count y (new_places row dictionary edges) ≡ count y (dictionary ∷ edges)
new_named row dictionary edges y py = omega (arith, count_cons y dictionary (replicate (slot_count row) 0 ++ edges), count_cons y dictionary edges, empty_slots y (slot_count row) edges py)

-- ---- what is so when the own conditions of a call are not met

-- where no ground is the first that is met, none is met
pub unmet : (gs : List Ground) → first_met gs ≡ None → AllFalse (map (λ (g : Ground). g.met) gs)
unmet [] e = tt
unmet (g ∷ gs) e = (own_first g gs e, unmet gs (own_rest g gs e))

-- ---- make

-- what an accepted make changes keeps the invariant
pub make_effect : (class dictionary : ℕ) (payload : Meaning) (s : State) → Inv s [] → Granted (Make class dictionary payload) s → Inv (own_change (outcome (Make class dictionary payload) s)) []
unfolding outcome lent
make_effect class dictionary payload s i g =
    let c = Make class dictionary payload in
    let row = class_at s.classes class in
    let own = unmet (own_grounds c s) g.own in
    let room : s.unfreed < s.capacity = leb-false s.capacity s.unfreed own.1.1.0 in
    born_inv
    (record { class = class; kind = payload.kind; traced = payload.traced; slots = slot_count row; referent = 0 })
    (new_places row dictionary payload.edges) 0 (handed c s) (dictionary ∷ handed_names (map Stores payload.edges)) (handed_inv c s i g.owned) [] room
    (λ y py. rw (handed_stores payload.edges) (omega (arith, new_named row dictionary payload.edges y py, count_other y 0 (λ q. omega arith))))
    (λ y py. omega (arith, (i.good y py).few))

-- ---- weaken

-- a new reference: it is at the front of its referent's list, since its birth is above all others
new_effect : (class o callback dictionary : ℕ) (s : State) → Inv s [] → Granted (Weaken class o callback dictionary) s → reused s class o callback ≡ false → Inv (new_reference class o callback dictionary (handed (Weaken class o callback dictionary) s)) []
unfolding lent Falling
new_effect class o callback dictionary s i g re =
    let c = Weaken class o callback dictionary in
    let t = handed c s in
    let row = class_at s.classes class in
    let shape : Shape = record { class = class; kind = 1; traced = false; slots = slot_count row; referent = o } in
    let b = born shape (new_places row dictionary []) callback t in
    let own = unmet (own_grounds c s) g.own in
    let room : s.unfreed < s.capacity = leb-false s.capacity s.unfreed (rw re at own.1.1.1.1.0) in
    let i₁ : Inv b [] =
    born_inv shape (new_places row dictionary []) callback t (callback ∷ dictionary ∷ []) (handed_inv c s i g.owned) [] room
    (λ y py. omega (arith, new_named row dictionary [] y py, count_cons y callback (dictionary ∷ [])))
    (λ y py. omega (arith, (i.good y py).few)) in
    let i₂ = weak_inv b [] i₁ o (s.next ∷ s.weak o) (omega arith, i.lists o) in
    cached_inv (with_weak o (s.next ∷ s.weak o) b) [] i₂ o (cond (eqb class 1 && eqb callback 0) s.next (s.cached o))

-- what may be answered again is live
pub reused_live : (class o callback : ℕ) (s : State) → Inv s [] → reused s class o callback ≡ true → is_live (s.phase (s.cached o)) ≡ true
reused_live class o callback s i re =
    let w = s.cached o in
    let e = (and_parts (eqb class 1 && eqb callback 0) (not (eqb w 0) && not (spent s w)) re).1 in
    let q = and_parts (not (eqb w 0)) (not (spent s w)) e in
    let ne = eqb-false w 0 (not-true (eqb w 0) q.0) in
    alive (i.good w (omega arith)) (not_spent (s.strong w) (s.interned w) (not-true (spent s w) q.1))

-- and where it is, neither a callback nor a dictionary is given: class 1 has no dictionary
pub reused_bare : (class o callback dictionary : ℕ) (s : State) → Inv s [] → Granted (Weaken class o callback dictionary) s → reused s class o callback ≡ true → (callback ≡ 0) × (dictionary ≡ 0)
reused_bare class o callback dictionary s i g re =
    let e = and_parts (eqb class 1) (eqb callback 0) (and_parts (eqb class 1 && eqb callback 0) _ re).0 in
    let own = unmet (own_grounds (Weaken class o callback dictionary) s) g.own in
    let plain : (class_at s.classes class).dictionary ≡ false = rw (eqb-true class 1 e.0) i.frame.plain in
    (eqb-true callback 0 e.1, eqb-true dictionary 0 (not-false (eqb dictionary 0) (rw plain at own.1.1.0)))

-- what an accepted weaken changes keeps the invariant
pub weaken_effect : (class o callback dictionary : ℕ) (s : State) → Inv s [] → Granted (Weaken class o callback dictionary) s → Inv (own_change (outcome (Weaken class o callback dictionary) s)) []
unfolding outcome
weaken_effect class o callback dictionary s i g =
    let c = Weaken class o callback dictionary in
    let own = unmet (own_grounds c s) g.own in
    cond_both (reused s class o callback) (Answers (s.cached o) [] (hold (s.cached o) s)) (Answers s.next [] (new_reference class o callback dictionary (handed c s))) (λ out. Inv (own_change out) [])
    (λ e. hold_inv s [] i (s.cached o) (reused_live class o callback s i e) (leb-false 65535 (s.strong (s.cached o)) (rw e at own.1.1.1.0)))
    (λ e. new_effect class o callback dictionary s i g e)
