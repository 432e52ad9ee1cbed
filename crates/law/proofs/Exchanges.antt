-- Calls that put a content into a place keep the invariant.
use Rattle.std.proofs.Common.{◌≡◌, ℕ, suc, ◌+◌, ◌<◌, ◌≤◌, true, eqb, ltb, leb, ◌⊎◌, List, [], ◌∷◌, length, get_or, set, refl, ap, subst, inl, inr, arith}
use Rattle.std.proofs.lemmas.Bool.{ne_eqb, eqb-false, cases_eq, cond_both, cases_lt, ltb-true, ltb-false, leb-false}
use Rattle.std.proofs.lemmas.List.{get_or_past}
use Rattle.refusal.specs.declared.Refusal.TheVariants.{NoPlace, ListShort}
use Rattle.definition.specs.State.{Phase, Absent, Resting, DelOpen, Taking, Draining, Calling, Freeing, Leaving, State, is_live}
use Rattle.definition.specs.Changes.{with_places, with_handles}
use Rattle.definition.specs.Death.{loose}
use Rattle.definition.specs.Refusals.{at_argument, at_none}
use Rattle.definition.specs.Calls.{Call, Store, Swap, SetDictionary, gained, exchanged, handed, slot_place, edge_place, dictionary_of, outcome}
use Rattle.definition.proofs.Sums.{same, point, count_set}
use Rattle.law.specs.Run.{own_change}
use Rattle.law.proofs.Invariant.{emptied, Good, placed, lent, GoodAt, Inv, between, live_born, retold, none_inv, give_up_inv}
use Rattle.law.proofs.Moves.{places_inv}
use Rattle.law.proofs.Granted.{Granted, own_first, names_live}
use Rattle.law.proofs.Handed.{handed_inv}
use Rattle.law.proofs.Shapes.{Shaped}

-- of a live object nothing has to be empty
live_full : (p : Phase) (l : List ℕ) (c : ℕ) → is_live p ≡ true → emptied p l c ≡ 0
live_full Absent l c e = let z : ◌≡◌ {A = ℕ} 0 1 = cc in absurd (omega arith)
live_full Resting l c e = refl
live_full (DelOpen d) l c e = refl
live_full Taking l c e = let z : ◌≡◌ {A = ℕ} 0 1 = cc in absurd (omega arith)
live_full Draining l c e = let z : ◌≡◌ {A = ℕ} 0 1 = cc in absurd (omega arith)
live_full (Calling d w) l c e = let z : ◌≡◌ {A = ℕ} 0 1 = cc in absurd (omega arith)
live_full (Freeing k) l c e = let z : ◌≡◌ {A = ℕ} 0 1 = cc in absurd (omega arith)
live_full Leaving l c e = let z : ◌≡◌ {A = ℕ} 0 1 = cc in absurd (omega arith)

-- the limit of counts, without what is being given up
abbrev pub Few : State → Type 0
Few s = (y : ℕ) → 0 < y → s.strong y ≤ 65535 + lent s y

-- a call that takes handles over keeps it
few_handed : (c : Call) (s : State) → Inv s [] → Few (handed c s)
unfolding lent
few_handed c s i y py = omega (arith, (i.good y py).few)

-- v, which was owed, goes into a place, and what was there is owed
pub placed_inv :
    (s : State) (v o k : ℕ) → Inv s (v ∷ []) → Few s → is_live (s.phase o) ≡ true → k < length (s.places o)
    → Inv (with_places o (set (s.places o) k v) s) (get_or (s.places o) k 0 ∷ [])
placed_inv s v o k i few l h =
    let b = between s (v ∷ []) i o (live_born (s.phase o) l) in
    places_inv s (v ∷ []) i o b.0 b.1 (set (s.places o) k v) (get_or (s.places o) k 0 ∷ []) (λ y py. omega (arith, count_set y (s.places o) k v h)) (λ y py. omega (arith, few y py)) (live_full (s.phase o) (set (s.places o) k v) (s.callback o) l)

-- what is owed becomes a handle
-- one object's numbers when one that is owed becomes a handle
becomes_handle : {p : Phase} {s m h q l w e r g k : ℕ} → Good p s m h q l (suc w) e r g k → s ≤ 65535 + l + w → Good p s m (h + 1) q l w e r g k
becomes_handle i n = retold _ _ _ _ i (omega arith) n

pub gained_inv : (s : State) (x : ℕ) → Inv s (x ∷ []) → Few s → Inv (gained x s) []
unfolding placed lent
gained_inv s x i few = cond_both (loose s x) (with_handles x (s.handles x + 1) s) s (λ t. Inv t []) (λ e. some (ltb-true (s.handles x) (s.strong x) e) (cases_eq x 0)) (λ e. none (ltb-false (s.handles x) (s.strong x) e) (cases_eq x 0))
  where
    none : s.strong x ≤ s.handles x → (x ≡ 0) ⊎ (x ≡ 0 → ⊥) → Inv s []
    none h (inl q) = none_inv s [] (subst (λ v. Inv s (v ∷ [])) q i)
    none h (inr ne) = let g = rw (same x) at (i.good x (omega arith)) in absurd (omega (arith, g.counted))

    some : s.handles x < s.strong x → (x ≡ 0) ⊎ (x ≡ 0 → ⊥) → Inv (with_handles x (s.handles x + 1) s) []
    some h (inl q) = absurd (omega (arith, i.zeroth, ap s.strong q))
    some h (inr ne) =
        record {
          good =
              point (λ y. 0 < y → GoodAt (with_handles x (s.handles x + 1) s) [] y) x
              (λ py. rw (same x) (becomes_handle (rw (same x) at (i.good x py)) (omega (arith, few x py))))
              (λ y ne py. rw (ne_eqb y x ne) (rw (ne_eqb y x ne) at (i.good y py)));
          zeroth = rw (ne_eqb 0 x (λ q. omega arith)) i.zeroth;
          lists = i.lists;
          frame = i.frame;
        }

-- a change of places keeps it
few_placed : (s : State) (o : ℕ) (l : List ℕ) → Few s → Few (with_places o l s)
unfolding lent
few_placed s o l few = few

-- v, which was owed, goes into a place, and what was there becomes a handle
pub exchanged_inv : (s : State) (o k v : ℕ) → Inv s (v ∷ []) → Few s → is_live (s.phase o) ≡ true → k < length (s.places o) → Inv (exchanged o k v s) []
exchanged_inv s o k v i few l h = gained_inv (with_places o (set (s.places o) k v) s) (get_or (s.places o) k 0) (placed_inv s v o k i few l h) (few_placed s o (set (s.places o) k v) few)

-- ---- the calls

-- an edge changes
pub swap_effect : (o edge v : ℕ) (s : State) → Inv s [] → Granted (Swap o edge v) s → Inv (own_change (outcome (Swap o edge v) s)) []
unfolding outcome
swap_effect o edge v s i g =
    let h = leb-false (length (s.places o)) (edge_place s o edge) (own_first (at_argument NoPlace 2 (leb (length (s.places o)) (edge_place s o edge))) [] g.own) in
    exchanged_inv (handed (Swap o edge v) s) o (edge_place s o edge) v (handed_inv (Swap o edge v) s i g.owned) (few_handed (Swap o edge v) s i) (names_live s o g.named.0 g.living.0) h

-- a slot changes
pub store_effect : (o slot v : ℕ) (s : State) → Inv s [] → Shaped s → Granted (Store o slot v) s → Inv (own_change (outcome (Store o slot v) s)) []
unfolding outcome
store_effect o slot v s i sh g =
    let h = leb-false (s.shape o).slots slot (own_first (at_argument NoPlace 2 (leb (s.shape o).slots slot)) [] g.own) in
    exchanged_inv (handed (Store o slot v) s) o (slot_place slot) v (handed_inv (Store o slot v) s i g.owned) (few_handed (Store o slot v) s i) (names_live s o g.named.0 g.living.0) (omega (arith, sh o))

-- a place with a content is among the places
within : (l : List ℕ) (k : ℕ) → (get_or l k 0 ≡ 0 → ⊥) → k < length l
within l k ne = go (cases_lt k (length l))
  where
    go : (k < length l) ⊎ (length l ≤ k) → k < length l
    go (inl h) = h
    go (inr h) = absurd (ne (get_or_past l k 0 h))

-- the dictionary changes, and the old one is given up
pub set_dictionary_effect : (o dictionary lent : ℕ) (s : State) → Inv s [] → Granted (SetDictionary o dictionary lent) s → Inv (own_change (outcome (SetDictionary o dictionary lent) s)) []
unfolding outcome
set_dictionary_effect o dictionary lent s i g =
    let c = SetDictionary o dictionary lent in
    let e = eqb-false (dictionary_of s o) 0 (own_first (at_argument NoPlace 1 (eqb (dictionary_of s o) 0)) (at_none ListShort (ltb lent s.unfreed) ∷ []) g.own) in
    give_up_inv (with_places o (set (s.places o) 0 dictionary) (handed c s)) [] (dictionary_of s o)
    (placed_inv (handed c s) dictionary o 0 (handed_inv c s i g.owned) (few_handed c s i) (names_live s o g.named.0 g.living.0) (within (s.places o) 0 e))
