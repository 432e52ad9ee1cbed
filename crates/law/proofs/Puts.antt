-- After an accepted call a place names what the call puts there, or what it did.
use Rattle.std.proofs.Common.{◌≡◌, ℕ, suc, ◌+◌, ◌-◌, ◌<◌, true, false, cond, not, ◌&&◌, eqb, ltb, ◌⊎◌, List, [], ◌∷◌, ◌++◌, length, get_or, set, replicate, refl, ◌∙◌, inl, inr, arith}
use Rattle.std.proofs.lemmas.Bool.{ne_eqb, eqb-true, lt-ltb, ltb-true, leb-false, cases_eq, and_parts, cond_both}
use Rattle.std.proofs.lemmas.List.{get_or-set_same, get_or-set_other, get_or_append_left, get_or-append-add, get_or-replicate, length-replicate}
use Rattle.classes.specs.Rows.{Class, class_at}
use Rattle.definition.specs.State.{Phase, Absent, Resting, DelOpen, Taking, Draining, Calling, Freeing, Leaving, Shape, State, is_unfreed, is_live}
use Rattle.definition.specs.Changes.{with_places, with_turns, born}
use Rattle.definition.specs.Death.{loose, less, spent, give_up}
use Rattle.definition.specs.Calls.{Call, Make, Hold, Drop, Store, Swap, SetDictionary, Weaken, Upgrade, ListWeak, Intern, Attend, SetDel, HandBack, hold, hold_all, gained, content, slot_place, edge_place, dictionary_of, handed, handed_back, del_ends, newest_back, slot_count, new_places, new_reference, reused, answering, standing, own_grounds, Answers, replied, outcome}
use Rattle.definition.proofs.Sums.{same}
use Rattle.law.specs.Run.{Accepted, own_change}
use Rattle.law.specs.Places.{Place, Dictionary, Slot, Edge, Callback, names, same_place, new_names, into, making, Named}
use Rattle.law.proofs.Invariant.{Inv}
use Rattle.law.proofs.Granted.{Granted}
use Rattle.law.proofs.Makes.{unmet, reused_live}
use Rattle.law.proofs.Shapes.{Shaped}
use Rattle.law.proofs.Placing.{Same, same_names, give_up_same}

-- ---- calls that change no place

-- handles change no place
hold_all_same : (l : List ℕ) (s : State) (p : ℕ) → Same s (hold_all l s) p
hold_all_same [] s p = (refl, refl, refl)
hold_all_same (o ∷ os) s p = hold_all_same os (hold o s) p

-- nor does the end of a del
del_same : (s : State) (o : ℕ) (below : List ℕ) (p : ℕ) → Same s (del_ends o below s) p
del_same s o below p = cond_both (spent s o) _ _ (λ t. Same s t p) (λ e. (refl, refl, refl)) (λ e. (refl, refl, refl))

-- nor any hand back
back_same : (s : State) (o : ℕ) (below : List ℕ) (h : Phase) (p : ℕ) → Same s (handed_back h o below s) p
back_same s o below Absent p = (refl, refl, refl)
back_same s o below Resting p = (refl, refl, refl)
back_same s o below (DelOpen c) p = cond_both (loose s o) (less o s) s (λ u. Same s (del_ends o below u) p) (λ e. del_same (less o s) o below p) (λ e. del_same s o below p)
back_same s o below Taking p = (refl, refl, refl)
back_same s o below Draining p = (refl, refl, refl)
back_same s o below (Calling c w) p = (refl, refl, refl)
back_same s o below (Freeing k) p = (refl, refl, refl)
back_same s o below Leaving p = (refl, refl, refl)

-- that of the newest turn among them
newest_same : (l : List ℕ) (s : State) (p : ℕ) → Same s (newest_back l s) p
newest_same [] s p = (refl, refl, refl)
newest_same (o ∷ below) s p = back_same (with_turns (s.turns - 1) s) o below (s.phase o) p

-- ---- calls that put content into a place

-- what was there becomes a handle, which changes no place
gained_same : (o : ℕ) (s : State) (p : ℕ) → Same s (gained o s) p
gained_same o s p = cond_both (loose s o) _ _ (λ t. Same s t p) (λ e. (refl, refl, refl)) (λ e. (refl, refl, refl))

-- into one place of an object, and nowhere else
into_named : (s t : State) (o : ℕ) (place : Place) (v : ℕ) → ((p : ℕ) → (p ≡ o → ⊥) → Same s t p) → ((q : Place) → names t o q ≡ cond (same_place q place) v (names s o q)) → (p : ℕ) (q : Place) → names t p q ≡ into o place v s p q
into_named s t o place v other here p q = go (cases_eq p o)
  where
    go : (p ≡ o) ⊎ (p ≡ o → ⊥) → names t p q ≡ into o place v s p q
    go (inl e) = rw (e, same o) (here q)
    go (inr ne) = rw (ne_eqb p o ne) (same_names s t p (other p ne) q)

module _ (s : State) (o v : ℕ) where
  -- the places of o with another content of one
  abbrev changed : ℕ → State
  changed k = with_places o (set (s.places o) k v) s

  -- nothing changes of the others
  others : (k p : ℕ) → (p ≡ o → ⊥) → Same s (changed k) p
  others k p ne = (refl, rw (ne_eqb p o ne) refl, refl)

  -- a slot
  slot_named : (k : ℕ) → k < (s.shape o).slots → suc k < length (s.places o) → (p : ℕ) (q : Place) → names (changed (suc k)) p q ≡ into o (Slot k) v s p q
  slot_named k lk ll = into_named s (changed (suc k)) o (Slot k) v (others (suc k)) by
    where
      by : (q : Place) → names (changed (suc k)) o q ≡ cond (same_place q (Slot k)) v (names s o q)
      by Dictionary = rw (same o) (get_or-set_other (s.places o) (suc k) 0 v 0 (λ e. omega arith))
      by (Slot i) = go (cases_eq i k)
        where
          go : (i ≡ k) ⊎ (i ≡ k → ⊥) → names (changed (suc k)) o (Slot i) ≡ cond (eqb i k) v (names s o (Slot i))
          go (inl e) = rw (e, same o, same k, lt-ltb k (s.shape o).slots lk) (get_or-set_same (s.places o) (suc k) v 0 ll)
          go (inr ne) = rw (same o, ne_eqb i k ne, get_or-set_other (s.places o) (suc k) (suc i) v 0 (λ e. omega arith)) refl
      by (Edge j) = rw (same o) (get_or-set_other (s.places o) (suc k) (suc ((s.shape o).slots + j)) v 0 (λ e. omega arith))
      by Callback = refl

  -- an edge
  edge_named : (k : ℕ) → suc ((s.shape o).slots + k) < length (s.places o) → (p : ℕ) (q : Place) → names (changed (suc ((s.shape o).slots + k))) p q ≡ into o (Edge k) v s p q
  edge_named k ll = into_named s (changed at') o (Edge k) v (others at') by
    where
      at' : ℕ
      at' = suc ((s.shape o).slots + k)

      by : (q : Place) → names (changed at') o q ≡ cond (same_place q (Edge k)) v (names s o q)
      by Dictionary = rw (same o) (get_or-set_other (s.places o) at' 0 v 0 (λ e. omega arith))
      by (Slot i) = rw (same o) (
          cond_both (ltb i (s.shape o).slots) (get_or (set (s.places o) at' v) (suc i) 0) 0 (λ x. x ≡ names s o (Slot i))
          (λ e. rw (e, get_or-set_other (s.places o) at' (suc i) v 0 (λ f. let l = ltb-true i (s.shape o).slots e in omega arith)) refl)
          (λ e. rw e refl))
      by (Edge j) = go (cases_eq j k)
        where
          go : (j ≡ k) ⊎ (j ≡ k → ⊥) → names (changed at') o (Edge j) ≡ cond (eqb j k) v (names s o (Edge j))
          go (inl e) = rw (e, same o, same k) (get_or-set_same (s.places o) at' v 0 ll)
          go (inr ne) = rw (same o, ne_eqb j k ne) (get_or-set_other (s.places o) at' (suc ((s.shape o).slots + j)) v 0 (λ e. omega arith))
      by Callback = refl

  -- the dictionary
  dictionary_named : 0 < length (s.places o) → (p : ℕ) (q : Place) → names (changed 0) p q ≡ into o Dictionary v s p q
  dictionary_named ll = into_named s (changed 0) o Dictionary v (others 0) by
    where
      by : (q : Place) → names (changed 0) o q ≡ cond (same_place q Dictionary) v (names s o q)
      by Dictionary = rw (same o) (get_or-set_same (s.places o) 0 v 0 ll)
      by (Slot i) = rw (same o, get_or-set_other (s.places o) 0 (suc i) v 0 (λ e. omega arith)) refl
      by (Edge j) = rw (same o) (get_or-set_other (s.places o) 0 (suc ((s.shape o).slots + j)) v 0 (λ e. omega arith))
      by Callback = refl

-- ---- calls that make an object

-- a slot of a new object is empty
empty_slot : (n i : ℕ) (edges : List ℕ) → cond (ltb i n) (get_or (replicate n 0 ++ edges) i 0) 0 ≡ 0
empty_slot n i edges =
    cond_both (ltb i n) (get_or (replicate n 0 ++ edges) i 0) 0 (λ x. x ≡ 0)
    (λ e.
    let l = ltb-true i n e in
    get_or_append_left (replicate n 0) edges 0 i (omega (arith, length-replicate {A = ℕ} n 0)) ∙ get_or-replicate n i 0 0 l)
    (λ e. refl)

-- an edge is the one that it was made with
new_edge : (n j : ℕ) (edges : List ℕ) → get_or (replicate n 0 ++ edges) (n + j) 0 ≡ get_or edges j 0
new_edge n j edges = rw (length-replicate {A = ℕ} n 0) at (get_or-append-add (replicate n 0) edges j 0)

-- the next birth is nobody's, so an object is made
born_named :
    (row : Class) (shape : Shape) (dictionary : ℕ) (edges : List ℕ) (callback : ℕ) (s : State)
    → s.phase s.next ≡ Absent → shape.slots ≡ slot_count row → (p : ℕ) (q : Place)
    → names (born shape (new_places row dictionary edges) callback s) p q ≡ making s.next dictionary edges callback s p q
born_named row shape dictionary edges callback s absent sl p q = go (cases_eq p s.next)
  where
    t : State
    t = born shape (new_places row dictionary edges) callback s

    by : (q : Place) → names t s.next q ≡ new_names dictionary edges callback q
    by Dictionary = rw (same s.next) refl
    by (Slot i) = rw (same s.next, sl) (empty_slot (slot_count row) i edges)
    by (Edge j) = rw (same s.next, sl) (new_edge (slot_count row) j edges)
    by Callback = rw (same s.next) refl

    go : (p ≡ s.next) ⊎ (p ≡ s.next → ⊥) → names t p q ≡ making s.next dictionary edges callback s p q
    go (inl e) = rw (e, same s.next, absent) (by q)
    go (inr ne) = rw (ne_eqb p s.next ne) (same_names s t p (rw (ne_eqb p s.next ne) refl, rw (ne_eqb p s.next ne) refl, rw (ne_eqb p s.next ne) refl) q)

-- what may be answered again stands already, so none is made
again_named : (class o callback dictionary : ℕ) (s : State) → Inv s [] → reused s class o callback ≡ true → (p : ℕ) (q : Place) → names s p q ≡ making (s.cached o) dictionary [] callback s p q
again_named class o callback dictionary s i re p q =
    let w = s.cached o in
    cond_both (eqb p w && not (is_unfreed (s.phase p))) (new_names dictionary [] callback q) (names s p q) (λ x. names s p q ≡ x)
    (λ e.
    let b = and_parts (eqb p w) (not (is_unfreed (s.phase p))) e in
    let u : not (is_unfreed (s.phase w)) ≡ true = rw (eqb-true p w b.0) at b.1 in
    absurd (stands (s.phase w) (reused_live class o callback s i re) u))
    (λ e. refl)
  where
    stands : (h : Phase) → is_live h ≡ true → not (is_unfreed h) ≡ true → ⊥
    stands Absent l u = let z : ◌≡◌ {A = ℕ} 0 1 = cc in omega arith
    stands Resting l u = let z : ◌≡◌ {A = ℕ} 0 1 = cc in omega arith
    stands (DelOpen c) l u = let z : ◌≡◌ {A = ℕ} 0 1 = cc in omega arith
    stands Taking l u = let z : ◌≡◌ {A = ℕ} 0 1 = cc in omega arith
    stands Draining l u = let z : ◌≡◌ {A = ℕ} 0 1 = cc in omega arith
    stands (Calling c w) l u = let z : ◌≡◌ {A = ℕ} 0 1 = cc in omega arith
    stands (Freeing k) l u = let z : ◌≡◌ {A = ℕ} 0 1 = cc in omega arith
    stands Leaving l u = let z : ◌≡◌ {A = ℕ} 0 1 = cc in omega arith

-- ---- the calls

-- where there is a dictionary there is a place for it
dictionary_place : (l : List ℕ) → eqb (get_or l 0 0) 0 ≡ false → 0 < length l
dictionary_place [] e = let z : ◌≡◌ {A = ℕ} 0 1 = cc in absurd (omega arith)
dictionary_place (x ∷ xs) e = omega arith

-- after an accepted call a place names what it did, and what the call puts is where it puts it
pub call_named : (c : Call) (s : State) → Inv s [] → Shaped s → Granted c s → Named (Accepted c (replied (outcome c s))) s (own_change (outcome c s))
unfolding outcome
call_named (Make class dictionary payload) s i sh g = born_named (class_at s.classes class) _ dictionary payload.edges 0 (handed (Make class dictionary payload) s) (i.frame.fresh s.next (inr (omega arith))) refl
call_named (Hold o) s i sh g = λ p q. same_names s (hold o s) p (refl, refl, refl) q
call_named (Drop o lent) s i sh g = λ p q. same_names s (give_up o (handed (Drop o lent) s)) p (give_up_same (handed (Drop o lent) s) o p) q
call_named (Store o slot v) s i sh g =
    let u = with_places o (set (s.places o) (slot_place slot) v) (handed (Store o slot v) s) in
    let own = unmet (own_grounds (Store o slot v) s) g.own in
    let l : slot < (s.shape o).slots = leb-false (s.shape o).slots slot own.0 in
    λ p q. same_names u (gained (content s o (slot_place slot)) u) p (gained_same (content s o (slot_place slot)) u p) q ∙ slot_named (handed (Store o slot v) s) o v slot l (omega (arith, sh o)) p q
call_named (Swap o edge v) s i sh g =
    let u = with_places o (set (s.places o) (edge_place s o edge) v) (handed (Swap o edge v) s) in
    let own = unmet (own_grounds (Swap o edge v) s) g.own in
    let l : edge_place s o edge < length (s.places o) = leb-false (length (s.places o)) (edge_place s o edge) own.0 in
    λ p q. same_names u (gained (content s o (edge_place s o edge)) u) p (gained_same (content s o (edge_place s o edge)) u p) q ∙ edge_named (handed (Swap o edge v) s) o v edge l p q
call_named (SetDictionary o dictionary lent) s i sh g =
    let u = with_places o (set (s.places o) 0 dictionary) (handed (SetDictionary o dictionary lent) s) in
    let own = unmet (own_grounds (SetDictionary o dictionary lent) s) g.own in
    λ p q. same_names u (give_up (dictionary_of s o) u) p (give_up_same u (dictionary_of s o) p) q ∙ dictionary_named (handed (SetDictionary o dictionary lent) s) o dictionary (dictionary_place (s.places o) own.0) p q
call_named (Weaken class o callback dictionary) s i sh g =
    let h = handed (Weaken class o callback dictionary) s in
    let row = class_at s.classes class in
    let b = born (record { class = class; kind = 1; traced = false; slots = slot_count row; referent = o }) (new_places row dictionary []) callback h in
    cond_both (reused s class o callback) (Answers (s.cached o) [] (hold (s.cached o) s)) (Answers s.next [] (new_reference class o callback dictionary h)) (λ out. (p : ℕ) (q : Place) → names (own_change out) p q ≡ making (replied out).number dictionary [] callback s p q)
    (λ e p q. same_names s (hold (s.cached o) s) p (refl, refl, refl) q ∙ again_named class o callback dictionary s i e p q)
    (λ e p q. same_names b (new_reference class o callback dictionary h) p (refl, refl, refl) q ∙ born_named row _ dictionary [] callback h (i.frame.fresh s.next (inr (omega arith))) refl p q)
call_named (Upgrade w) s i sh g =
    cond_both (answering s w) (Answers (s.shape w).referent [] (hold (s.shape w).referent s)) (Answers 0 [] s) (λ out. (p : ℕ) (q : Place) → names (own_change out) p q ≡ names s p q)
    (λ e p q. same_names s (hold (s.shape w).referent s) p (refl, refl, refl) q)
    (λ e p q. refl)
call_named (ListWeak o lent) s i sh g = λ p q. same_names s (hold_all (standing s o) s) p (hold_all_same (standing s o) s p) q
call_named (Intern o) s i sh g = λ p q. same_names s (own_change (outcome (Intern o) s)) p (refl, refl, refl) q
call_named (Attend host) s i sh g = λ p q. same_names s (own_change (outcome (Attend host) s)) p (refl, refl, refl) q
call_named (SetDel class del) s i sh g = λ p q. same_names s (own_change (outcome (SetDel class del) s)) p (refl, refl, refl) q
call_named (HandBack turn lent) s i sh g = λ p q. same_names s (newest_back s.stack s) p (newest_same s.stack s p) q
