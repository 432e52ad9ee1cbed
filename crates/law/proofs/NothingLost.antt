-- Nothing is lost and nothing is kept by mistake.
use Rattle.std.proofs.Common.{◌≡◌, ℕ, zero, suc, ◌+◌, ◌-◌, ◌<◌, ◌≤◌, Bool, true, false, ltb, ◌⊎◌, List, [], ◌∷◌, length, get_or, sym, refl, ap, ◌∙◌, inl, inr, arith}
use Rattle.std.proofs.lemmas.Bool.{ne_eqb, cases_eq, cases_lt, lt-ltb, cond_both}
use Rattle.definition.specs.Base.{bit, count, sum_to}
use Rattle.definition.specs.State.{Phase, Absent, Resting, DelOpen, Taking, Draining, Calling, Freeing, Leaving, State, is_unfreed, is_open}
use Rattle.definition.specs.Death.{waits, rests}
use Rattle.definition.proofs.Sums.{sum_has, term_le_sum, count_here, count_other, count_length}
use Rattle.definition.proofs.Advance.{is_dying}
use Rattle.law.specs.Run.{Exchange}
use Rattle.law.specs.Tallies.{makes, frees, turns_shown, hand_backs}
use Rattle.law.specs.Places.{Place, Dictionary, Slot, Edge, Callback, names}
use Rattle.law.specs.Law.{Holder, handle, mark, place, NothingLostOrKept, Tallied}
use Rattle.law.proofs.Invariant.{Good, placed_by, lent_by, placed, lent, open_sum, Inv}
use Rattle.law.proofs.Steps.{on_top}
use Rattle.law.proofs.HandlesTally.{content_counted}

-- ---- what is held is unfreed

-- what has a reference or a mark
counted_unfreed : {p : Phase} {s m h q l w e r g k : ℕ} → Good p s m h q l w e r g k → 0 < h + q + m → bit (is_unfreed p) ≡ 1
counted_unfreed {p = Absent} i z = absurd (omega arith)
counted_unfreed {p = Resting} i z = refl
counted_unfreed {p = (DelOpen c)} i z = refl
counted_unfreed {p = Taking} i z = refl
counted_unfreed {p = Draining} i z = refl
counted_unfreed {p = (Calling c x)} i z = refl
counted_unfreed {p = (Freeing n)} i z = refl
counted_unfreed {p = Leaving} i z = refl

-- what is unfreed and not dying has a handle, a place that names it, or a mark, where nothing else holds it
resting_held : {p : Phase} {s m h q l w e r g k : ℕ} → Good p s m h q l w e r g k → bit (is_dying p) ≡ 0 → bit (is_unfreed p) ≡ 1 → l + w ≡ 0 → 0 < h + q + m
resting_held {p = Absent} i d u z = absurd (omega arith)
resting_held {p = Resting} i d u z = omega arith
resting_held {p = (DelOpen c)} i d u z = absurd (omega arith)
resting_held {p = Taking} i d u z = absurd (omega arith)
resting_held {p = Draining} i d u z = absurd (omega arith)
resting_held {p = (Calling c x)} i d u z = absurd (omega arith)
resting_held {p = (Freeing n)} i d u z = absurd (omega arith)
resting_held {p = Leaving} i d u z = absurd (omega arith)

-- what is not dying holds nothing
idle_holds : {p : Phase} {s m h q l w e r g k : ℕ} → Good p s m h q l w e r g k → bit (is_dying p) ≡ 0 → r + g ≡ 0
idle_holds {p = Absent} i d = omega arith
idle_holds {p = Resting} i d = omega arith
idle_holds {p = (DelOpen c)} i d = absurd (omega arith)
idle_holds {p = Taking} i d = absurd (omega arith)
idle_holds {p = Draining} i d = absurd (omega arith)
idle_holds {p = (Calling c x)} i d = absurd (omega arith)
idle_holds {p = (Freeing n)} i d = absurd (omega arith)
idle_holds {p = Leaving} i d = absurd (omega arith)

-- a sum of nothings
sum_none : (n : ℕ) (f : ℕ → ℕ) → ((k : ℕ) → f k ≡ 0) → sum_to n f ≡ 0
sum_none zero f e = refl
sum_none (suc n) f e = omega (arith, e n, sum_none n f e)

-- what stands in a list stands somewhere in it
list_found : (l : List ℕ) (o : ℕ) → 0 < count o l → (k : ℕ) × (get_or l k 0 ≡ o)
list_found [] o h = absurd (omega arith)
list_found (x ∷ xs) o h = go (cases_eq o x) (list_found xs o)
  where
    go : (o ≡ x) ⊎ (o ≡ x → ⊥) → (0 < count o xs → (k : ℕ) × (get_or xs k 0 ≡ o)) → (k : ℕ) × (get_or (x ∷ xs) k 0 ≡ o)
    go (inl q) rest = (0, sym q)
    go (inr ne) rest = let r = rest (rw (ne_eqb o x ne) at h) in (suc r.0, r.1)

module _ (s : State) (i : Inv s []) where
  -- a birth that names somebody is that of an unfreed object
  naming_unfreed : (o p : ℕ) → 0 < o → 0 < placed_by s o p → (0 < p) × (p < s.next) × (bit (is_unfreed (s.phase p)) ≡ 1)
  naming_unfreed o p po c = (some, below (cases_lt p s.next), unfreed (s.phase p) refl)
    where
      some : 0 < p
      some = go (cases_eq p 0)
        where
          go : (p ≡ 0) ⊎ (p ≡ 0 → ⊥) → 0 < p
          go (inl q) =
              let z : ◌≡◌ {A = ℕ} (s.callback p) 0 = omega (arith, i.zeroth, ap s.callback q) in
              absurd (omega (arith, i.zeroth, ap (λ (x : ℕ). length (s.places x)) q, count_length o (s.places p), (rw z at c), count_other o 0 (λ e. omega arith)))
          go (inr ne) = omega arith

      empty : s.phase p ≡ Absent → ⊥
      empty e =
          let h : length (s.places p) + s.callback p ≡ 0 = rw e at (i.good p some).gone in
          let z : ◌≡◌ {A = ℕ} (s.callback p) 0 = omega arith in
          omega (arith, count_length o (s.places p), (rw z at c), count_other o 0 (λ e. omega arith))

      below : (p < s.next) ⊎ (s.next ≤ p) → p < s.next
      below (inl h) = h
      below (inr h) = absurd (empty (i.frame.fresh p (inr h)))

      unfreed : (f : Phase) → s.phase p ≡ f → bit (is_unfreed (s.phase p)) ≡ 1
      unfreed Absent e = absurd (empty e)
      unfreed Resting e = rw e refl
      unfreed (DelOpen c) e = rw e refl
      unfreed Taking e = rw e refl
      unfreed Draining e = rw e refl
      unfreed (Calling c w) e = rw e refl
      unfreed (Freeing k) e = rw e refl
      unfreed Leaving e = rw e refl

  -- a place that names somebody is counted
  names_counted : (o p : ℕ) (q : Place) → 0 < o → names s p q ≡ o → 0 < placed_by s o p
  names_counted o p q po e = by q e
    where
      listed : (k : ℕ) → get_or (s.places p) k 0 ≡ o → 0 < placed_by s o p
      listed k e = let c : 0 < count o (s.places p) = rw e at (content_counted (s.places p) k (omega arith)) in omega arith

      by : (q : Place) → names s p q ≡ o → 0 < placed_by s o p
      by Dictionary e = listed 0 e
      by (Slot j) e = cond_both (ltb j (s.shape p).slots) (get_or (s.places p) (suc j) 0) 0 (λ n. n ≡ o → 0 < placed_by s o p) (λ d q. listed (suc j) q) (λ d q. absurd (omega arith)) e
      by (Edge j) e = listed (suc ((s.shape p).slots + j)) e
      by Callback e = rw e (omega (arith, count_here o []))

  -- and what is counted is named by a place
  counted_names : (o p : ℕ) → 0 < placed_by s o p → (q : Place) × (names s p q ≡ o)
  counted_names o p c = go (cases_lt 0 (count o (s.places p)))
    where
      at : (k : ℕ) → get_or (s.places p) k 0 ≡ o → (q : Place) × (names s p q ≡ o)
      at zero e = (Dictionary, e)
      at (suc j) e = side (cases_lt j (s.shape p).slots)
        where
          side : (j < (s.shape p).slots) ⊎ ((s.shape p).slots ≤ j) → (q : Place) × (names s p q ≡ o)
          side (inl h) = (Slot j, rw (lt-ltb j (s.shape p).slots h) e)
          side (inr h) =
              let n : (s.shape p).slots + (j - (s.shape p).slots) ≡ j = omega arith in
              (Edge (j - (s.shape p).slots), ap (λ (m : ℕ). get_or (s.places p) (suc m) 0) n ∙ e)

      last : (o ≡ s.callback p) ⊎ (o ≡ s.callback p → ⊥) → 0 < count o (s.callback p ∷ []) → (q : Place) × (names s p q ≡ o)
      last (inl q) h = (Callback, sym q)
      last (inr ne) h = absurd (omega (arith, count_other o (s.callback p) ne))

      go : (0 < count o (s.places p)) ⊎ (count o (s.places p) ≤ 0) → (q : Place) × (names s p q ≡ o)
      go (inl h) = let r = list_found (s.places p) o h in at r.0 r.1
      go (inr h) = last (cases_eq o (s.callback p)) (omega arith)

  -- ---- while no turn is open and no work is left, nothing is dying

  -- the newest of the dying would wait for a hand back
  nothing_dying : rests s ≡ true → s.turns ≡ 0 → s.stack ≡ []
  unfolding open_sum
  nothing_dying w t = go s.stack refl w
    where
      go : (l : List ℕ) → s.stack ≡ l → waits l s ≡ true → s.stack ≡ []
      go [] st w = st
      go (o ∷ below) st w = absurd (omega (arith, i.frame.turns, term_le_sum s.next o (λ p. bit (is_open (s.phase p))) (on_top s [] i o below st).1, ap bit w))

  -- and who is not on the stack is not dying
  not_dying : s.stack ≡ [] → (x : ℕ) → 0 < x → bit (is_dying (s.phase x)) ≡ 0
  not_dying st x px = omega (arith, (i.good x px).stacked, ap (count x) st)

  -- so nothing is held by a death
  none_lent : s.stack ≡ [] → (o : ℕ) → lent s o ≡ 0
  unfolding lent
  none_lent st o = sum_none s.next (lent_by s o) each
    where
      each : (p : ℕ) → lent_by s o p ≡ 0
      each zero = omega (arith, i.zeroth, count_length o (s.held 0), count_length o (s.giving 0))
      each (suc p) = omega (arith, idle_holds (i.good (suc p) (omega arith)) (not_dying st (suc p) (omega arith)), count_length o (s.held (suc p)), count_length o (s.giving (suc p)))

  -- ---- holders

  module _ (es : List Exchange) (t : Tallied es s) (o : ℕ) (po : 0 < o) where
    -- what is held is unfreed
    held_unfreed : Holder es s o → bit (is_unfreed (s.phase o)) ≡ 1
    unfolding placed
    held_unfreed (handle h) = counted_unfreed (i.good o po) (omega (arith, t.handles o po))
    held_unfreed (mark h) = counted_unfreed (i.good o po) (omega (arith, t.marks o))
    held_unfreed (place p q h e) =
        let c = names_counted o p q po e in
        counted_unfreed (i.good o po) (omega (arith, c, term_le_sum s.next p (placed_by s o) (naming_unfreed o p po c).1))

    -- and what is unfreed at rest is held
    unfreed_held : s.stack ≡ [] → bit (is_unfreed (s.phase o)) ≡ 1 → Holder es s o
    unfolding placed
    unfreed_held st u = go (cases_lt 0 (s.handles o)) (cases_lt 0 (bit (s.interned o)))
      where
        some : 0 < s.handles o + placed s o + bit (s.interned o)
        some = resting_held (i.good o po) (not_dying st o po) u (omega (arith, none_lent st o))

        go : (0 < s.handles o) ⊎ (s.handles o ≤ 0) → (0 < bit (s.interned o)) ⊎ (bit (s.interned o) ≤ 0) → Holder es s o
        go (inl h) m = handle (omega (arith, t.handles o po))
        go (inr h) (inl m) = mark (omega (arith, t.marks o))
        go (inr h) (inr m) =
            let r = sum_has s.next (placed_by s o) (omega (arith, some)) in
            let n = naming_unfreed o r.0 po r.2 in
            let q = counted_names o r.0 r.2 in
            place r.0 q.0 (omega (arith, t.unfreed r.0 n.0, n.2)) q.1

-- of a run that has come to s, where no work is left
pub nothing_lost_or_kept_at : (es : List Exchange) (s : State) → Inv s [] → rests s ≡ true → Tallied es s → NothingLostOrKept es s
nothing_lost_or_kept_at es s i w t =
    record {
      kept = λ o po turns h e. omega (arith, held_unfreed s i es t o po h, t.unfreed o po);
      lost = λ o po turns none. free o po turns none (is_unfreed (s.phase o)) refl;
      held = λ o po h. omega (arith, held_unfreed s i es t o po h, t.unfreed o po, t.once o po);
    }
  where
    free : (o : ℕ) → 0 < o → turns_shown es ≡ hand_backs es → (Holder es s o → ⊥) → (b : Bool) → is_unfreed (s.phase o) ≡ b → makes o es ≡ frees o es
    free o po turns none true u = absurd (none (unfreed_held s i es t o po (nothing_dying s i w (omega (arith, t.turns))) (ap bit u)))
    free o po turns none false u = omega (arith, t.unfreed o po, ap bit u)
