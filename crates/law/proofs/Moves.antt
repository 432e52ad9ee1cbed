-- References go from one holder to another: nobody's count changes.
use Rattle.std.proofs.Common.{◌≡◌, ℕ, zero, suc, ◌+◌, ◌*◌, ◌<◌, ◌≤◌, min, false, eqb, ◌⊎◌, List, [], ◌∷◌, length, refl, ap, inl, inr, arith}
use Rattle.std.proofs.lemmas.Bool.{ne_eqb, cases_eq}
use Rattle.definition.specs.Base.{put, bit, count, sum_to}
use Rattle.definition.specs.State.{Phase, Absent, Resting, DelOpen, Taking, Draining, Calling, Freeing, Leaving, State, is_unfreed, is_open}
use Rattle.definition.specs.Changes.{with_phase, with_places, with_callback, with_weak, with_cached, with_held, with_giving, with_turns}
use Rattle.definition.specs.Death.{more}
use Rattle.definition.proofs.Sums.{same, point, sum_point, sum_le, count_cons, count_other, count_length}
use Rattle.law.proofs.Invariant.{Falling, emptied, Left, Good, placed_by, lent_by, placed, lent, GoodAt, unfreed_sum, Inv, phase_frame, retold}

-- ---- sums at one object

module _ (s : State) (o y : ℕ) (l : o < s.next) where
  pub placed_places : (v : List ℕ) → placed (with_places o v s) y + count y (s.places o) ≡ placed s y + count y v
  unfolding placed
  placed_places v =
      let e : placed_by (with_places o v s) y o ≡ count y v + count y (s.callback o ∷ []) = rw (same o) in
      omega (arith, sum_point s.next o (placed_by (with_places o v s) y) (placed_by s y) l (λ k ne. rw (ne_eqb k o ne)))

  pub placed_callback : (v : ℕ) → placed (with_callback o v s) y + count y (s.callback o ∷ []) ≡ placed s y + count y (v ∷ [])
  unfolding placed
  placed_callback v =
      let e : placed_by (with_callback o v s) y o ≡ count y (s.places o) + count y (v ∷ []) = rw (same o) in
      omega (arith, sum_point s.next o (placed_by (with_callback o v s) y) (placed_by s y) l (λ k ne. rw (ne_eqb k o ne)))

  pub lent_held : (v : List ℕ) → lent (with_held o v s) y + count y (s.held o) ≡ lent s y + count y v
  unfolding lent
  lent_held v =
      let e : lent_by (with_held o v s) y o ≡ count y v + count y (s.giving o) = rw (same o) in
      omega (arith, sum_point s.next o (lent_by (with_held o v s) y) (lent_by s y) l (λ k ne. rw (ne_eqb k o ne)))

  pub lent_giving : (v : List ℕ) → lent (with_giving o v s) y + count y (s.giving o) ≡ lent s y + count y v
  unfolding lent
  lent_giving v =
      let e : lent_by (with_giving o v s) y o ≡ count y (s.held o) + count y v = rw (same o) in
      omega (arith, sum_point s.next o (lent_by (with_giving o v s) y) (lent_by s y) l (λ k ne. rw (ne_eqb k o ne)))

-- ---- moves

module _ (s : State) (owed : List ℕ) (i : Inv s owed) (o : ℕ) (po : 0 < o) (lo : o < s.next) where
  off : eqb 0 o ≡ false
  off = ne_eqb 0 o (λ q. omega arith)

  -- the places of o, and what is being given up
  pub places_inv :
      (v owed' : List ℕ)
      → ((y : ℕ) → 0 < y → count y v + count y owed' ≡ count y (s.places o) + count y owed)
      → ((y : ℕ) → 0 < y → s.strong y ≤ 65535 + lent s y + count y owed')
      → emptied (s.phase o) v (s.callback o) ≡ 0
      → Inv (with_places o v s) owed'
  unfolding lent
  places_inv v owed' c n e =
      record {
        good =
            point (λ y. 0 < y → GoodAt (with_places o v s) owed' y) o
            (λ py. let q = i.good o po in record { counted = omega (arith, q.counted, moved o po); left = q.left; gone = rw (same o) e; stacked = q.stacked; few = n o po })
            (λ y ne py. rw (ne_eqb y o ne) (retold _ _ _ _ (i.good y py) (moved y py) (n y py)));
        zeroth = rw off i.zeroth;
        lists = i.lists;
        frame = i.frame;
      }
    where
      moved : (y : ℕ) → 0 < y → s.handles y + placed (with_places o v s) y + lent s y + count y owed' ≡ s.handles y + placed s y + lent s y + count y owed
      moved y py = omega (arith, placed_places s o y lo v, c y py)

  -- its callback goes to what is being given up
  pub callback_inv : emptied (s.phase o) (s.places o) 0 ≡ 0 → Inv (with_callback o 0 s) (s.callback o ∷ owed)
  unfolding lent
  callback_inv e =
      record {
        good =
            point (λ y. 0 < y → GoodAt (with_callback o 0 s) (s.callback o ∷ owed) y) o
            (λ py. let q = i.good o po in record { counted = omega (arith, q.counted, moved o po); left = q.left; gone = rw (same o) e; stacked = q.stacked; few = omega (arith, q.few, count_cons o (s.callback o) owed) })
            (λ y ne py. rw (ne_eqb y o ne) (retold _ _ _ _ (i.good y py) (moved y py) (omega (arith, (i.good y py).few, count_cons y (s.callback o) owed))));
        zeroth = rw off i.zeroth;
        lists = i.lists;
        frame = i.frame;
      }
    where
      moved : (y : ℕ) → 0 < y → s.handles y + placed (with_callback o 0 s) y + lent s y + count y (s.callback o ∷ owed) ≡ s.handles y + placed s y + lent s y + count y owed
      moved y py = omega (arith, placed_callback s o y lo 0, count_cons y (s.callback o) owed, count_other y 0 (λ q. omega arith))

  -- what its round holds, and what is being given up
  pub held_inv :
      (v owed' : List ℕ)
      → ((y : ℕ) → 0 < y → count y v + count y owed' ≡ count y (s.held o) + count y owed)
      → Left (s.phase o) (s.strong o + bit (s.interned o)) (length v) (length (s.giving o))
      → Inv (with_held o v s) owed'
  unfolding placed
  held_inv v owed' c l =
      record {
        good =
            point (λ y. 0 < y → GoodAt (with_held o v s) owed' y) o
            (λ py. let q = i.good o po in record { counted = omega (arith, q.counted, moved o po); left = rw (same o) l; gone = q.gone; stacked = q.stacked; few = omega (arith, q.few, moved o po) })
            (λ y ne py. rw (ne_eqb y o ne) (retold _ _ _ _ (i.good y py) (omega (arith, moved y py)) (omega (arith, (i.good y py).few, moved y py))));
        zeroth = rw off i.zeroth;
        lists = i.lists;
        frame = i.frame;
      }
    where
      moved : (y : ℕ) → 0 < y → lent (with_held o v s) y + count y owed' ≡ lent s y + count y owed
      moved y py = omega (arith, lent_held s o y lo v, c y py)

  -- what its death has to give up, and what is being given up
  pub giving_inv :
      (v owed' : List ℕ)
      → ((y : ℕ) → 0 < y → count y v + count y owed' ≡ count y (s.giving o) + count y owed)
      → Left (s.phase o) (s.strong o + bit (s.interned o)) (length (s.held o)) (length v)
      → Inv (with_giving o v s) owed'
  unfolding placed
  giving_inv v owed' c l =
      record {
        good =
            point (λ y. 0 < y → GoodAt (with_giving o v s) owed' y) o
            (λ py. let q = i.good o po in record { counted = omega (arith, q.counted, moved o po); left = rw (same o) l; gone = q.gone; stacked = q.stacked; few = omega (arith, q.few, moved o po) })
            (λ y ne py. rw (ne_eqb y o ne) (retold _ _ _ _ (i.good y py) (omega (arith, moved y py)) (omega (arith, (i.good y py).few, moved y py))));
        zeroth = rw off i.zeroth;
        lists = i.lists;
        frame = i.frame;
      }
    where
      moved : (y : ℕ) → 0 < y → lent (with_giving o v s) y + count y owed' ≡ lent s y + count y owed
      moved y py = omega (arith, lent_giving s o y lo v, c y py)

  -- its phase, and the number of open turns
  pub phase_inv :
      (p : Phase) (turns : ℕ)
      → Good p (s.strong o) (bit (s.interned o)) (s.handles o) (placed s o) (lent s o) (count o owed) (emptied p (s.places o) (s.callback o)) (length (s.held o)) (length (s.giving o)) (count o s.stack)
      → is_unfreed (s.phase o) ≡ is_unfreed p
      → turns + bit (is_open (s.phase o)) ≡ s.turns + bit (is_open p)
      → Inv (with_turns turns (with_phase o p s)) owed
  unfolding placed lent
  phase_inv p turns q u t =
      record {
        good = point (λ y. 0 < y → GoodAt (with_turns turns (with_phase o p s)) owed y) o (λ py. rw (same o) q) (λ y ne py. rw (ne_eqb y o ne) (i.good y py));
        zeroth = i.zeroth;
        lists = i.lists;
        frame = phase_frame s i.frame o p s.unfreed turns po lo (rw u refl) t i.frame.room;
      }

-- what no count rests on
pub weak_inv : (s : State) (owed : List ℕ) → Inv s owed → (o : ℕ) (l : List ℕ) → Falling s.next l → Inv (with_weak o l s) owed
unfolding placed lent
weak_inv s owed i o l f = record { good = i.good; zeroth = i.zeroth; lists = point (λ y. Falling s.next (put s.weak o l y)) o (rw (same o) f) (λ y ne. rw (ne_eqb y o ne) (i.lists y)); frame = i.frame }

pub cached_inv : (s : State) (owed : List ℕ) → Inv s owed → (o w : ℕ) → Inv (with_cached o w s) owed
unfolding placed lent
cached_inv s owed i o w = record { good = i.good; zeroth = i.zeroth; lists = i.lists; frame = i.frame }

-- ---- counts stay small

few_held : {p : Phase} {s m h q l w e r g k : ℕ} → Good p s m h q l w e r g k → r + g ≤ 19 * bit (is_unfreed p)
few_held {p = Absent} i = omega arith
few_held {p = Resting} i = omega arith
few_held {p = (DelOpen c)} i = omega arith
few_held {p = Taking} i = omega arith
few_held {p = Draining} i = omega arith
few_held {p = (Calling c x)} i = omega arith
few_held {p = (Freeing n)} i = omega arith
few_held {p = Leaving} i = omega arith

sum_times : (n k : ℕ) (f : ℕ → ℕ) → sum_to n (λ p. 19 * f p) ≡ 19 * sum_to n f
sum_times zero k f = refl
sum_times (suc n) k f = omega (arith, sum_times n k f)

pub lent_small : (s : State) (owed : List ℕ) → Inv s owed → (x : ℕ) → lent s x ≤ 77824
unfolding lent unfreed_sum
lent_small s owed i x =
    let f = i.frame in
    let u : sum_to s.next (lent_by s x) ≤ sum_to s.next (λ p. 19 * bit (is_unfreed (s.phase p))) = sum_le s.next (lent_by s x) (λ p. 19 * bit (is_unfreed (s.phase p))) each in
    omega (arith, sum_times s.next 0 (λ p. bit (is_unfreed (s.phase p))), f.unfreed, f.room, f.small)
  where
    each : (p : ℕ) → lent_by s x p ≤ 19 * bit (is_unfreed (s.phase p))
    each zero = omega (arith, i.zeroth, count_length x (s.held 0), count_length x (s.giving 0))
    each (suc p) = omega (arith, few_held (i.good (suc p) (omega arith)), count_length x (s.held (suc p)), count_length x (s.giving (suc p)))

-- ---- one reference more, for a round or a turn

gains : {p : Phase} {s m h q l w e r g k : ℕ} → Good p s m h q l w e r g k → 0 < s + m → Good p (s + 1) m h q l (suc w) e r g k
gains {p = Absent} i z = absurd (omega arith)
gains {p = Resting} i z = omega arith
gains {p = (DelOpen c)} i z = omega arith
gains {p = Taking} i z = absurd (omega arith)
gains {p = Draining} i z = absurd (omega arith)
gains {p = (Calling c x)} i z = absurd (omega arith)
gains {p = (Freeing n)} i z = absurd (omega arith)
gains {p = Leaving} i z = absurd (omega arith)

pub more_inv : (s : State) (owed : List ℕ) → Inv s owed → (w : ℕ) → length owed ≤ 4 → 0 < s.strong w + bit (s.interned w) → Inv (more w s) (w ∷ owed)
unfolding placed lent
more_inv s owed i w few c =
    let pw : 0 < w = positive (cases_eq w 0) in
    let wide : s.strong w ≤ 65535 + lent s w + count w owed = (i.good w pw).few in
    let e : min (s.strong w + 1) 4294967295 ≡ s.strong w + 1 = omega (arith, wide, lent_small s owed i w, count_length w owed) in
    record {
      good = point (λ y. 0 < y → GoodAt (more w s) (w ∷ owed) y) w (λ py. rw (same w, e) (gains (i.good w pw) c)) (λ y ne py. rw (ne_eqb y w ne) (i.good y py));
      zeroth = rw (ne_eqb 0 w (λ q. omega arith)) i.zeroth;
      lists = i.lists;
      frame = i.frame;
    }
  where
    positive : (w ≡ 0) ⊎ (w ≡ 0 → ⊥) → 0 < w
    positive (inl q) = absurd (omega (arith, i.zeroth, ap s.strong q, ap (λ (n : ℕ). bit (s.interned n)) q))
    positive (inr ne) = omega arith

-- 0 has no callback to lose
pub no_callback_inv : (s : State) (owed : List ℕ) → Inv s owed → Inv (with_callback 0 0 s) (s.callback 0 ∷ owed)
unfolding lent
no_callback_inv s owed i =
    record {
      good = λ y py. rw (ne_eqb y 0 (λ q. omega arith)) (retold _ _ _ _ (i.good y py) (moved y py) (omega (arith, (i.good y py).few, count_cons y (s.callback 0) owed)));
      zeroth = omega (arith, i.zeroth);
      lists = i.lists;
      frame = i.frame;
    }
  where
    moved : (y : ℕ) → 0 < y → s.handles y + placed (with_callback 0 0 s) y + lent s y + count y (s.callback 0 ∷ owed) ≡ s.handles y + placed s y + lent s y + count y owed
    moved y py = omega (arith, placed_callback s 0 y i.frame.first 0, count_cons y (s.callback 0) owed, count_other y 0 (λ q. omega arith))
