-- Each step of a death keeps the invariant.
use Rattle.std.proofs.Common.{◌≡◌, ℕ, zero, suc, ◌+◌, ◌-◌, ◌<◌, ◌≤◌, true, false, cond, not, ◌&&◌, eqb, ◌⊎◌, List, [], ◌∷◌, ◌++◌, length, get_or, take, set, sym, refl, ap, ◌∙◌, subst, inl, inr, arith, length-append}
use Rattle.std.proofs.lemmas.Bool.{eqb-false, ne_eqb, cases_eq, and_parts, not-true, cond_both}
use Rattle.std.proofs.lemmas.List.{take_all}
use Rattle.definition.specs.Base.{put, bit, count, without, sum_to}
use Rattle.definition.specs.State.{Phase, Absent, Resting, DelOpen, Taking, Draining, Calling, Freeing, Leaving, State, is_unfreed, is_open}
use Rattle.definition.specs.Changes.{with_phase, with_places, with_callback, with_weak, with_held, with_giving}
use Rattle.definition.specs.Death.{more, spent, opened, uncached, takes, drains, unlisted, leaving, give_up, advance}
use Rattle.definition.proofs.Sums.{same, point, sum_point, term_le_sum, count_cons, count_append, count_here, count_other, count_set}
use Rattle.definition.proofs.Advance.{is_dying, Top, Rounds, advance_cases}
use Rattle.definition.proofs.Work.{Tidy}
use Rattle.law.proofs.Invariant.{Falling, filled, emptied, Left, Good, placed_by, lent_by, placed, lent, GoodAt, unfreed_sum, Inv, between, live_born, alive, phase_frame, not_spent, give_up_inv}
use Rattle.law.proofs.Moves.{places_inv, callback_inv, held_inv, giving_inv, phase_inv, weak_inv, cached_inv, more_inv, no_callback_inv}

-- ---- what is on the stack

pub tidy : (s : State) (owed : List ℕ) → Inv s owed → Tidy s
tidy s owed i = record {
  below = λ x u. (between s owed i x (λ q. let z : ◌≡◌ {A = ℕ} 0 1 = cc in omega arith)).1;
  dying = λ x c. dies x c;
  once = λ x. once x;
}
  where
    stacked : {p : Phase} {s m h q l w e r g k : ℕ} → Good p s m h q l w e r g k → 0 < k → is_dying p ≡ true
    stacked {p = Absent} i c = absurd (omega arith)
    stacked {p = Resting} i c = absurd (omega arith)
    stacked {p = (DelOpen d)} i c = refl
    stacked {p = Taking} i c = refl
    stacked {p = Draining} i c = refl
    stacked {p = (Calling d x)} i c = refl
    stacked {p = (Freeing n)} i c = refl
    stacked {p = Leaving} i c = refl

    one : {p : Phase} {s m h q l w e r g k : ℕ} → Good p s m h q l w e r g k → k ≤ 1
    one {p = Absent} i = omega arith
    one {p = Resting} i = omega arith
    one {p = (DelOpen d)} i = omega arith
    one {p = Taking} i = omega arith
    one {p = Draining} i = omega arith
    one {p = (Calling d x)} i = omega arith
    one {p = (Freeing n)} i = omega arith
    one {p = Leaving} i = omega arith

    dies : (x : ℕ) → 0 < count x s.stack → is_dying (s.phase x) ≡ true
    dies zero c = absurd (omega (arith, i.zeroth))
    dies (suc x) c = stacked (i.good (suc x) (omega arith)) c

    once : (x : ℕ) → count x s.stack ≤ 1
    once zero = omega (arith, i.zeroth)
    once (suc x) = one (i.good (suc x) (omega arith))

pub on_top : (s : State) (owed : List ℕ) → Inv s owed → (o : ℕ) (below : List ℕ) → s.stack ≡ o ∷ below → (0 < o) × (o < s.next)
on_top s owed i o below st = between s owed i o (λ q. let d = (tidy s owed i).dying o (rw st (count_here o below)) in let z : ◌≡◌ {A = ℕ} 0 1 = cc in omega arith)

-- ---- one object's numbers

shorter : {p : Phase} {s m h q l w e r g k : ℕ} (g' : ℕ) → Good p s m h q l w e r g k → g' < g → Left p (s + m) r g'
shorter {p = Absent} g' i z = absurd (omega arith)
shorter {p = Resting} g' i z = absurd (omega arith)
shorter {p = (DelOpen d)} g' i z = absurd (omega arith)
shorter {p = Taking} g' i z = absurd (omega arith)
shorter {p = Draining} g' i z = omega arith
shorter {p = (Calling d x)} g' i z = omega arith
shorter {p = (Freeing n)} g' i z = absurd (omega arith)
shorter {p = Leaving} g' i z = absurd (omega arith)

no_callback : (p : Phase) (l : List ℕ) (c : ℕ) → emptied p l c ≡ 0 → emptied p l 0 ≡ 0
no_callback Absent l c e = omega arith
no_callback Resting l c e = refl
no_callback (DelOpen d) l c e = refl
no_callback Taking l c e = refl
no_callback Draining l c e = refl
no_callback (Calling d w) l c e = refl
no_callback (Freeing k) l c e = e
no_callback Leaving l c e = omega arith

pub no_names : (l : List ℕ) → length l ≡ 0 → l ≡ []
no_names [] e = refl
no_names (x ∷ xs) e = absurd (omega arith)

-- ---- emptied places

filled_cons : (x : ℕ) (xs : List ℕ) → filled (x ∷ xs) ≡ filled (x ∷ []) + filled xs
filled_cons x xs = cond_both (eqb x 0) (filled xs) (suc (filled xs)) (λ n. n ≡ cond (eqb x 0) 0 1 + filled xs) (λ e. rw e (omega arith)) (λ e. rw e (omega arith))

filled_before : (l : List ℕ) (k : ℕ) → filled (take k (set l k 0)) ≡ filled (take k l)
filled_before [] k = refl
filled_before (x ∷ xs) zero = refl
filled_before (x ∷ xs) (suc k) = omega (arith, filled_cons x (take k (set xs k 0)), filled_cons x (take k xs), filled_before xs k)

filled_upto : (l : List ℕ) (k : ℕ) → filled (take (suc k) (set l k 0)) ≡ filled (take k l)
filled_upto [] zero = refl
filled_upto [] (suc k) = refl
filled_upto (x ∷ xs) zero = refl
filled_upto (x ∷ xs) (suc k) = omega (arith, filled_cons x (take (suc k) (set xs k 0)), filled_cons x (take k xs), filled_upto xs k)

pub filled_none : (l : List ℕ) → filled l ≡ 0 → (y : ℕ) → 0 < y → count y l ≡ 0
filled_none [] e y py = refl
filled_none (x ∷ xs) e y py =
    let r = filled_none xs (omega (arith, filled_cons x xs)) y py in
    go (cases_eq x 0) r
  where
    go : (x ≡ 0) ⊎ (x ≡ 0 → ⊥) → count y xs ≡ 0 → count y (x ∷ xs) ≡ 0
    go (inl q) r = rw (ne_eqb y x (λ z. omega arith)) r
    go (inr ne) r = let z : filled (x ∷ []) ≡ 1 = rw (ne_eqb x 0 ne) in absurd (omega (arith, filled_cons x xs))

-- ---- falling lists

pub falling_more : (n m : ℕ) (l : List ℕ) → n ≤ m → Falling n l → Falling m l
unfolding Falling
falling_more n m [] h f = tt
falling_more n m (w ∷ ws) h f = (omega (arith, f.0), f.1)

pub falling_tail : (n w : ℕ) (ws : List ℕ) → Falling n (w ∷ ws) → Falling n ws
unfolding Falling
falling_tail n w ws f = falling_more w n ws (omega (arith, f.0)) f.1

pub falling_without : (n x : ℕ) (l : List ℕ) → Falling n l → Falling n (without x l)
unfolding Falling
falling_without n x [] f = tt
falling_without n x (w ∷ ws) f = cond_both (eqb w x) ws (w ∷ without x ws) (Falling n) (λ e. falling_tail n w ws f) (λ e. (f.0, falling_without w x ws f.1))

-- ---- the steps

-- a reference that a round holds is counted
pub held_counted : (s : State) (owed : List ℕ) → Inv s owed → (o : ℕ) → o < s.next → (w : ℕ) (ws : List ℕ) → s.held o ≡ w ∷ ws → 0 < w → 0 < s.strong w
unfolding lent
held_counted s owed i o lo w ws hd pw =
    let n : 0 < count w (s.held o) = rw hd (count_here w ws) in
    omega (arith, i.good w pw, term_le_sum s.next o (lent_by s w) lo)

module _ (s : State) (i : Inv s []) (o : ℕ) (below : List ℕ) (top : Top s o below) where
  po : 0 < o
  po = (on_top s [] i o below top.stack).0

  lo : o < s.next
  lo = (on_top s [] i o below top.stack).1

  gives_inv : (x : ℕ) (xs : List ℕ) → s.giving o ≡ x ∷ xs → Inv (give_up x (with_giving o xs s)) []
  gives_inv x xs gv =
      give_up_inv (with_giving o xs s) [] x
      (giving_inv s [] i o po lo xs (x ∷ []) (λ y py. rw gv (omega (arith, count_cons y x xs))) (shorter (length xs) (i.good o po) (rw gv (omega arith))))

  completes_inv : s.phase o ≡ Taking → Inv (with_phase o Draining s) []
  completes_inv ph = phase_inv s [] i o po lo Draining s.turns (let q = rw ph at (i.good o po) in omega arith) (rw ph refl) (rw ph refl)

  clears_inv : Rounds s o → s.giving o ≡ [] → s.held o ≡ [] → Inv (with_phase o (Freeing 0) s) []
  clears_inv (inl ph) gv hd = phase_inv s [] i o po lo (Freeing 0) s.turns (let q = rw (ph, hd, gv) at (i.good o po) in rw (hd, gv) (omega arith)) (rw ph refl) (rw ph refl)
  clears_inv (inr d) gv hd = phase_inv s [] i o po lo (Freeing 0) s.turns (let q = rw (d.0, hd, gv) at (i.good o po) in rw (hd, gv) (omega arith)) (rw d.0 refl) (rw d.0 refl)

  -- a round takes a reference off the list
  takes_inv : s.giving o ≡ [] → Rounds s o → (w : ℕ) (rest : List ℕ) → s.weak o ≡ w ∷ rest → length (s.held o) < 16 → Inv (takes w rest o s) []
  unfolding placed lent
  takes_inv gv r w rest wk few =
      let i₁ = weak_inv (uncached w o s) [] (cached_inv s [] i o (cond (eqb (s.cached o) w) 0 (s.cached o))) o rest (falling_tail s.next w rest (rw wk at (i.lists o))) in
      let off = with_weak o rest (uncached w o s) in
      let i₂ : Inv (with_phase o Taking off) [] = phase_inv off [] i₁ o po lo Taking s.turns (good r) (unfreed r) (turn r) in
      cond_both (spent s w) (with_phase o Taking off) (with_held o (s.held o ++ (w ∷ [])) (more w (with_phase o Taking off))) (λ t. Inv t [])
      (λ e. i₂)
      (λ e.
      let i₃ = more_inv (with_phase o Taking off) [] i₂ w (omega arith) (not_spent (s.strong w) (s.interned w) e) in
      let q = rw (same o) at (i₃.good o po).left in
      held_inv (more w (with_phase o Taking off)) (w ∷ []) i₃ o po lo (s.held o ++ (w ∷ [])) [] (λ y py. omega (arith, count_append y (s.held o) (w ∷ [])))
      (rw (same o) (q.0, omega (arith, length-append (s.held o) (w ∷ [])), q.2)))
    where
      good : Rounds s o → Good Taking (s.strong o) (bit (s.interned o)) (s.handles o) (placed s o) (lent s o) 0 0 (length (s.held o)) (length (s.giving o)) (count o s.stack)
      good (inl ph) = rw ph at (i.good o po)
      good (inr d) = let q = rw (d.0, gv) at (i.good o po) in rw gv (omega arith)

      unfreed : Rounds s o → is_unfreed (s.phase o) ≡ true
      unfreed (inl ph) = rw ph refl
      unfreed (inr d) = rw d.0 refl

      turn : Rounds s o → s.turns + bit (is_open (s.phase o)) ≡ s.turns + 0
      turn (inl ph) = rw ph refl
      turn (inr d) = rw d.0 refl

  module _ (gv : s.giving o ≡ []) (ph : s.phase o ≡ Draining) (w : ℕ) (ws : List ℕ) (hd : s.held o ≡ w ∷ ws) where
    -- the callback of w is taken out
    out_inv : (w ≡ 0) ⊎ (w ≡ 0 → ⊥) → Inv (with_callback w 0 s) (s.callback w ∷ [])
    out_inv (inl q) = subst (λ v. Inv (with_callback v 0 s) (s.callback v ∷ [])) (sym q) (no_callback_inv s [] i)
    out_inv (inr ne) =
        let pw : 0 < w = omega arith in
        let b = between s [] i w (live_born (s.phase w) (alive (i.good w pw) (omega (arith, held_counted s [] i o lo w ws hd pw)))) in
        callback_inv s [] i w pw b.1 (no_callback (s.phase w) (s.places w) (s.callback w) (i.good w pw).gone)

    -- in a turn
    called_inv : (s.attends && not (eqb (s.callback w) 0)) ≡ true → Inv (opened (with_phase o (Calling (s.callback w) w) (with_giving o (w ∷ s.callback w ∷ w ∷ []) (more w (with_held o ws (with_callback w 0 s)))))) []
    called_inv e =
        let c = s.callback w in
        let some : eqb c 0 ≡ false = not-true (eqb c 0) (and_parts s.attends (not (eqb c 0)) e).1 in
        let pw : 0 < w = positive some (cases_eq w 0) in
        let out = with_callback w 0 s in
        let i₁ = out_inv (inr (λ q. omega arith)) in
        let i₂ = more_inv out (c ∷ []) i₁ w (omega arith) (omega (arith, held_counted s [] i o lo w ws hd pw)) in
        let q₂ = rw (ph, hd, gv) at (i₂.good o po).left in
        let i₃ = held_inv (more w out) (w ∷ c ∷ []) i₂ o po lo ws (w ∷ w ∷ c ∷ []) (λ y py. rw hd (omega (arith, count_cons y w ws, count_cons y w (w ∷ c ∷ []), count_cons y w (c ∷ [])))) (rw (ph, gv) (q₂.0, omega (arith, q₂.1), omega arith)) in
        let q₃ = rw (ph, gv, same o) at (i₃.good o po).left in
        let i₄ = giving_inv (with_held o ws (more w out)) (w ∷ w ∷ c ∷ []) i₃ o po lo (w ∷ c ∷ w ∷ []) []
        (λ y py. rw gv (omega (arith, count_cons y w (c ∷ w ∷ []), count_cons y c (w ∷ []), count_cons y w (w ∷ c ∷ []), count_cons y w (c ∷ [])))) (rw (ph, same o) (q₃.0, q₃.1, omega arith)) in
        phase_inv (with_giving o (w ∷ c ∷ w ∷ []) (with_held o ws (more w out))) [] i₄ o po lo (Calling c w) (suc s.turns) (let q = rw ph at (i₄.good o po) in omega arith) (rw ph refl) (rw ph (omega arith))
      where
        positive : eqb (s.callback w) 0 ≡ false → (w ≡ 0) ⊎ (w ≡ 0 → ⊥) → 0 < w
        positive some (inl q) = absurd (eqb-false (s.callback w) 0 some (ap s.callback q ∙ omega (arith, i.zeroth)))
        positive some (inr ne) = omega arith

    -- without a turn
    plain_inv : Inv (with_giving o (s.callback w ∷ w ∷ []) (with_held o ws (with_callback w 0 s))) []
    plain_inv =
        let c = s.callback w in
        let out = with_callback w 0 s in
        let i₁ = out_inv (cases_eq w 0) in
        let q₁ = rw (ph, hd, gv) at (i₁.good o po).left in
        let i₂ = held_inv out (c ∷ []) i₁ o po lo ws (w ∷ c ∷ []) (λ y py. rw hd (omega (arith, count_cons y w ws, count_cons y w (c ∷ [])))) (rw (ph, gv) (q₁.0, omega (arith, q₁.1), omega arith)) in
        let q₂ = rw (ph, gv, same o) at (i₂.good o po).left in
        giving_inv (with_held o ws out) (w ∷ c ∷ []) i₂ o po lo (c ∷ w ∷ []) [] (λ y py. rw gv (omega (arith, count_cons y c (w ∷ []), count_cons y w (c ∷ [])))) (rw (ph, same o) (q₂.0, q₂.1, omega arith))

    drains_inv : Inv (drains w ws o s) []
    drains_inv =
        cond_both (s.attends && not (eqb (s.callback w) 0))
        (opened (with_phase o (Calling (s.callback w) w) (with_giving o (w ∷ s.callback w ∷ w ∷ []) (more w (with_held o ws (with_callback w 0 s))))))
        (with_giving o (s.callback w ∷ w ∷ []) (with_held o ws (with_callback w 0 s))) (λ t. Inv t []) called_inv (λ e. plain_inv)

  -- a place is emptied, and its content given up
  empties_inv : s.giving o ≡ [] → (k : ℕ) → s.phase o ≡ Freeing k → k < length (s.places o) → Inv (give_up (get_or (s.places o) k 0) (with_phase o (Freeing (suc k)) (with_places o (set (s.places o) k 0) s))) []
  empties_inv gv k ph h =
      let x = get_or (s.places o) k 0 in
      let t = with_places o (set (s.places o) k 0) s in
      let gone : filled (take k (s.places o)) ≡ 0 = rw ph at (i.good o po).gone in
      let i₁ = places_inv s [] i o po lo (set (s.places o) k 0) (x ∷ []) (λ y py. omega (arith, count_set y (s.places o) k 0 h, count_other y 0 (λ q. omega arith))) (λ y py. omega (arith, (i.good y py).few)) (rw ph (filled_before (s.places o) k ∙ gone)) in
      let q = rw (ph, same o) at (i₁.good o po) in
      let i₂ : Inv (with_phase o (Freeing (suc k)) t) (x ∷ []) = phase_inv t (x ∷ []) i₁ o po lo (Freeing (suc k)) s.turns (record { counted = q.counted; left = q.left; gone = rw (same o) (filled_upto (s.places o) k ∙ gone); stacked = q.stacked; few = q.few }) (rw ph refl) (rw ph refl) in
      give_up_inv (with_phase o (Freeing (suc k)) t) [] x i₂

  -- a weak reference leaves its list, and its callback is given up
  leaves_inv : s.giving o ≡ [] → (k : ℕ) → s.phase o ≡ Freeing k → length (s.places o) ≤ k → Inv (give_up (s.callback o) (with_phase o Leaving (with_callback o 0 (unlisted o s)))) []
  leaves_inv gv k ph h =
      let r = (s.shape o).referent in
      let u = with_weak r (without o (s.weak r)) s in
      let gone : filled (s.places o) ≡ 0 = rw (ph, take_all k (s.places o) h) at (i.good o po).gone in
      let i₁ = cached_inv u [] (weak_inv s [] i r (without o (s.weak r)) (falling_without s.next o (s.weak r) (i.lists r))) r (cond (eqb (s.cached r) o) 0 (s.cached r)) in
      let i₂ = callback_inv (unlisted o s) [] i₁ o po lo (rw ph (rw (take_all k (s.places o) h) gone)) in
      let q = rw ph at (i₂.good o po) in
      let i₃ = phase_inv (with_callback o 0 (unlisted o s)) (s.callback o ∷ []) i₂ o po lo Leaving s.turns (record { counted = q.counted; left = q.left; gone = rw (same o) (omega (arith, gone)); stacked = q.stacked; few = q.few }) (rw ph refl) (rw ph refl) in
      give_up_inv (with_phase o Leaving (with_callback o 0 (unlisted o s))) [] (s.callback o) i₃

-- the object is freed
gone_good : {p : Phase} {s m h q l w e r g k : ℕ} (k' : ℕ) → p ≡ Leaving → Good p s m h q l w e r g k → k ≡ suc k' → Good Absent 0 0 0 q l w 0 0 0 k'
gone_good k' e i z = let q = rw e at i in omega arith

frees_inv : (s : State) → Inv s [] → (o : ℕ) (below : List ℕ) → s.stack ≡ o ∷ below → s.giving o ≡ [] → s.phase o ≡ Leaving → Inv (leaving o below s) []
unfolding placed lent unfreed_sum Falling
frees_inv s i o below st gv ph =
    let r = on_top s [] i o below st in
    let gone : filled (s.places o) + s.callback o ≡ 0 = rw ph at (i.good o r.0).gone in
    let bare : length (s.held o) ≡ 0 = (rw ph at (i.good o r.0).left).1 in
    let Placed-same = λ (y : ℕ) (py : 0 < y). unplaced y py (omega arith) (omega arith) r.1 in
    let lent_same = λ (y : ℕ). unlent y bare r.1 in
    let off = ne_eqb 0 o (λ q. omega (arith, r.0)) in
    record {
      good =
          point (λ y. 0 < y → GoodAt (leaving o below s) [] y) o
          (λ py. rw (Placed-same o py, lent_same o, same o) (gone_good (count o below) ph (i.good o py) (rw (st, same o))))
          (λ y ne py. rw (Placed-same y py, lent_same y, ne_eqb y o ne) (rw (st, ne_eqb y o ne) at (i.good y py)));
      zeroth = rw off (let z : s.strong 0 + s.handles 0 + bit (s.interned 0) + length (s.places 0) + s.callback 0 + length (s.held 0) + length (s.giving 0) + count 0 (o ∷ below) ≡ 0 = rw st at i.zeroth in rw off at z);
      lists = point (λ y. Falling s.next (put s.weak o [] y)) o (rw (same o) tt) (λ y ne. rw (ne_eqb y o ne) (i.lists y));
      frame = phase_frame s i.frame o Absent (s.unfreed - 1) s.turns r.0 r.1 (rw ph (omega (arith, some r.1))) (rw ph refl) (omega (arith, i.frame.room));
    }
  where
    unplaced : (y : ℕ) → 0 < y → filled (s.places o) ≡ 0 → s.callback o ≡ 0 → o < s.next → sum_to s.next (placed_by (leaving o below s) y) ≡ sum_to s.next (placed_by s y)
    unplaced y py fl cb Below-next =
        let a : placed_by (leaving o below s) y o ≡ 0 = rw (same o) (omega (arith, count_other y 0 (λ q. omega arith))) in
        let b : placed_by s y o ≡ 0 = rw cb (omega (arith, filled_none (s.places o) fl y py, count_other y 0 (λ q. omega arith))) in
        omega (arith, sum_point s.next o (placed_by (leaving o below s) y) (placed_by s y) Below-next (λ k ne. rw (ne_eqb k o ne)))

    unlent : (y : ℕ) → length (s.held o) ≡ 0 → o < s.next → sum_to s.next (lent_by (leaving o below s) y) ≡ sum_to s.next (lent_by s y)
    unlent y bare Below-next =
        let a : lent_by (leaving o below s) y o ≡ 0 = rw (same o) in
        let b : lent_by s y o ≡ 0 = rw (no_names (s.held o) bare, gv) in
        omega (arith, sum_point s.next o (lent_by (leaving o below s) y) (lent_by s y) Below-next (λ k ne. rw (ne_eqb k o ne)))

    some : o < s.next → 0 < s.unfreed
    some Below-next = let u : bit (is_unfreed (s.phase o)) ≡ 1 = rw ph refl in omega (arith, i.frame.unfreed, term_le_sum s.next o (λ p. bit (is_unfreed (s.phase p))) Below-next)

pub advance_inv : (s : State) → Inv s [] → Inv (advance s) []
advance_inv s i = advance_cases s (λ t. Inv t []) (record {
  idle = λ r. i;
  gives = λ o below top x xs gv. gives_inv s i o below top x xs gv;
  takes = λ o below top gv r w rest wk few. takes_inv s i o below top gv r w rest wk few;
  completes = λ o below top gv ph w ws hd. completes_inv s i o below top ph;
  clears = λ o below top gv r hd wk. clears_inv s i o below top r gv hd;
  drains = λ o below top gv ph w ws hd. drains_inv s i o below top gv ph w ws hd;
  empties = λ o below top gv k ph h. empties_inv s i o below top gv k ph h;
  leaves = λ o below top gv k ph h. leaves_inv s i o below top gv k ph h;
  frees = λ o below top gv ph. frees_inv s i o below top.stack gv ph;
})
