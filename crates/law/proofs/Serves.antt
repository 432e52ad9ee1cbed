-- What the steps of rounds, leavings, frees and births do to weak references.
use Rattle.std.proofs.Common.{◌≡◌, ℕ, ◌<◌, ◌≤◌, true, ◌⊎◌, List, [], ◌∷◌, ◌++◌, sym, refl, ap, ◌∙◌, inl, inr, arith, append_assoc}
use Rattle.std.proofs.lemmas.Bool.{ne_eqb, cases_eq, cases_lt, cond_both}
use Rattle.definition.specs.Base.{put, count}
use Rattle.definition.specs.State.{Taking, Calling, State}
use Rattle.definition.specs.Changes.{with_phase, with_weak, with_held}
use Rattle.definition.specs.Death.{more, spent, uncached, takes}
use Rattle.definition.proofs.Sums.{same, point, count_cons, count_append, count_here}
use Rattle.definition.proofs.Advance.{Rounds}
use Rattle.law.proofs.Invariant.{Falling, Inv, now_spent, between, live_born, live_counted}
use Rattle.law.proofs.Stages.{stage, stage_live, phase_older, older_ages}
use Rattle.law.proofs.Moved.{falling_drop, same_as, Unlisted, stays, taken, passed, Begins, Moved}

-- ---- counts

-- one more in front
pub count_more : (x y : ℕ) (l : List ℕ) → 0 < count x l → 0 < count x (y ∷ l)
count_more x y l h = omega (arith, count_cons x y l)

-- what is not the first is behind it
pub count_rest : (x y : ℕ) (l : List ℕ) → (x ≡ y → ⊥) → 0 < count x (y ∷ l) → 0 < count x l
count_rest x y l ne h = rw (ne_eqb x y ne) at h

-- what is spent is not live
pub spent_not_live : (s : State) → Inv s [] → (w : ℕ) → spent s w ≡ true → stage (s.phase w) ≡ 1 → ⊥
spent_not_live s i w sp e =
    let l = stage_live (s.phase w) (omega arith) in
    let q = now_spent (s.strong w) (s.interned w) sp in
    omega (arith, live_counted (i.good w (between s [] i w (live_born (s.phase w) l)).0) l)

-- ---- a round takes a reference

module _ (s : State) (i : Inv s []) (o w : ℕ) (rest : List ℕ) (r : Rounds s o) (wk : s.weak o ≡ w ∷ rest) where
  -- o is in its second stage
  low : stage (s.phase o) ≡ 2
  low = by r
    where
      by : Rounds s o → stage (s.phase o) ≡ 2
      by (inl ph) = rw ph refl
      by (inr d) = rw d.0 refl

  -- and its round takes
  begins : Rounds s o → Begins s o
  begins (inl ph) = inl ph
  begins (inr d) = inr d.1

  -- it is passed over
  abbrev off : State
  off = with_phase o Taking (with_weak o rest (uncached w o s))

  -- it is held
  abbrev on : State
  on = with_held o (s.held o ++ (w ∷ [])) (more w off)

  -- nobody goes back
  older : (y : ℕ) → stage (s.phase y) ≤ stage (put s.phase o Taking y)
  older = phase_older s o Taking (omega (arith, low))

  -- o stays where it is
  calls : (y c v : ℕ) → put s.phase o Taking y ≡ Calling c v → s.phase y ≡ Calling c v
  calls = point (λ y. (c v : ℕ) → put s.phase o Taking y ≡ Calling c v → s.phase y ≡ Calling c v) o (λ c v e. let e' : Taking ≡ Calling c v = rw (same o) at e in let z : ◌≡◌ {A = ℕ} 0 1 = cc in absurd (omega arith)) (λ y ne c v e. rw (ne_eqb y o ne) at e)

  -- no list has more
  listed : (y v : ℕ) → 0 < count v (put s.weak o rest y) → 0 < count v (s.weak y)
  listed = point (λ y. (v : ℕ) → 0 < count v (put s.weak o rest y) → 0 < count v (s.weak y)) o (λ v h. rw wk (count_more v w rest (rw (same o) at h))) (λ y ne v h. rw (ne_eqb y o ne) at h)

  -- all stages stay
  stages : (y : ℕ) → stage (put s.phase o Taking y) ≡ stage (s.phase y)
  stages = point (λ y. stage (put s.phase o Taking y) ≡ stage (s.phase y)) o (rw (same o) (omega (arith, low))) (λ y ne. rw (ne_eqb y o ne) refl)

  -- it is passed over
  off_moved : spent s w ≡ true → Moved s off
  off_moved sp = record {
    ages = older_ages s off refl older;
    turned = λ v. same_as refl refl;
    calls = λ y c v e. inl (calls y c v e);
    listed = λ y v h. inl (listed y v h);
    unlisted = point (λ y. (v : ℕ) → 0 < count v (s.weak y) → Unlisted s off y v) o (λ v h. gone v (cases_eq v w) (rw wk at h)) (λ y ne v h. stays (rw (ne_eqb y o ne) h));
    held = λ y v h. inl h;
    unheld = λ y v h. inl h;
    falls = point (λ y. Falling s.next (s.held y ++ s.weak y) → Falling s.next (s.held y ++ put s.weak o rest y)) o (λ f. rw (same o) (falling_drop s.next w (s.held o) rest (rw wk at f))) (λ y ne f. rw (ne_eqb y o ne) f);
    bare = λ y h k. inl (omega (arith, stages y), omega (arith, stages y));
    leaves = λ v h. inl (omega (arith, stages v));
    frees = λ y e. omega (arith, stages y);
  }
    where
      gone : (v : ℕ) → (v ≡ w) ⊎ (v ≡ w → ⊥) → 0 < count v (w ∷ rest) → Unlisted s off o v
      gone v (inl q) h = passed (λ e. spent_not_live s i w sp (ap (λ (x : ℕ). stage (s.phase x)) (sym q) ∙ e)) (inl (rw (same o) (omega arith)))
      gone v (inr ne) h = stays (rw (same o) (count_rest v w rest ne h))

  -- it is held
  on_moved : Moved s on
  on_moved = record {
    ages = older_ages s on refl older;
    turned = λ v. same_as refl refl;
    calls = λ y c v e. inl (calls y c v e);
    listed = λ y v h. inl (listed y v h);
    unlisted = point (λ y. (v : ℕ) → 0 < count v (s.weak y) → Unlisted s on y v) o (λ v h. gone v (cases_eq v w) (rw wk at h)) (λ y ne v h. stays (rw (ne_eqb y o ne) h));
    held = point (λ y. (v : ℕ) → 0 < count v (put s.held o (s.held o ++ (w ∷ [])) y) → (0 < count v (s.held y)) ⊎ ((0 < count v (s.weak y)) × Begins s y)) o (λ v h. from v (rw (same o) at h) (cases_lt 0 (count v (s.held o)))) (λ y ne v h. inl (rw (ne_eqb y o ne) at h));
    unheld = point (λ y. (v : ℕ) → 0 < count v (s.held y) → (0 < count v (put s.held o (s.held o ++ (w ∷ [])) y)) ⊎ ((s.callback v ≡ 0) ⊎ (stage (put s.phase o Taking y) ≡ 5))) o (λ v h. inl (rw (same o) (omega (arith, count_append v (s.held o) (w ∷ []))))) (λ y ne v h. inl (rw (ne_eqb y o ne) h));
    falls = point (λ y. Falling s.next (s.held y ++ s.weak y) → Falling s.next (put s.held o (s.held o ++ (w ∷ [])) y ++ put s.weak o rest y)) o (λ f. rw (same o, append_assoc (s.held o) (w ∷ []) rest) (rw wk at f)) (λ y ne f. rw (ne_eqb y o ne) f);
    bare = λ y h k. inl (omega (arith, stages y), omega (arith, stages y));
    leaves = λ v h. inl (omega (arith, stages v));
    frees = λ y e. omega (arith, stages y);
  }
    where
      gone : (v : ℕ) → (v ≡ w) ⊎ (v ≡ w → ⊥) → 0 < count v (w ∷ rest) → Unlisted s on o v
      gone v (inl q) h = taken (rw (same o) (omega (arith, count_append v (s.held o) (w ∷ []), ap (λ (x : ℕ). count x (w ∷ [])) q, count_here w [])))
      gone v (inr ne) h = stays (rw (same o) (count_rest v w rest ne h))

      from : (v : ℕ) → 0 < count v (s.held o ++ (w ∷ [])) → (0 < count v (s.held o)) ⊎ (count v (s.held o) ≤ 0) → (0 < count v (s.held o)) ⊎ ((0 < count v (s.weak o)) × Begins s o)
      from v h (inl k) = inl k
      from v h (inr k) = inr (rw wk (omega (arith, count_append v (s.held o) (w ∷ []), count_cons v w rest)), begins r)

  -- both ways
  pub takes_moved : Moved s (takes w rest o s)
  takes_moved = cond_both (spent s w) off on (Moved s) off_moved (λ e. on_moved)
