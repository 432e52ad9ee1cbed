-- What a leaving, births, and all steps of a run do to weak references.
use Rattle.std.proofs.Common.{◌≡◌, ℕ, ◌<◌, ◌≤◌, eqb, ◌⊎◌, List, [], ◌∷◌, ◌++◌, sym, refl, ap, ◌∙◌, subst, inl, inr, arith}
use Rattle.std.proofs.lemmas.Bool.{ne_eqb, eqb-true, eq-eqb, cases_eq, cond_both}
use Rattle.definition.specs.Base.{count, without}
use Rattle.definition.specs.State.{Calling, Freeing, Leaving, Shape, State}
use Rattle.definition.specs.Changes.{with_phase, with_callback}
use Rattle.definition.specs.Death.{unlisted}
use Rattle.definition.proofs.Sums.{same, point, count_cons}
use Rattle.law.proofs.Invariant.{Falling}
use Rattle.law.proofs.Stages.{stage, phase_older, older_ages}
use Rattle.law.proofs.Moved.{falling_left, Turned, same_as, own, Unlisted, stays, passed, Moved, Same}

-- ---- a list without one of it

-- none stands more often
without_less : (v w : ℕ) (l : List ℕ) → count v (without w l) ≤ count v l
without_less v w [] = omega arith
without_less v w (x ∷ l) = cond_both (eqb x w) l (x ∷ without w l) (λ (k : List ℕ). count v k ≤ count v (x ∷ l)) (λ e. omega (arith, count_cons v x l)) (λ e. omega (arith, count_cons v x l, count_cons v x (without w l), without_less v w l))

-- all others stand as often
without_keeps : (v w : ℕ) (l : List ℕ) → (v ≡ w → ⊥) → count v l ≤ count v (without w l)
without_keeps v w [] ne = omega arith
without_keeps v w (x ∷ l) ne =
    cond_both (eqb x w) l (x ∷ without w l) (λ (k : List ℕ). count v (x ∷ l) ≤ count v k)
    (λ e. rw (ne_eqb v x (λ q. ne (q ∙ eqb-true x w e))) (omega arith))
    (λ e. omega (arith, count_cons v x l, count_cons v x (without w l), without_keeps v w l ne))

-- ---- a weak reference leaves its list, and gives up its callback

module _ (s : State) (o k : ℕ) (ph : s.phase o ≡ Freeing k) where
  -- its referent
  abbrev r : ℕ
  r = (s.shape o).referent

  -- the state before its callback is given up
  abbrev m : State
  m = with_phase o Leaving (with_callback o 0 (unlisted o s))

  -- nobody goes back
  low : (y : ℕ) → stage (s.phase y) ≤ stage (m.phase y)
  low = phase_older s o Leaving (rw ph (omega arith))

  -- no list has more
  fewer : (y v : ℕ) → 0 < count v (m.weak y) → 0 < count v (s.weak y)
  fewer = point (λ y. (v : ℕ) → 0 < count v (m.weak y) → 0 < count v (s.weak y)) r (λ v h. let h' : 0 < count v (without o (s.weak r)) = rw (same r) at h in omega (arith, without_less v o (s.weak r))) (λ y ne v h. rw (ne_eqb y r ne) at h)

  -- but for o, all stay
  more : (y v : ℕ) → (v ≡ o → ⊥) → 0 < count v (s.weak y) → 0 < count v (m.weak y)
  more = point (λ y. (v : ℕ) → (v ≡ o → ⊥) → 0 < count v (s.weak y) → 0 < count v (m.weak y)) r (λ v n h. rw (same r) (omega (arith, without_keeps v o (s.weak r) n))) (λ y ne v n h. rw (ne_eqb y r ne) h)

  -- lists and rounds still fall
  left : (y : ℕ) → Falling s.next (s.held y ++ s.weak y) → Falling s.next (s.held y ++ m.weak y)
  left = point (λ y. Falling s.next (s.held y ++ s.weak y) → Falling s.next (s.held y ++ m.weak y)) r (λ f. rw (same r) (falling_left s.next o (s.held r) (s.weak r) f)) (λ y ne f. rw (ne_eqb y r ne) f)

  -- whatever death may start then
  pub leaves_moved : (t : State) → Same m t → Moved s t
  leaves_moved t a = record {
    ages = older_ages s t (sym a.next) (λ y. omega (arith, low y, a.older y));
    turned = point (λ v. Turned s t v) o (own (rw ph (omega arith)) (rw ph (omega arith)) (a.callback o ∙ rw (same o) refl) (inl (ap (λ (x : Shape). x.referent) (a.shape o)))) (λ v ne. same_as (a.callback v ∙ rw (ne_eqb v o ne) refl) (ap (λ (x : Shape). x.referent) (a.shape v)));
    calls = λ y c v e. inl (before y c v (a.calls y c v e));
    listed = λ y v h. inl (fewer y v (subst (λ (l : List ℕ). 0 < count v l) (a.weak y) h));
    unlisted = λ y v h. one y v h (cases_eq v o);
    held = λ y v h. inl (subst (λ (l : List ℕ). 0 < count v l) (a.held y) h);
    unheld = λ y v h. inl (subst (λ (l : List ℕ). 0 < count v l) (sym (a.held y)) h);
    falls = λ y f. rw (a.next, a.held y, a.weak y) (left y f);
    bare = λ y h e. bare y h e (a.low y h);
    leaves = λ v h. leaves v h (a.low v (omega arith));
    frees = λ y e. frees y e (a.low y (omega arith));
  }
    where
      before : (y c v : ℕ) → m.phase y ≡ Calling c v → s.phase y ≡ Calling c v
      before = point (λ y. (c v : ℕ) → m.phase y ≡ Calling c v → s.phase y ≡ Calling c v) o (λ c v e. let e' : Leaving ≡ Calling c v = rw (same o) at e in let z : ◌≡◌ {A = ℕ} 0 1 = cc in absurd (omega arith)) (λ y ne c v e. rw (ne_eqb y o ne) at e)

      one : (y v : ℕ) → 0 < count v (s.weak y) → (v ≡ o) ⊎ (v ≡ o → ⊥) → Unlisted s t y v
      one y v h (inl q) = passed (λ e. let e' : stage (s.phase o) ≡ 1 = ap (λ (x : ℕ). stage (s.phase x)) (sym q) ∙ e in let e'' : 3 ≡ 1 = rw ph at e' in omega arith) (inr (a.callback v ∙ rw (eq-eqb v o q) refl))
      one y v h (inr ne) = stays (subst (λ (l : List ℕ). 0 < count v l) (sym (a.weak y)) (more y v ne h))

      low_before : (y : ℕ) → 3 ≤ stage (m.phase y) → stage (m.phase y) ≤ 4 → (3 ≤ stage (s.phase y)) × (stage (s.phase y) ≤ 4)
      low_before = point (λ y. 3 ≤ stage (m.phase y) → stage (m.phase y) ≤ 4 → (3 ≤ stage (s.phase y)) × (stage (s.phase y) ≤ 4)) o (λ h e. rw ph (omega arith, omega arith)) (λ y ne. rw (ne_eqb y o ne) (λ h e. (h, e)))

      bare : (y : ℕ) → 3 ≤ stage (t.phase y) → stage (t.phase y) ≤ 4 → (stage (m.phase y) ≡ stage (t.phase y)) ⊎ ((stage (t.phase y) ≡ 3) × (m.weak y ≡ [])) → ((3 ≤ stage (s.phase y)) × (stage (s.phase y) ≤ 4)) ⊎ ((w : ℕ) → count w (t.weak y) ≡ 0)
      bare y h e (inl q) = inl (low_before y (omega arith) (omega arith))
      bare y h e (inr q) = inr (λ w. rw (a.weak y) (ap (count w) q.1))

      at_four : (v : ℕ) → 4 ≤ stage (m.phase v) → (4 ≤ stage (s.phase v)) ⊎ (m.weak ((s.shape v).referent) ≡ without v (s.weak ((s.shape v).referent)))
      at_four = point (λ v. 4 ≤ stage (m.phase v) → (4 ≤ stage (s.phase v)) ⊎ (m.weak ((s.shape v).referent) ≡ without v (s.weak ((s.shape v).referent)))) o (λ h. inr (rw (same r) refl)) (λ v ne. rw (ne_eqb v o ne) (λ h. inl h))

      then : (v : ℕ) → (4 ≤ stage (s.phase v)) ⊎ (m.weak ((s.shape v).referent) ≡ without v (s.weak ((s.shape v).referent))) → (4 ≤ stage (s.phase v)) ⊎ (t.weak ((s.shape v).referent) ≡ without v (s.weak ((s.shape v).referent)))
      then v (inl h) = inl h
      then v (inr e) = inr (a.weak ((s.shape v).referent) ∙ e)

      leaves : (v : ℕ) → 4 ≤ stage (t.phase v) → (stage (m.phase v) ≡ stage (t.phase v)) ⊎ ((stage (t.phase v) ≡ 3) × (m.weak v ≡ [])) → (4 ≤ stage (s.phase v)) ⊎ (t.weak ((s.shape v).referent) ≡ without v (s.weak ((s.shape v).referent)))
      leaves v h (inl e) = then v (at_four v (omega arith))
      leaves v h (inr e) = absurd (omega arith)

      at_five : (y : ℕ) → stage (m.phase y) ≡ 5 → 4 ≤ stage (s.phase y)
      at_five = point (λ y. stage (m.phase y) ≡ 5 → 4 ≤ stage (s.phase y)) o (λ e. let z : 4 ≡ 5 = rw (same o) at e in absurd (omega arith)) (λ y ne. rw (ne_eqb y o ne) (λ e. omega arith))

      frees : (y : ℕ) → stage (t.phase y) ≡ 5 → (stage (m.phase y) ≡ stage (t.phase y)) ⊎ ((stage (t.phase y) ≡ 3) × (m.weak y ≡ [])) → 4 ≤ stage (s.phase y)
      frees y e (inl q) = at_five y (omega arith)
      frees y e (inr q) = absurd (omega arith)
