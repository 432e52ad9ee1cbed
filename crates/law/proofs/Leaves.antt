-- What taking callbacks out, leavings, frees and births do to weak references.
use Rattle.std.proofs.Common.{◌≡◌, ℕ, ◌<◌, ◌≤◌, true, false, not, ◌&&◌, eqb, ◌⊎◌, List, [], ◌∷◌, ◌++◌, sym, refl, ap, ◌∙◌, subst, inl, inr, MatchBool, arith}
use Rattle.std.proofs.lemmas.Bool.{ne_eqb, eqb-true, eqb-false, eq-eqb, cases_eq, cases_lt, and_parts, and_cases, not-true, not-false, cond_both}
use Rattle.definition.specs.Base.{put, count, without}
use Rattle.definition.specs.State.{Phase, Absent, Draining, Calling, Leaving, State}
use Rattle.definition.specs.Changes.{with_phase, with_callback, with_held, with_giving}
use Rattle.definition.specs.Death.{more, opened, drains, leaving}
use Rattle.definition.proofs.Sums.{same, point}
use Rattle.law.proofs.Invariant.{Falling}
use Rattle.law.proofs.Steps.{falling_tail}
use Rattle.law.proofs.Stages.{stage, phase_older, older_ages}
use Rattle.law.proofs.Moved.{Serves, Turned, same_as, own, served, Unlisted, stays, over, Begins, Moved}
use Rattle.law.proofs.Serves.{count_more, count_rest}

-- ---- a callback is taken out

module _ (s : State) (o w : ℕ) (ws : List ℕ) (ph : s.phase o ≡ Draining) (hd : s.held o ≡ w ∷ ws) where
  -- the callback
  abbrev c : ℕ
  c = s.callback w

  -- without a turn
  abbrev out : State
  out = with_giving o (c ∷ w ∷ []) (with_held o ws (with_callback w 0 s))

  -- with one
  abbrev calling : State
  calling = opened (with_phase o (Calling c w) (with_giving o (w ∷ c ∷ w ∷ []) (more w (with_held o ws (with_callback w 0 s)))))

  -- what both ways share
  turned : (t : State) → ((y : ℕ) → t.callback y ≡ put s.callback w 0 y) → ((y : ℕ) → (t.shape y).referent ≡ (s.shape y).referent) → (0 < c → Serves s t o w) → (v : ℕ) → Turned s t v
  turned t cb sh sv v = go (cases_eq v w) (cases_lt 0 c)
    where
      go : (v ≡ w) ⊎ (v ≡ w → ⊥) → (0 < c) ⊎ (c ≤ 0) → Turned s t v
      go (inl q) (inl p) = subst (λ x. Turned s t x) (sym q) (served o (sv p) (sh w))
      go (inl q) (inr p) = same_as (cb v ∙ rw (eq-eqb v w q) (omega (arith, ap s.callback q))) (sh v)
      go (inr ne) p = same_as (cb v ∙ rw (ne_eqb v w ne) refl) (sh v)

  -- no round holds more
  held : (y v : ℕ) → 0 < count v (put s.held o ws y) → 0 < count v (s.held y)
  held = point (λ y. (v : ℕ) → 0 < count v (put s.held o ws y) → 0 < count v (s.held y)) o (λ v h. rw hd (count_more v w ws (rw (same o) at h))) (λ y ne v h. rw (ne_eqb y o ne) at h)

  unheld : (p : ℕ → Phase) (y v : ℕ) → 0 < count v (s.held y) → (0 < count v (put s.held o ws y)) ⊎ ((put s.callback w 0 v ≡ 0) ⊎ (stage (p y) ≡ 5))
  unheld p = point (λ y. (v : ℕ) → 0 < count v (s.held y) → (0 < count v (put s.held o ws y)) ⊎ ((put s.callback w 0 v ≡ 0) ⊎ (stage (p y) ≡ 5))) o (λ v h. gone v (cases_eq v w) (rw hd at h)) (λ y ne v h. inl (rw (ne_eqb y o ne) h))
    where
      gone : (v : ℕ) → (v ≡ w) ⊎ (v ≡ w → ⊥) → 0 < count v (w ∷ ws) → (0 < count v (put s.held o ws o)) ⊎ ((put s.callback w 0 v ≡ 0) ⊎ (stage (p o) ≡ 5))
      gone v (inl q) h = inr (inl (rw (eq-eqb v w q) refl))
      gone v (inr ne) h = inl (rw (same o) (count_rest v w ws ne h))

  -- lists and rounds still fall
  falls : (y : ℕ) → Falling s.next (s.held y ++ s.weak y) → Falling s.next (put s.held o ws y ++ s.weak y)
  falls = point (λ y. Falling s.next (s.held y ++ s.weak y) → Falling s.next (put s.held o ws y ++ s.weak y)) o (λ f. rw (same o) (falling_tail s.next w (ws ++ s.weak o) (rw hd at f))) (λ y ne f. rw (ne_eqb y o ne) f)

  -- no turn opens
  out_moved : (s.attends && not (eqb c 0)) ≡ false → Moved s out
  out_moved e = record {
    ages = older_ages s out refl (λ y. omega arith);
    turned = turned out (λ y. refl) (λ y. refl) (λ p. record { round = hd ∙ ap (λ (l : List ℕ). w ∷ l) (rw (same o) refl); phase = ph; some = p; gone = rw (same w) refl; turn = quiet p (and_cases s.attends (not (eqb c 0)) e) });
    calls = λ y d v q. inl q;
    listed = λ y v h. inl h;
    unlisted = λ y v h. stays h;
    held = λ y v h. inl (held y v h);
    unheld = unheld s.phase;
    falls = falls;
    bare = λ y h k. inl (h, k);
    leaves = λ v h. inl h;
    frees = λ y q. omega arith;
  }
    where
      quiet : 0 < c → (s.attends ≡ false) ⊎ (not (eqb c 0) ≡ false) → MatchBool s.attends (out.phase o ≡ Calling c w) (out.phase o ≡ Draining)
      quiet p (inl a) = rw a ph
      quiet p (inr z) = absurd (omega (arith, eqb-true c 0 (not-false (eqb c 0) z)))

  -- a turn opens
  calling_moved : (s.attends && not (eqb c 0)) ≡ true → Moved s calling
  calling_moved e = record {
    ages = older_ages s calling refl (phase_older s o (Calling c w) (rw ph (omega arith)));
    turned = turned calling (λ y. refl) (λ y. refl) (λ p. sv);
    calls = point (λ y. (d v : ℕ) → put s.phase o (Calling c w) y ≡ Calling d v → (s.phase y ≡ Calling d v) ⊎ ((s.callback v ≡ d) × Serves s calling y v)) o (λ d v q. inr (opens d v (rw (same o) at q))) (λ y ne d v q. inl (rw (ne_eqb y o ne) at q));
    listed = λ y v h. inl h;
    unlisted = λ y v h. stays h;
    held = λ y v h. inl (held y v h);
    unheld = unheld (put s.phase o (Calling c w));
    falls = falls;
    bare = λ y h k. inl (omega (arith, stages y), omega (arith, stages y));
    leaves = λ v h. inl (omega (arith, stages v));
    frees = λ y q. omega (arith, stages y);
  }
    where
      some : 0 < c
      some = let ne = eqb-false c 0 (not-true (eqb c 0) (and_parts s.attends (not (eqb c 0)) e).1) in omega arith

      sv : Serves s calling o w
      sv = record { round = hd ∙ ap (λ (l : List ℕ). w ∷ l) (rw (same o) refl); phase = ph; some = some; gone = rw (same w) refl; turn = rw ((and_parts s.attends (not (eqb c 0)) e).0) (rw (same o) refl) }

      opens : (d v : ℕ) → Calling c w ≡ Calling d v → (s.callback v ≡ d) × Serves s calling o v
      opens d v q =
          let a : c ≡ d = cc in
          let b : w ≡ v = cc in
          (ap s.callback (sym b) ∙ a, subst (λ x. Serves s calling o x) b sv)

      stages : (y : ℕ) → stage (put s.phase o (Calling c w) y) ≡ stage (s.phase y)
      stages = point (λ y. stage (put s.phase o (Calling c w) y) ≡ stage (s.phase y)) o (rw (same o, ph) refl) (λ y ne. rw (ne_eqb y o ne) refl)

  -- both ways
  pub drains_moved : Moved s (drains w ws o s)
  drains_moved = cond_both (s.attends && not (eqb c 0)) calling out (Moved s) calling_moved out_moved

-- ---- an object is freed

-- nothing is left of it
pub frees_moved : (s : State) (o : ℕ) (below : List ℕ) → s.phase o ≡ Leaving → Moved s (leaving o below s)
unfolding Falling
frees_moved s o below ph =
    let t = leaving o below s in
    record {
      ages = older_ages s t refl (phase_older s o Absent (rw ph (omega arith)));
      turned = point (λ v. Turned s t v) o (own (rw ph (omega arith)) (rw ph (omega arith)) (rw (same o) refl) (inr (rw (same o) refl))) (λ v ne. same_as (rw (ne_eqb v o ne) refl) (rw (ne_eqb v o ne) refl));
      calls =
          point (λ y. (c v : ℕ) → put s.phase o Absent y ≡ Calling c v → (s.phase y ≡ Calling c v) ⊎ ((s.callback v ≡ c) × Serves s t y v)) o (λ c v e. let e' : Absent ≡ Calling c v = rw (same o) at e in let z : ◌≡◌ {A = ℕ} 0 1 = cc in absurd (omega arith))
          (λ y ne c v e. inl (rw (ne_eqb y o ne) at e));
      listed = point (λ y. (v : ℕ) → 0 < count v (put s.weak o [] y) → (0 < count v (s.weak y)) ⊎ ((v ≡ s.next) × ((t.shape v).referent ≡ y) × (stage (s.phase y) ≡ 1) × (stage (t.phase v) ≡ 1))) o (λ v h. let z : 0 < 0 = rw (same o) at h in absurd (omega arith)) (λ y ne v h. inl (rw (ne_eqb y o ne) at h));
      unlisted = point (λ y. (v : ℕ) → 0 < count v (s.weak y) → Unlisted s t y v) o (λ v h. over (rw (same o) refl)) (λ y ne v h. stays (rw (ne_eqb y o ne) h));
      held = point (λ y. (v : ℕ) → 0 < count v (put s.held o [] y) → (0 < count v (s.held y)) ⊎ ((0 < count v (s.weak y)) × Begins s y)) o (λ v h. let z : 0 < 0 = rw (same o) at h in absurd (omega arith)) (λ y ne v h. inl (rw (ne_eqb y o ne) at h));
      unheld = point (λ y. (v : ℕ) → 0 < count v (s.held y) → (0 < count v (put s.held o [] y)) ⊎ ((put s.callback o 0 v ≡ 0) ⊎ (stage (put s.phase o Absent y) ≡ 5))) o (λ v h. inr (inr (rw (same o) refl))) (λ y ne v h. inl (rw (ne_eqb y o ne) h));
      falls = point (λ y. Falling s.next (s.held y ++ s.weak y) → Falling s.next (put s.held o [] y ++ put s.weak o [] y)) o (λ f. rw (same o) tt) (λ y ne f. rw (ne_eqb y o ne) f);
      bare = point (λ y. 3 ≤ stage (put s.phase o Absent y) → stage (put s.phase o Absent y) ≤ 4 → ((3 ≤ stage (s.phase y)) × (stage (s.phase y) ≤ 4)) ⊎ ((w : ℕ) → count w (put s.weak o [] y) ≡ 0)) o (rw (same o) (λ h k. inr (λ w. refl))) (λ y ne. rw (ne_eqb y o ne) (λ h k. inl (h, k)));
      leaves = point (λ v. 4 ≤ stage (put s.phase o Absent v) → (4 ≤ stage (s.phase v)) ⊎ (t.weak ((s.shape v).referent) ≡ without v (s.weak ((s.shape v).referent)))) o (λ h. inl (rw ph (omega arith))) (λ v ne. rw (ne_eqb v o ne) (λ h. inl h));
      frees = point (λ y. stage (put s.phase o Absent y) ≡ 5 → 4 ≤ stage (s.phase y)) o (λ e. rw ph (omega arith)) (λ y ne. rw (ne_eqb y o ne) (λ e. omega arith));
    }
