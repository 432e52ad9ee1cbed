-- What births do to weak references.
use Rattle.std.proofs.Common.{◌≡◌, ℕ, suc, ◌<◌, ◌≤◌, ◌⊎◌, List, [], ◌∷◌, ◌++◌, sym, refl, subst, inl, inr, arith}
use Rattle.std.proofs.lemmas.Bool.{ne_eqb, cases_eq}
use Rattle.definition.specs.Base.{put, count}
use Rattle.definition.specs.State.{Phase, Resting, Calling, Shape, State}
use Rattle.definition.specs.Changes.{with_all_handles, born}
use Rattle.definition.specs.Calls.{new_reference}
use Rattle.definition.proofs.Sums.{same, point, count_here}
use Rattle.law.proofs.Invariant.{Falling, Inv}
use Rattle.law.proofs.Steps.{falling_more, no_names}
use Rattle.law.proofs.Stages.{stage, born_ages}
use Rattle.law.proofs.Told.{young_round}
use Rattle.law.proofs.Moved.{Turned, same_as, plain, new, Unlisted, stays, Moved}
use Rattle.law.proofs.Serves.{count_more, count_rest}

module _ (s : State) (handles : ℕ → ℕ) where
  -- the next birth rests
  abbrev phase : ℕ → Phase
  phase = put s.phase s.next Resting

  -- no turn opens
  calls : (y c v : ℕ) → phase y ≡ Calling c v → s.phase y ≡ Calling c v
  calls = point (λ y. (c v : ℕ) → phase y ≡ Calling c v → s.phase y ≡ Calling c v) s.next (λ c v e. let e' : Resting ≡ Calling c v = rw (same s.next) at e in let z : ◌≡◌ {A = ℕ} 0 1 = cc in absurd (omega arith)) (λ y ne c v e. rw (ne_eqb y s.next ne) at e)

  -- nothing else comes further
  further : (y : ℕ) → 2 ≤ stage (phase y) → stage (s.phase y) ≡ stage (phase y)
  further = point (λ y. 2 ≤ stage (phase y) → stage (s.phase y) ≡ stage (phase y)) s.next (λ h. let z : 2 ≤ 1 = rw (same s.next) at h in absurd (omega arith)) (λ y ne. rw (ne_eqb y s.next ne) (λ h. refl))

  -- an object that has no callback
  pub born_moved : (shape : Shape) (places : List ℕ) → Moved s (born shape places 0 (with_all_handles handles s))
  born_moved shape places =
      let t = born shape places 0 (with_all_handles handles s) in
      record {
        ages = born_ages s t refl (λ y. refl);
        turned = point (λ v. Turned s t v) s.next (plain refl (rw (same s.next) refl)) (λ v ne. same_as (rw (ne_eqb v s.next ne) refl) (rw (ne_eqb v s.next ne) refl));
        calls = λ y c v e. inl (calls y c v e);
        listed = λ y v h. inl h;
        unlisted = λ y v h. stays h;
        held = λ y v h. inl h;
        unheld = λ y v h. inl h;
        falls = λ y f. falling_more s.next (suc s.next) (s.held y ++ s.weak y) (omega arith) f;
        bare = λ y h k. inl (omega (arith, further y), omega (arith, further y));
        leaves = λ v h. inl (omega (arith, further v));
        frees = λ y e. omega (arith, further y);
      }

  -- a weak reference to a live object
  pub reference_moved : Inv s [] → (class o callback dictionary : ℕ) → stage (s.phase o) ≡ 1 → o < s.next → Moved s (new_reference class o callback dictionary (with_all_handles handles s))
  unfolding Falling
  reference_moved i class o callback dictionary l lo =
      let t = new_reference class o callback dictionary (with_all_handles handles s) in
      record {
        ages = born_ages s t refl (λ y. refl);
        turned = point (λ v. Turned s t v) s.next (fresh (cases_eq callback 0)) (λ v ne. same_as (rw (ne_eqb v s.next ne) refl) (rw (ne_eqb v s.next ne) refl));
        calls = λ y c v e. inl (calls y c v e);
        listed =
            point (λ y. (v : ℕ) → 0 < count v (put s.weak o (s.next ∷ s.weak o) y) → (0 < count v (s.weak y)) ⊎ ((v ≡ s.next) × ((t.shape v).referent ≡ y) × (stage (s.phase y) ≡ 1) × (stage (t.phase v) ≡ 1))) o (λ v h. first v (rw (same o) at h) (cases_eq v s.next))
            (λ y ne v h. inl (rw (ne_eqb y o ne) at h));
        unlisted = point (λ y. (v : ℕ) → 0 < count v (s.weak y) → Unlisted s t y v) o (λ v h. stays (rw (same o) (count_more v s.next (s.weak o) h))) (λ y ne v h. stays (rw (ne_eqb y o ne) h));
        held = λ y v h. inl h;
        unheld = λ y v h. inl h;
        falls = point (λ y. Falling s.next (s.held y ++ s.weak y) → Falling (suc s.next) (s.held y ++ put s.weak o (s.next ∷ s.weak o) y)) o (λ f. rw (same o) (front (s.held o) (no_names (s.held o) (young_round s i o (inl l))) f)) (λ y ne f. rw (ne_eqb y o ne) (falling_more s.next (suc s.next) (s.held y ++ s.weak y) (omega arith) f));
        bare = λ y h k. inl (omega (arith, further y), omega (arith, further y));
        leaves = λ v h. inl (omega (arith, further v));
        frees = λ y e. omega (arith, further y);
      }
    where
      t : State
      t = new_reference class o callback dictionary (with_all_handles handles s)

      at_o : stage (phase o) ≡ 1
      at_o = rw (ne_eqb o s.next (λ q. omega arith)) l

      fresh : (callback ≡ 0) ⊎ (callback ≡ 0 → ⊥) → Turned s t s.next
      fresh (inl q) = plain refl (rw (same s.next) q)
      fresh (inr ne) = new refl (rw (same s.next) l) (rw (same s.next) at_o) (rw (same s.next) (rw (same o) (count_here s.next (s.weak o))))

      first : (v : ℕ) → 0 < count v (s.next ∷ s.weak o) → (v ≡ s.next) ⊎ (v ≡ s.next → ⊥) → (0 < count v (s.weak o)) ⊎ ((v ≡ s.next) × ((t.shape v).referent ≡ o) × (stage (s.phase o) ≡ 1) × (stage (t.phase v) ≡ 1))
      first v h (inl q) = inr (q, subst (λ x. (t.shape x).referent ≡ o) (sym q) (rw (same s.next) refl), l, subst (λ x. stage (t.phase x) ≡ 1) (sym q) (rw (same s.next) refl))
      first v h (inr ne) = inl (count_rest v s.next (s.weak o) ne h)

      front : (hs : List ℕ) → hs ≡ [] → Falling s.next (hs ++ s.weak o) → Falling (suc s.next) (hs ++ (s.next ∷ s.weak o))
      front [] e f = (omega arith, f)
      front (x ∷ hs) e f = let z : ◌≡◌ {A = ℕ} 0 1 = cc in absurd (omega arith)
