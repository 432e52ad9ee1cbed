-- Deaths nest: the stack is in the order in which deaths started, and a death that is not the newest takes no step.
use Rattle.std.proofs.Common.{◌≡◌, ℕ, suc, ◌<◌, ◌≤◌, true, false, ◌⊎◌, List, [], ◌∷◌, refl, inl, inr, arith, ◌≢◌}
use Rattle.std.proofs.lemmas.Bool.{ne_eqb, both_ways}
use Rattle.definition.specs.Base.{count}
use Rattle.definition.specs.State.{Phase, Absent, Resting, DelOpen, Taking, Draining, Calling, Freeing, Leaving, State, is_unfreed, is_live, is_resting}
use Rattle.definition.proofs.Sums.{count_cons, same}
use Rattle.definition.proofs.Advance.{is_dying}
use Rattle.law.specs.Run.{Step}
use Rattle.law.specs.Events.{Dying, Dies, Newer}
use Rattle.law.specs.Law.{Still}
use Rattle.law.proofs.Invariant.{Inv, between}
use Rattle.law.proofs.Steps.{tidy}
use Rattle.law.proofs.Living.{Happens, goes, comes, asks, clears, ends, Stacks, stays, pushes, pops, Changes}

-- p stands above o on the stack
abbrev pub Above : ℕ → ℕ → List ℕ → Type 0
Above p o [] = ⊥
Above p o (x ∷ xs) = ((x ≡ p) × (0 < count o xs)) ⊎ Above p o xs

-- of two dying objects, that whose death started later stands above the other
pub record OrderedStack (h : List Step) (s : State) : Type 0 where
  pub above : (o p : ℕ) → o ≢ p → Dying s o → Dying s p → Newer h p o → Above p o s.stack

-- ---- the stack

-- what another stands above is on the stack
above_count : (p o : ℕ) (l : List ℕ) → Above p o l → 0 < count o l
above_count p o [] a = absurd a
above_count p o (x ∷ xs) (inl q) = omega (arith, q.1, count_cons o x xs)
above_count p o (x ∷ xs) (inr a) = omega (arith, above_count p o xs a, count_cons o x xs)

-- and it is not on top, where none stands twice
not_top : (p o : ℕ) (below : List ℕ) → o ≢ p → count o (o ∷ below) ≤ 1 → Above p o (o ∷ below) → ⊥
not_top p o below ne once (inl q) = ne q.0
not_top p o below ne once (inr a) = let c : count o (o ∷ below) ≡ suc (count o below) = rw (same o) refl in omega (arith, above_count p o below a)

-- what is dying is on the stack
on_stack : (s : State) → Inv s [] → (o : ℕ) → Dying s o → 0 < count o s.stack
on_stack s i o d =
    let po = (between s [] i o (λ q. both_ways (is_unfreed (s.phase o)) (rw q refl) d.0)).0 in
    let e : is_dying (s.phase o) ≡ true = rw (d.0, d.1) refl in
    omega (arith, rw e at (i.good o po).stacked)

-- ---- a step

-- what is not live is not at rest
not_resting : (p : Phase) → is_live p ≡ false → is_resting p ≡ false
not_resting Absent e = refl
not_resting Resting e = absurd (both_ways true e refl)
not_resting (DelOpen c) e = refl
not_resting Taking e = refl
not_resting Draining e = refl
not_resting (Calling c w) e = refl
not_resting (Freeing k) e = refl
not_resting Leaving e = refl

module _ (st : Step) (ch : Changes st.what st.before st.after) where
  -- what is dying has just started to, and then it is the newest, or was dying before
  dying_before : (o : ℕ) → Dying st.after o → (Dies st o × (st.after.stack ≡ o ∷ st.before.stack)) ⊎ Dying st.before o
  dying_before o d = go (ch.phases o)
    where
      go : Happens st.what st.before st.after o → (Dies st o × (st.after.stack ≡ o ∷ st.before.stack)) ⊎ Dying st.before o
      go (goes (inl e)) = inr (rw (← e) d)
      go (goes (inr c)) = inr (c.0.0, not_resting (st.before.phase o) c.0.1)
      go (comes a b) = absurd (both_ways (is_resting (st.after.phase o)) d.1 (rw b refl))
      go (asks l e ph k n) = inl ((rw l.rests refl, d), k)
      go (clears l e ph k n) = inl ((rw l.rests refl, d), k)
      go (ends class ph h e) = inr (rw ph (refl, refl))

  -- a death that starts is the newest
  newest : (o : ℕ) → Dies st o → st.after.stack ≡ o ∷ st.before.stack
  newest o d = go (dying_before o d.1)
    where
      go : (Dies st o × (st.after.stack ≡ o ∷ st.before.stack)) ⊎ Dying st.before o → st.after.stack ≡ o ∷ st.before.stack
      go (inl q) = q.1
      go (inr b) = absurd (both_ways (is_resting (st.before.phase o)) b.1 d.0)

  -- each step keeps the order
  pub order_kept : (h : List Step) → Inv st.after [] → OrderedStack h st.before → OrderedStack (st ∷ h) st.after
  unfolding Newer
  order_kept h j r = record { above = λ o p ne dd dp n. go o p ne dd dp n }
    where
      starts : (o p : ℕ) → o ≢ p → Dying st.after o → Dies st p → Above p o st.after.stack
      starts o p ne dd d =
          let e = newest p d in
          let n : 0 < count o st.before.stack = rw (e, ne_eqb o p ne) at (on_stack st.after j o dd) in
          rw e (inl (refl, n))

      kept : (o p : ℕ) → Dying st.after p → Stacks st.before st.after → Above p o st.before.stack → Above p o st.after.stack
      kept o p dp (stays e) a = rw e a
      kept o p dp (pushes x e) a = rw e (inr a)
      kept o p dp (pops x below e f g) a = rw f (popped (rw e at a))
        where
          popped : Above p o (x ∷ below) → Above p o below
          popped (inl q) = let y : is_dying (st.after.phase p) ≡ true = rw (dp.0, dp.1) refl in absurd (both_ways (is_dying (st.after.phase x)) g (rw q.0 y))
          popped (inr a) = a

      go : (o p : ℕ) → o ≢ p → Dying st.after o → Dying st.after p → Dies st p ⊎ ((Dies st o → ⊥) × Newer h p o) → Above p o st.after.stack
      go o p ne dd dp (inl d) = starts o p ne dd d
      go o p ne dd dp (inr n) = by (dying_before o dd) (dying_before p dp)
        where
          by : (Dies st o × (st.after.stack ≡ o ∷ st.before.stack)) ⊎ Dying st.before o → (Dies st p × (st.after.stack ≡ p ∷ st.before.stack)) ⊎ Dying st.before p → Above p o st.after.stack
          by (inl q) z = absurd (n.0 q.0)
          by (inr b) (inl q) = starts o p ne dd q.0
          by (inr b) (inr c) = kept o p dp ch.stacks (r.above o p ne b c n.1)

  -- the older death stands still
  pub nested : (h : List Step) → Inv st.before [] → OrderedStack h st.before → (o p : ℕ) → o ≢ p → Dying st.before o → Dying st.before p → Newer h p o → Still st.before st.after o
  nested h i r o p ne dd dp n =
      ch.stills o dd (λ below e. not_top p o below ne (rw e at ((tidy st.before [] i).once o)) (rw e at (r.above o p ne dd dp n)))
