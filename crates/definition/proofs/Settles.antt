-- Going on until no work is left: how long does not matter, once it is long enough.
use Rattle.std.proofs.Common.{◌≡◌, ℕ, zero, suc, ◌<◌, ◌≤◌, true, ◌⊎◌, List, [], ◌∷◌, ◌++◌, get_or, set, sym, refl, ap, ◌∙◌, inl, inr, arith}
use Rattle.std.proofs.lemmas.Bool.{both_ways, cond-true}
use Rattle.definition.specs.State.{Phase, Absent, Resting, DelOpen, Taking, Draining, Calling, Freeing, Leaving, State, is_open}
use Rattle.definition.specs.Changes.{with_phase, with_places, with_callback, with_giving}
use Rattle.definition.specs.Death.{unlisted, going_on, on_top, advance, frees_by, frees_top, frees, waits, rests, work, settle, freed_in, settled, freed}
use Rattle.definition.proofs.Advance.{is_dying, Idle, advance_cases}
use Rattle.definition.proofs.Work.{Tidy, top_below, phase_tidy, give_up_work, gives_work, takes_work, completes_work, clears_work, drains_work, empties_work, leaves_work, frees_work, advance_tidy}

-- nothing goes on
idle_stays : (s : State) (l : List ℕ) → waits l s ≡ true → on_top l s ≡ s
idle_stays s [] e = refl
idle_stays s (o ∷ below) e = cond-true (is_open (s.phase o)) s (going_on (s.giving o) o below s) e

pub rests_stays : (s : State) → rests s ≡ true → advance s ≡ s
unfolding advance
rests_stays s e = idle_stays s s.stack e

-- no work is left, or a step makes it less
pub falls : (s : State) → Tidy s → (rests s ≡ true) ⊎ (work (advance s) < work s)
falls s t = advance_cases s (λ u. (rests s ≡ true) ⊎ (work u < work s)) (record {
  idle = idle;
  gives = λ o below top x xs gv. inr (omega (arith, give_up_work (with_giving o xs s) x t, gives_work s o (top_below s t o below top) x xs gv));
  takes = λ o below top gv r w rest wk h. inr (takes_work s o (top_below s t o below top) gv r w rest wk);
  completes = λ o below top gv ph w ws hd. inr (completes_work s o (top_below s t o below top) ph);
  clears = λ o below top gv r hd wk. inr (clears_work s o (top_below s t o below top) r);
  drains = λ o below top gv ph w ws hd. inr (drains_work s o (top_below s t o below top) gv ph w ws hd);
  empties = λ o below top gv k ph h.
      let lo = top_below s t o below top in
      let u = with_phase o (Freeing (suc k)) (with_places o (set (s.places o) k 0) s) in
      inr (omega (arith, give_up_work u (get_or (s.places o) k 0) (phase_tidy s t o (Freeing (suc k)) lo refl), empties_work s o lo k ph h));
  leaves = λ o below top gv k ph h.
      let lo = top_below s t o below top in
      let u = with_phase o Leaving (with_callback o 0 (unlisted o s)) in
      inr (omega (arith, give_up_work u (s.callback o) (phase_tidy s t o Leaving lo refl), leaves_work s o lo k ph));
  frees = λ o below top gv ph. inr (frees_work s o (top_below s t o below top) below ph);
})
  where
    idle : Idle s → (rests s ≡ true) ⊎ (work s < work s)
    idle (inl e) = inl e
    idle (inr q) = absurd (both_ways (is_dying (s.phase q.0)) q.2 (t.dying q.0 q.1))

pub settle_stays : (n : ℕ) (s : State) → rests s ≡ true → settle n s ≡ s
unfolding settle
settle_stays zero s e = refl
settle_stays (suc n) s e = rw (rests_stays s e) (settle_stays n s e)

pub settle_tidy : (n : ℕ) (s : State) → Tidy s → Tidy (settle n s)
unfolding settle
settle_tidy zero s t = t
settle_tidy (suc n) s t = settle_tidy n (advance s) (advance_tidy s t)

settle_rests : (n : ℕ) (s : State) → Tidy s → work s ≤ n → rests (settle n s) ≡ true
unfolding settle
settle_rests zero s t l = go (falls s t)
  where
    go : (rests s ≡ true) ⊎ (work (advance s) < work s) → rests s ≡ true
    go (inl e) = e
    go (inr h) = absurd (omega arith)
settle_rests (suc n) s t l = go (falls s t) (settle_rests n (advance s) (advance_tidy s t))
  where
    go : (rests s ≡ true) ⊎ (work (advance s) < work s) → (work (advance s) ≤ n → rests (settle n (advance s)) ≡ true) → rests (settle n (advance s)) ≡ true
    go (inl e) k = let q : settle n (advance s) ≡ s = rw (rests_stays s e) (settle_stays n s e) in rw q e
    go (inr h) k = k (omega arith)

-- after a call no work is left
pub settled_rests : (s : State) → Tidy s → rests (settled s) ≡ true
unfolding settled
settled_rests s t = settle_rests (work s) s t (omega arith)

pub settled_tidy : (s : State) → Tidy s → Tidy (settled s)
unfolding settled
settled_tidy s t = settle_tidy (work s) s t

pub settled_at_rest : (s : State) → rests s ≡ true → settled s ≡ s
unfolding settled
settled_at_rest s e = settle_stays (work s) s e

settle_enough : (n m : ℕ) (s : State) → Tidy s → work s ≤ n → work s ≤ m → settle n s ≡ settle m s
unfolding settle
settle_enough zero m s t ln lm = go (falls s t)
  where
    go : (rests s ≡ true) ⊎ (work (advance s) < work s) → s ≡ settle m s
    go (inl e) = sym (settle_stays m s e)
    go (inr h) = absurd (omega arith)
settle_enough (suc n) zero s t ln lm = go (falls s t)
  where
    go : (rests s ≡ true) ⊎ (work (advance s) < work s) → settle n (advance s) ≡ s
    go (inl e) = settle_stays (suc n) s e
    go (inr h) = absurd (omega arith)
settle_enough (suc n) (suc m) s t ln lm = go (falls s t) (settle_enough n m (advance s) (advance_tidy s t))
  where
    go : (rests s ≡ true) ⊎ (work (advance s) < work s) → (work (advance s) ≤ n → work (advance s) ≤ m → settle n (advance s) ≡ settle m (advance s)) → settle n (advance s) ≡ settle m (advance s)
    go (inl e) k = settle_stays (suc n) s e ∙ sym (settle_stays (suc m) s e)
    go (inr h) k = k (omega arith) (omega arith)

falls_le : (s : State) → Tidy s → work (advance s) ≤ work s
falls_le s t = go (falls s t)
  where
    go : (rests s ≡ true) ⊎ (work (advance s) < work s) → work (advance s) ≤ work s
    go (inl e) = rw (rests_stays s e) (omega arith)
    go (inr h) = omega arith

-- a step more or less on the way comes to the same rest
pub settled_step : (s : State) → Tidy s → settled (advance s) ≡ settled s
unfolding settled settle
settled_step s t =
    settle_enough (work (advance s)) (work s) (advance s) (advance_tidy s t) (omega arith) (falls_le s t) ∙ settle_enough (suc (work s)) (work s) s t (omega arith) (omega arith)

-- ---- what is freed on the way

frees_none : (s : State) (l : List ℕ) → waits l s ≡ true → frees_top l s ≡ []
frees_none s [] e = refl
frees_none s (o ∷ below) e = open_frees (s.phase o) e
  where
    open_frees : (p : Phase) → is_open p ≡ true → frees_by p (s.giving o) o ≡ []
    open_frees Absent e = refl
    open_frees Resting e = refl
    open_frees (DelOpen c) e = refl
    open_frees Taking e = refl
    open_frees Draining e = refl
    open_frees (Calling c w) e = refl
    open_frees (Freeing k) e = refl
    open_frees Leaving e = let z : ◌≡◌ {A = ℕ} 0 1 = cc in absurd (omega arith)

pub frees_at_rest : (s : State) → rests s ≡ true → frees s ≡ []
unfolding frees
frees_at_rest s e = frees_none s s.stack e

pub freed_stays : (n : ℕ) (s : State) → rests s ≡ true → freed_in n s ≡ []
unfolding freed_in
freed_stays zero s e = refl
freed_stays (suc n) s e = rw (frees_at_rest s e, rests_stays s e) (freed_stays n s e)

freed_enough : (n m : ℕ) (s : State) → Tidy s → work s ≤ n → work s ≤ m → freed_in n s ≡ freed_in m s
unfolding freed_in
freed_enough zero m s t ln lm = go (falls s t)
  where
    go : (rests s ≡ true) ⊎ (work (advance s) < work s) → [] ≡ freed_in m s
    go (inl e) = sym (freed_stays m s e)
    go (inr h) = absurd (omega arith)
freed_enough (suc n) zero s t ln lm = go (falls s t)
  where
    go : (rests s ≡ true) ⊎ (work (advance s) < work s) → frees s ++ freed_in n (advance s) ≡ []
    go (inl e) = freed_stays (suc n) s e
    go (inr h) = absurd (omega arith)
freed_enough (suc n) (suc m) s t ln lm = go (falls s t) (freed_enough n m (advance s) (advance_tidy s t))
  where
    go : (rests s ≡ true) ⊎ (work (advance s) < work s) → (work (advance s) ≤ n → work (advance s) ≤ m → freed_in n (advance s) ≡ freed_in m (advance s)) → frees s ++ freed_in n (advance s) ≡ frees s ++ freed_in m (advance s)
    go (inl e) k = freed_stays (suc n) s e ∙ sym (freed_stays (suc m) s e)
    go (inr h) k = ap (λ (l : List ℕ). frees s ++ l) (k (omega arith) (omega arith))

pub freed_at_rest : (s : State) → rests s ≡ true → freed s ≡ []
unfolding freed
freed_at_rest s e = freed_stays (work s) s e

-- what is freed from here is what this step frees, and then what is freed from there
pub freed_step : (s : State) → Tidy s → frees s ++ freed (advance s) ≡ freed s
unfolding freed freed_in
freed_step s t =
    ap (λ (l : List ℕ). frees s ++ l) (freed_enough (work (advance s)) (work s) (advance s) (advance_tidy s t) (omega arith) (falls_le s t)) ∙ freed_enough (suc (work s)) (work s) s t (omega arith) (omega arith)
