-- A place names what an accepted call last put there, until a death empties it: step by step.
use Rattle.std.proofs.Common.{◌≡◌, ℕ, suc, ◌+◌, ◌<◌, Bool, true, false, cond, not, ◌&&◌, eqb, ltb, ◌⊎◌, List, [], length, get_or, set, refl, ◌∙◌, inl, inr}
use Rattle.std.proofs.lemmas.Bool.{ne_eqb, cases_eq, cond_both}
use Rattle.std.proofs.lemmas.List.{get_or-set_same, get_or-set_other}
use Rattle.definition.specs.State.{Draining, Freeing, Leaving, State}
use Rattle.definition.specs.Changes.{with_phase, with_places, with_callback, with_giving}
use Rattle.definition.specs.Death.{spent, takes, drains, unlisted, leaving, give_up, advance}
use Rattle.definition.proofs.Sums.{same, count_here}
use Rattle.definition.proofs.Advance.{give_up_cases, advance_cases}
use Rattle.law.specs.Run.{Small}
use Rattle.law.specs.Events.{Cleared, Emptying}
use Rattle.law.specs.Places.{Place, Dictionary, Slot, Edge, Callback, names, Emptied, Named}
use Rattle.law.proofs.Invariant.{Inv}
use Rattle.law.proofs.Listed.{Listed}

-- ---- what does not change

-- the slots, places and callback of an object are the same
abbrev pub Same : State → State → ℕ → Type 0
Same s t p = ((t.shape p).slots ≡ (s.shape p).slots) × (t.places p ≡ s.places p) × (t.callback p ≡ s.callback p)

-- then its places name the same
pub same_names : (s t : State) (p : ℕ) → Same s t p → (q : Place) → names t p q ≡ names s p q
same_names s t p e Dictionary = rw e.1 refl
same_names s t p e (Slot i) = rw (e.0, e.1) refl
same_names s t p e (Edge j) = rw (e.0, e.1) refl
same_names s t p e Callback = e.2

-- giving up a reference changes no place
pub give_up_same : (s : State) (x p : ℕ) → Same s (give_up x s) p
give_up_same s x p = give_up_cases s x (λ t. Same s t p) (λ lo. (refl, refl, refl)) (λ lo e. (refl, refl, refl)) (λ lo ph e. (λ a. (refl, refl, refl), λ a. (refl, refl, refl)))

-- ---- a death

-- a place names what it did, or a death has emptied it
abbrev pub Lost : State → State → ℕ → Place → Type 0
Lost s t p q = (names t p q ≡ names s p q) ⊎ ((names t p q ≡ 0) × Emptied s p q)

-- what changes no place changes nothing of that
likewise : (s t u : State) (p : ℕ) (q : Place) → Same t u p → Lost s t p q → Lost s u p q
likewise s t u p q e (inl f) = inl (same_names t u p e q ∙ f)
likewise s t u p q e (inr f) = inr (same_names t u p e q ∙ f.0, f.1)

-- a place that is emptied is 0, the others stay
set_zero : (l : List ℕ) (k j : ℕ) → k < length l → (get_or (set l k 0) j 0 ≡ get_or l j 0) ⊎ (get_or (set l k 0) j 0 ≡ 0)
set_zero l k j h = go (cases_eq j k)
  where
    go : (j ≡ k) ⊎ (j ≡ k → ⊥) → (get_or (set l k 0) j 0 ≡ get_or l j 0) ⊎ (get_or (set l k 0) j 0 ≡ 0)
    go (inl e) = inr (rw e (get_or-set_same l k 0 0 h))
    go (inr ne) = inl (get_or-set_other l k j 0 0 ne)

-- and so it is of what is read only under a condition
under : (b : Bool) (x y : ℕ) → (x ≡ y) ⊎ (x ≡ 0) → (cond b x 0 ≡ cond b y 0) ⊎ (cond b x 0 ≡ 0)
under true x y e = e
under false x y e = inr refl

-- a condition between two that are the same decides nothing
either : (b : Bool) (x : ℕ) → cond b x x ≡ x
either true x = refl
either false x = refl

-- what is emptied has a reason
because : {A : Type 0} (x y : ℕ) → A → (x ≡ y) ⊎ (x ≡ 0) → (x ≡ y) ⊎ ((x ≡ 0) × A)
because x y a (inl e) = inl e
because x y a (inr e) = inr (e, a)

module _ (s : State) (o : ℕ) (c : Emptying s o) where
  -- one place of it is emptied
  empties_lost : (k : ℕ) → k < length (s.places o) → (p : ℕ) (q : Place) → Lost s (with_places o (set (s.places o) k 0) s) p q
  empties_lost k h p q = go (cases_eq p o)
    where
      t : State
      t = with_places o (set (s.places o) k 0) s

      by : (q : Place) → Lost s t o q
      by Dictionary = rw (same o) (because _ _ c (set_zero (s.places o) k 0 h))
      by (Slot i) = rw (same o) (because _ _ c (under (ltb i (s.shape o).slots) _ _ (set_zero (s.places o) k (suc i) h)))
      by (Edge j) = rw (same o) (because _ _ c (set_zero (s.places o) k (suc ((s.shape o).slots + j)) h))
      by Callback = inl refl

      go : (p ≡ o) ⊎ (p ≡ o → ⊥) → Lost s t p q
      go (inl e) = rw e (by q)
      go (inr ne) = inl (same_names s t p (refl, rw (ne_eqb p o ne) refl, refl) q)

  -- its own callback is taken out, if it is a reference
  leaves_lost : (t : State) → ((p : ℕ) → (p ≡ o → ⊥) → Same s t p) → t.shape o ≡ s.shape o → t.places o ≡ s.places o → t.callback o ≡ 0 → (p : ℕ) (q : Place) → Lost s t p q
  leaves_lost t other sh pl cb p q = go (cases_eq p o)
    where
      by : (q : Place) → Lost s t o q
      by Dictionary = inl (rw pl refl)
      by (Slot i) = inl (rw (sh, pl) refl)
      by (Edge j) = inl (rw (sh, pl) refl)
      by Callback = inr (cb, inl c)

      go : (p ≡ o) ⊎ (p ≡ o → ⊥) → Lost s t p q
      go (inl e) = rw e (by q)
      go (inr ne) = inl (same_names s t p (other p ne) q)

  -- all that it names goes with it
  frees_lost : (below : List ℕ) (p : ℕ) (q : Place) → Lost s (leaving o below s) p q
  frees_lost below p q = go (cases_eq p o)
    where
      t : State
      t = leaving o below s

      by : (q : Place) → Lost s t o q
      by Dictionary = inr (rw (same o) refl, c)
      by (Slot i) = inr (rw (same o) (either (ltb i 0) 0), c)
      by (Edge j) = inr (rw (same o) refl, c)
      by Callback = inr (rw (same o) refl, inl c)

      go : (p ≡ o) ⊎ (p ≡ o → ⊥) → Lost s t p q
      go (inl e) = rw e (by q)
      go (inr ne) = inl (same_names s t p (rw (ne_eqb p o ne) refl, rw (ne_eqb p o ne) refl, rw (ne_eqb p o ne) refl) q)

-- a reference to an object whose clearing has begun loses its callback
out_lost : (s : State) (o : ℕ) → Cleared s o → (w : ℕ) → (s.shape w).referent ≡ o → (p : ℕ) (q : Place) → Lost s (with_callback w 0 s) p q
out_lost s o c w r p q = go (cases_eq p w)
  where
    t : State
    t = with_callback w 0 s

    by : (q : Place) → Lost s t w q
    by Dictionary = inl refl
    by (Slot i) = inl refl
    by (Edge j) = inl refl
    by Callback = inr (rw (same w) refl, inr (rw r c))

    go : (p ≡ w) ⊎ (p ≡ w → ⊥) → Lost s t p q
    go (inl e) = rw e (by q)
    go (inr ne) = inl (same_names s t p (refl, refl, rw (ne_eqb p w ne) refl) q)

-- the round loses the first callback alone
drains_same : (s : State) (o w : ℕ) (ws : List ℕ) (p : ℕ) → Same (with_callback w 0 s) (drains w ws o s) p
drains_same s o w ws p = cond_both (s.attends && not (eqb (s.callback w) 0)) _ _ (λ t. Same (with_callback w 0 s) t p) (λ e. (refl, refl, refl)) (λ e. (refl, refl, refl))

-- a round takes no callback
takes_same : (s : State) (o w : ℕ) (rest : List ℕ) (p : ℕ) → Same s (takes w rest o s) p
takes_same s o w rest p = cond_both (spent s w) _ _ (λ t. Same s t p) (λ e. (refl, refl, refl)) (λ e. (refl, refl, refl))

-- after a step of a death a place names what it did, unless the death has emptied it
pub step_named : (s : State) → Inv s [] → Listed s → Named Small s (advance s)
step_named s i l p q = advance_cases s (λ t. Lost s t p q) (record {
  idle = λ r. inl refl;
  gives = λ o below top x xs gv. gives_up (with_giving o xs s) x (still (with_giving o xs s) (refl, refl, refl));
  takes = λ o below top gv r w rest wk few. still (takes w rest o s) (takes_same s o w rest p);
  completes = λ o below top gv ph w ws hd. still (with_phase o Draining s) (refl, refl, refl);
  clears = λ o below top gv r hd wk. still (with_phase o (Freeing 0) s) (refl, refl, refl);
  drains = λ o below top gv ph w ws hd. likewise s (with_callback w 0 s) (drains w ws o s) p q (drains_same s o w ws p) (out_lost s o (rw ph refl, rw ph refl) w (l.round o w (rw hd (count_here w ws))) p q);
  empties = λ o below top gv k ph h.
      let t = with_places o (set (s.places o) k 0) s in
      gives_up (with_phase o (Freeing (suc k)) t) (get_or (s.places o) k 0) (likewise s t (with_phase o (Freeing (suc k)) t) p q (refl, refl, refl) (empties_lost s o (inl (k, ph)) k h p q));
  leaves = λ o below top gv k ph h.
      let t = with_callback o 0 (unlisted o s) in
      gives_up (with_phase o Leaving t) (s.callback o)
      (leaves_lost s o (inl (k, ph)) (with_phase o Leaving t) (λ y ne. (refl, refl, rw (ne_eqb y o ne) refl)) refl refl (rw (same o) refl) p q);
  frees = λ o below top gv ph. frees_lost s o (inr ph) below p q;
})
  where
    still : (t : State) → Same s t p → Lost s t p q
    still t e = inl (same_names s t p e q)

    gives_up : (t : State) (x : ℕ) → Lost s t p q → Lost s (give_up x t) p q
    gives_up t x = likewise s t (give_up x t) p q (give_up_same t x p)
