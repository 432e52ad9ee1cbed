-- The ways in which a step can go, each with what is known there.
use Rattle.std.proofs.Common.{◌≡◌, ℕ, suc, ◌<◌, ◌≤◌, Bool, true, false, not, ◌&&◌, eqb, ltb, leb, ◌⊎◌, List, [], ◌∷◌, length, get_or, set, refl, ap, ◌∙◌, inl, inr, arith}
use Rattle.std.proofs.lemmas.Bool.{and_parts, both_ways, leb-true, leb-false, ltb-true, ltb-false, cond_both}
use Rattle.definition.specs.State.{Phase, Absent, Resting, DelOpen, Taking, Draining, Calling, Freeing, Leaving, State, is_unfreed, is_resting, is_open}
use Rattle.definition.specs.Base.{count}
use Rattle.definition.specs.Changes.{with_phase, with_places, with_callback, with_giving}
use Rattle.definition.proofs.Sums.{count_here}
use Rattle.definition.specs.Death as death
use Rattle.definition.specs.Death.{loose, less, spent, found, pushed, del_opens, clearing_begins, dies, lost, give_up, takes, round_ends, taking, drains, draining, unlisted, freeing, leaving, by_phase, going_on, on_top, advance, waits, rests}

-- unfreed, and not at rest
abbrev pub is_dying : Phase → Bool
is_dying p = is_unfreed p && not (is_resting p)

pub resting_phase : (p : Phase) → is_resting p ≡ true → p ≡ Resting
resting_phase Absent e = let z : ◌≡◌ {A = ℕ} 0 1 = cc in absurd (omega arith)
resting_phase Resting e = refl
resting_phase (DelOpen c) e = let z : ◌≡◌ {A = ℕ} 0 1 = cc in absurd (omega arith)
resting_phase Taking e = let z : ◌≡◌ {A = ℕ} 0 1 = cc in absurd (omega arith)
resting_phase Draining e = let z : ◌≡◌ {A = ℕ} 0 1 = cc in absurd (omega arith)
resting_phase (Calling c w) e = let z : ◌≡◌ {A = ℕ} 0 1 = cc in absurd (omega arith)
resting_phase (Freeing k) e = let z : ◌≡◌ {A = ℕ} 0 1 = cc in absurd (omega arith)
resting_phase Leaving e = let z : ◌≡◌ {A = ℕ} 0 1 = cc in absurd (omega arith)

-- what giving x up makes of a state, way by way: nothing, where x has no reference besides the handles; one reference
-- fewer; or a death that starts, by a del turn or by clearing
pub give_up_cases :
    (s : State) (x : ℕ) (P : State → Type 0)
    → (loose s x ≡ false → P s)
    → (loose s x ≡ true → (is_resting (s.phase x) && spent (less x s) x) ≡ false → P (less x s))
    → (loose s x ≡ true → s.phase x ≡ Resting → spent (less x s) x ≡ true → ((s.attends && not (eqb (found s x) 0)) ≡ true → P (del_opens x (found s x) (less x s))) × ((s.attends && not (eqb (found s x) 0)) ≡ false → P (pushed x (clearing_begins x (less x s)))))
    → P (give_up x s)
unfolding give_up
give_up_cases s x P none fewer starts =
    cond_both (loose s x) (lost x (less x s)) s P
    (λ lo. cond_both (is_resting (s.phase x) && spent (less x s) x) (dies x (less x s)) (less x s) P
    (λ e.
    let q = and_parts (is_resting (s.phase x)) (spent (less x s) x) e in
    let r = starts lo (resting_phase (s.phase x) q.0) q.1 in
    cond_both (s.attends && not (eqb (found s x) 0)) (del_opens x (found s x) (less x s)) (pushed x (clearing_begins x (less x s))) P r.0 r.1)
    (fewer lo))
    none

-- o is the newest of the dying, and waits for no hand back
pub record Top (s : State) (o : ℕ) (below : List ℕ) : Type 0 where
  pub stack : s.stack ≡ o ∷ below
  pub moves : is_open (s.phase o) ≡ false

-- a round takes references, or begins
abbrev pub Rounds : State → ℕ → Type 0
Rounds s o = (s.phase o ≡ Taking) ⊎ ((s.phase o ≡ Draining) × (s.held o ≡ []))

-- nothing goes on: no work is left, or what stands on the stack is not dying
abbrev pub Idle : State → Type 0
Idle s = (rests s ≡ true) ⊎ ((o : ℕ) × (0 < count o s.stack) × (is_dying (s.phase o) ≡ false))

-- what a step makes of a state, way by way
pub record Cases (s : State) (P : State → Type 0) : Type 0 where
  pub idle : Idle s → P s
  pub gives : (o : ℕ) (below : List ℕ) → Top s o below → (x : ℕ) (xs : List ℕ) → s.giving o ≡ x ∷ xs → P (give_up x (with_giving o xs s))
  pub takes : (o : ℕ) (below : List ℕ) → Top s o below → s.giving o ≡ [] → Rounds s o → (w : ℕ) (rest : List ℕ) → s.weak o ≡ w ∷ rest → length (s.held o) < 16 → P (takes w rest o s)
  pub completes : (o : ℕ) (below : List ℕ) → Top s o below → s.giving o ≡ [] → s.phase o ≡ Taking → (w : ℕ) (ws : List ℕ) → s.held o ≡ w ∷ ws → P (with_phase o Draining s)
  pub clears : (o : ℕ) (below : List ℕ) → Top s o below → s.giving o ≡ [] → Rounds s o → s.held o ≡ [] → s.weak o ≡ [] → P (with_phase o (Freeing 0) s)
  pub drains : (o : ℕ) (below : List ℕ) → Top s o below → s.giving o ≡ [] → s.phase o ≡ Draining → (w : ℕ) (ws : List ℕ) → s.held o ≡ w ∷ ws → P (drains w ws o s)
  pub empties : (o : ℕ) (below : List ℕ) → Top s o below → s.giving o ≡ [] → (k : ℕ) → s.phase o ≡ Freeing k → k < length (s.places o) → P (give_up (get_or (s.places o) k 0) (with_phase o (Freeing (suc k)) (with_places o (set (s.places o) k 0) s)))
  pub leaves : (o : ℕ) (below : List ℕ) → Top s o below → s.giving o ≡ [] → (k : ℕ) → s.phase o ≡ Freeing k → length (s.places o) ≤ k → P (give_up (s.callback o) (with_phase o Leaving (with_callback o 0 (unlisted o s))))
  pub frees : (o : ℕ) (below : List ℕ) → Top s o below → s.giving o ≡ [] → s.phase o ≡ Leaving → P (leaving o below s)

module _ (s : State) (P : State → Type 0) (c : Cases s P) (o : ℕ) (below : List ℕ) (top : Top s o below) (gv : s.giving o ≡ []) where
  ends_case : Rounds s o → (l : List ℕ) → s.held o ≡ l → (s.weak o ≡ []) ⊎ (0 < length l) → P (round_ends l o s)
  ends_case r [] hd (inl wk) = c.clears o below top gv r hd wk
  ends_case r [] hd (inr h) = absurd (omega arith)
  ends_case (inl ph) (w ∷ ws) hd e = c.completes o below top gv ph w ws hd
  ends_case (inr d) (w ∷ ws) hd e = let z : ◌≡◌ {A = ℕ} (length (s.held o)) 0 = ap length d.1 in absurd (omega (arith, ap length hd))

  taking_case : Rounds s o → (l : List ℕ) → s.weak o ≡ l → P (taking l o s)
  taking_case r [] wk = ends_case r (s.held o) refl (inl wk)
  taking_case r (w ∷ ws) wk =
      cond_both (leb 16 (length (s.held o))) (round_ends (s.held o) o s) (death.takes w ws o s) P
      (λ e. ends_case r (s.held o) refl (inr (omega (arith, leb-true 16 (length (s.held o)) e))))
      (λ e. c.takes o below top gv r w ws wk (leb-false 16 (length (s.held o)) e))

  draining_case : s.phase o ≡ Draining → (l : List ℕ) → s.held o ≡ l → P (draining l o s)
  draining_case ph [] hd = taking_case (inr (ph, hd)) (s.weak o) refl
  draining_case ph (w ∷ ws) hd = c.drains o below top gv ph w ws hd

  freeing_case : (k : ℕ) → s.phase o ≡ Freeing k → P (freeing k o s)
  freeing_case k ph =
      cond_both (ltb k (length (s.places o)))
      (give_up (get_or (s.places o) k 0) (with_phase o (Freeing (suc k)) (with_places o (set (s.places o) k 0) s)))
      (give_up (s.callback o) (with_phase o Leaving (with_callback o 0 (unlisted o s)))) P
      (λ e. c.empties o below top gv k ph (ltb-true k (length (s.places o)) e))
      (λ e. c.leaves o below top gv k ph (ltb-false k (length (s.places o)) e))

  stuck : is_dying (s.phase o) ≡ false → P s
  stuck e = c.idle (inr (o, rw top.stack (count_here o below), e))

  waiting : is_open (s.phase o) ≡ true → P s
  waiting e = let z = both_ways (is_open (s.phase o)) top.moves e in absurd z

  phase_case : (p : Phase) → s.phase o ≡ p → P (by_phase p o below s)
  phase_case Absent ph = stuck (rw ph refl)
  phase_case Resting ph = stuck (rw ph refl)
  phase_case (DelOpen d) ph = waiting (rw ph refl)
  phase_case Taking ph = taking_case (inl ph) (s.weak o) refl
  phase_case Draining ph = draining_case ph (s.held o) refl
  phase_case (Calling d w) ph = waiting (rw ph refl)
  phase_case (Freeing k) ph = freeing_case k ph
  phase_case Leaving ph = c.frees o below top gv ph

going_case : (s : State) (P : State → Type 0) → Cases s P → (o : ℕ) (below : List ℕ) → Top s o below → (l : List ℕ) → s.giving o ≡ l → P (going_on l o below s)
going_case s P c o below top [] gv = phase_case s P c o below top gv (s.phase o) refl
going_case s P c o below top (x ∷ xs) gv = c.gives o below top x xs gv

top_case : (s : State) (P : State → Type 0) → Cases s P → (l : List ℕ) → s.stack ≡ l → P (on_top l s)
top_case s P c [] st = c.idle (inl (ap (λ (l : List ℕ). waits l s) st))
top_case s P c (o ∷ below) st =
    cond_both (is_open (s.phase o)) s (going_on (s.giving o) o below s) P (λ e. c.idle (inl (ap (λ (l : List ℕ). waits l s) st ∙ e))) (λ e. going_case s P c o below (record { stack = st; moves = e }) (s.giving o) refl)

pub advance_cases : (s : State) (P : State → Type 0) → Cases s P → P (advance s)
unfolding advance
advance_cases s P c = top_case s P c s.stack refl
