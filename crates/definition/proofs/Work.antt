-- The deaths that a call starts come to rest.
use Rattle.std.proofs.Common.{◌≡◌, ℕ, suc, ◌+◌, ◌*◌, ◌<◌, ◌≤◌, true, not, ◌&&◌, eqb, ◌⊎◌, List, [], ◌∷◌, ◌++◌, length, get_or, set, refl, inl, inr, arith, length-append, length-set}
use Rattle.std.proofs.lemmas.Bool.{ne_eqb, cases_lt, and_parts, cond_both}
use Rattle.definition.specs.Base.{put, count}
use Rattle.definition.specs.State.{Phase, Absent, Resting, DelOpen, Taking, Draining, Calling, Freeing, Leaving, State, is_unfreed, is_resting}
use Rattle.definition.specs.Changes.{with_phase, with_places, with_callback, with_weak, with_held, with_giving}
use Rattle.definition.specs.Death.{less, more, spent, found, pushed, opened, del_opens, clearing_begins, give_up, uncached, takes, drains, unlisted, leaving, advance, weight, weighs, work}
use Rattle.definition.proofs.Sums.{same, point, sum_point, sum_le, count_cons, count_here, length_without}
use Rattle.definition.proofs.Advance.{is_dying, give_up_cases, Top, Rounds, advance_cases}

-- one object's weight changes
lighter : (s t : State) (o : ℕ) → o < s.next → s.next ≡ t.next → ((k : ℕ) → (k ≡ o → ⊥) → weighs t k ≡ weighs s k) → work t + weighs s o ≡ work s + weighs t o
unfolding work
lighter s t o l e d = rw (← e) (sum_point s.next o (weighs t) (weighs s) l d)

-- ---- giving up takes no work back

starts_work : (s : State) (x : ℕ) → x < s.next → s.phase x ≡ Resting → (work (del_opens x (found s x) s) ≤ work s) × (work (pushed x (clearing_begins x s)) ≤ work s)
starts_work s x l ph =
    let p = rw (same x, ph) at (lighter s (del_opens x (found s x) s) x l refl (λ k ne. rw (ne_eqb k x ne))) in
    let q = rw (same x, ph) at (lighter s (pushed x (clearing_begins x s)) x l refl (λ k ne. rw (ne_eqb k x ne))) in
    (omega arith, omega arith)

-- ---- what the steps rest on: the objects on the stack are dying, each once, and births are below the next

pub record Ordered (phase : ℕ → Phase) (stack : List ℕ) (next : ℕ) : Type 0 where
  pub below : (x : ℕ) → is_unfreed (phase x) ≡ true → x < next
  pub dying : (x : ℕ) → 0 < count x stack → is_dying (phase x) ≡ true
  pub once : (x : ℕ) → count x stack ≤ 1

abbrev pub Tidy : State → Type 0
Tidy s = Ordered s.phase s.stack s.next

pub give_up_work : (s : State) (x : ℕ) → Tidy s → work (give_up x s) ≤ work s
give_up_work s x t =
    let w : work (less x s) ≡ work s = unfold work in refl in
    give_up_cases s x (λ u. work u ≤ work s) (λ lo. omega arith) (λ lo e. omega (arith, w))
    (λ lo ph e. let r = starts_work (less x s) x (t.below x (rw ph refl)) ph in (λ a. omega (arith, w, r.0), λ a. omega (arith, w, r.1)))

-- ---- each step makes the work less

pub dying_unfreed : (p : Phase) → is_dying p ≡ true → is_unfreed p ≡ true
dying_unfreed p e = (and_parts (is_unfreed p) (not (is_resting p)) e).0

pub top_below : (s : State) → Tidy s → (o : ℕ) (below : List ℕ) → Top s o below → o < s.next
top_below s t o below top = t.below o (dying_unfreed (s.phase o) (t.dying o (rw top.stack (count_here o below))))

-- a step of the newest death from one dying phase to another
pub phase_tidy : (s : State) → Tidy s → (o : ℕ) (p : Phase) → o < s.next → is_dying p ≡ true → Tidy (with_phase o p s)
phase_tidy s t o p lo d = record {
  below = point (λ x. is_unfreed (put s.phase o p x) ≡ true → x < s.next) o (λ u. lo) (λ y ne. rw (ne_eqb y o ne) (t.below y));
  dying = point (λ x. 0 < count x s.stack → is_dying (put s.phase o p x) ≡ true) o (λ c. rw (same o) d) (λ y ne. rw (ne_eqb y o ne) (t.dying y));
  once = t.once;
}

-- x starts to die
push_tidy : (s : State) → Tidy s → (x : ℕ) (p : Phase) → s.phase x ≡ Resting → is_dying p ≡ true → Ordered (put s.phase x p) (x ∷ s.stack) s.next
push_tidy s t x p ph d = record {
  below = point (λ y. is_unfreed (put s.phase x p y) ≡ true → y < s.next) x (λ u. t.below x (rw ph refl)) (λ y ne. rw (ne_eqb y x ne) (t.below y));
  dying = point (λ y. 0 < count y (x ∷ s.stack) → is_dying (put s.phase x p y) ≡ true) x (λ c. rw (same x) d) (λ y ne. rw (ne_eqb y x ne) (t.dying y));
  once = point (λ y. count y (x ∷ s.stack) ≤ 1) x (rw (same x) (none (cases_lt 0 (count x s.stack)))) (λ y ne. rw (ne_eqb y x ne) (t.once y));
}
  where
    none : (0 < count x s.stack) ⊎ (count x s.stack ≤ 0) → suc (count x s.stack) ≤ 1
    none (inl h) = let e : is_dying Resting ≡ true = rw ph at (t.dying x h) in let z : ◌≡◌ {A = ℕ} 0 1 = cc in absurd (omega arith)
    none (inr h) = omega arith

pub give_up_tidy : (s : State) (x : ℕ) → Tidy s → Tidy (give_up x s)
give_up_tidy s x t = give_up_cases s x Tidy (λ lo. t) (λ lo e. t) (λ lo ph e. (λ a. push_tidy s t x (DelOpen (found s x)) ph refl, λ a. push_tidy s t x Taking ph refl))

-- o leaves the stack
pub pop_tidy : (s : State) → Tidy s → (o : ℕ) (below : List ℕ) (p : Phase) → s.stack ≡ o ∷ below → (is_unfreed p ≡ true → o < s.next) → Ordered (put s.phase o p) below s.next
pop_tidy s t o below p st lo = record {
  below = point (λ y. is_unfreed (put s.phase o p y) ≡ true → y < s.next) o (rw (same o) lo) (λ y ne. rw (ne_eqb y o ne) (t.below y));
  dying = point (λ y. 0 < count y below → is_dying (put s.phase o p y) ≡ true) o (λ c. absurd (omega (arith, gone))) (λ y ne c. rw (ne_eqb y o ne) (t.dying y (rw (st, ne_eqb y o ne) c)));
  once = λ y. omega (arith, rw st at (t.once y), count_cons y o below);
}
  where
    gone : count o below ≡ 0
    gone = let h : suc (count o below) ≤ 1 = rw (st, same o) at (t.once o) in omega arith

-- taking a reference off alters no phase but that of o
takes_tidy : (s : State) → Tidy s → (o : ℕ) → o < s.next → (w : ℕ) (rest : List ℕ) → Tidy (takes w rest o s)
takes_tidy s t o lo w rest =
    let off = with_phase o Taking (with_weak o rest (uncached w o s)) in
    cond_both (spent s w) off (with_held o (s.held o ++ (w ∷ [])) (more w off)) Tidy (λ e. phase_tidy s t o Taking lo refl) (λ e. phase_tidy s t o Taking lo refl)

drains_tidy : (s : State) → Tidy s → (o : ℕ) → o < s.next → (w : ℕ) (rest : List ℕ) → Tidy (drains w rest o s)
drains_tidy s t o lo w rest =
    let c = s.callback w in
    let out = with_held o rest (with_callback w 0 s) in
    cond_both (s.attends && not (eqb c 0)) (opened (with_phase o (Calling c w) (with_giving o (w ∷ c ∷ w ∷ []) (more w out)))) (with_giving o (c ∷ w ∷ []) out) Tidy
    (λ e. phase_tidy s t o (Calling c w) lo refl) (λ e. t)

pub advance_tidy : (s : State) → Tidy s → Tidy (advance s)
advance_tidy s t = advance_cases s Tidy (record {
  idle = λ r. t;
  gives = λ o below top x xs gv. give_up_tidy (with_giving o xs s) x t;
  takes = λ o below top gv r w rest wk h. takes_tidy s t o (top_below s t o below top) w rest;
  completes = λ o below top gv ph w ws hd. phase_tidy s t o Draining (top_below s t o below top) refl;
  clears = λ o below top gv r hd wk. phase_tidy s t o (Freeing 0) (top_below s t o below top) refl;
  drains = λ o below top gv ph w ws hd. drains_tidy s t o (top_below s t o below top) w ws;
  empties = λ o below top gv k ph h. give_up_tidy (with_phase o (Freeing (suc k)) (with_places o (set (s.places o) k 0) s)) (get_or (s.places o) k 0) (phase_tidy s t o (Freeing (suc k)) (top_below s t o below top) refl);
  leaves = λ o below top gv k ph h. give_up_tidy (with_phase o Leaving (with_callback o 0 (unlisted o s))) (s.callback o) (phase_tidy s t o Leaving (top_below s t o below top) refl);
  frees = λ o below top gv ph. pop_tidy s t o below Absent top.stack (λ u. let z : ◌≡◌ {A = ℕ} 0 1 = cc in absurd (omega arith));
})

-- ---- the work of each step

unlisted_work : (s : State) (o : ℕ) → work (unlisted o s) ≤ work s
unfolding work
unlisted_work s o =
    let r = (s.shape o).referent in
    sum_le s.next (weighs (unlisted o s)) (weighs s)
    (point (λ j. weighs (unlisted o s) j ≤ weighs s j) r (rw (same r) (omega (arith, length_without o (s.weak r)))) (λ j ne. rw (ne_eqb j r ne) (omega arith)))

module _ (s : State) (o : ℕ) (lo : o < s.next) where
  -- the weight of o alone changes
  alone : (t : State) → s.next ≡ t.next → ((k : ℕ) → (k ≡ o → ⊥) → weighs t k ≡ weighs s k) → weighs t o < weighs s o → work t < work s
  alone t e d l = omega (arith, lighter s t o lo e d)

  pub gives_work : (x : ℕ) (xs : List ℕ) → s.giving o ≡ x ∷ xs → work (with_giving o xs s) < work s
  gives_work x xs gv = alone (with_giving o xs s) refl (λ k ne. rw (ne_eqb k o ne)) (rw (same o, gv) (omega arith))

  pub takes_work : s.giving o ≡ [] → Rounds s o → (w : ℕ) (rest : List ℕ) → s.weak o ≡ w ∷ rest → work (takes w rest o s) < work s
  takes_work gv r w rest wk =
      let off = with_phase o Taking (with_weak o rest (uncached w o s)) in
      cond_both (spent s w) off (with_held o (s.held o ++ (w ∷ [])) (more w off)) (λ t. work t < work s)
      (λ e. alone off refl (λ k ne. rw (ne_eqb k o ne)) (rw (same o, gv, wk) (passed r)))
      (λ e. alone (with_held o (s.held o ++ (w ∷ [])) (more w off)) refl (λ k ne. rw (ne_eqb k o ne)) (rw (same o, gv, wk, length-append (s.held o) (w ∷ [])) (holds r)))
    where
      passed : Rounds s o → weight Taking (length (s.places o)) + 0 + 4 * length (s.held o) + 6 * length rest < weight (s.phase o) (length (s.places o)) + 0 + 4 * length (s.held o) + 6 * suc (length rest)
      passed (inl ph) = rw ph (omega arith)
      passed (inr d) = rw d.0 (omega arith)

      holds : Rounds s o → weight Taking (length (s.places o)) + 0 + 4 * (length (s.held o) + 1) + 6 * length rest < weight (s.phase o) (length (s.places o)) + 0 + 4 * length (s.held o) + 6 * suc (length rest)
      holds (inl ph) = rw ph (omega arith)
      holds (inr d) = rw d.0 (omega arith)

  pub completes_work : s.phase o ≡ Taking → work (with_phase o Draining s) < work s
  completes_work ph = alone (with_phase o Draining s) refl (λ k ne. rw (ne_eqb k o ne)) (rw (same o, ph) (omega arith))

  pub clears_work : Rounds s o → work (with_phase o (Freeing 0) s) < work s
  clears_work (inl ph) = alone (with_phase o (Freeing 0) s) refl (λ k ne. rw (ne_eqb k o ne)) (rw (same o, ph) (omega arith))
  clears_work (inr d) = alone (with_phase o (Freeing 0) s) refl (λ k ne. rw (ne_eqb k o ne)) (rw (same o, d.0) (omega arith))

  pub drains_work : s.giving o ≡ [] → s.phase o ≡ Draining → (w : ℕ) (ws : List ℕ) → s.held o ≡ w ∷ ws → work (drains w ws o s) < work s
  drains_work gv ph w ws hd =
      let c = s.callback w in
      let out = with_held o ws (with_callback w 0 s) in
      let calls = opened (with_phase o (Calling c w) (with_giving o (w ∷ c ∷ w ∷ []) (more w out))) in
      cond_both (s.attends && not (eqb c 0)) calls (with_giving o (c ∷ w ∷ []) out) (λ t. work t < work s)
      (λ e. alone calls refl (λ k ne. rw (ne_eqb k o ne)) (rw (same o, ph, gv, hd) (omega arith)))
      (λ e. alone (with_giving o (c ∷ w ∷ []) out) refl (λ k ne. rw (ne_eqb k o ne)) (rw (same o, ph, gv, hd) (omega arith)))

  pub empties_work : (k : ℕ) → s.phase o ≡ Freeing k → k < length (s.places o) → work (with_phase o (Freeing (suc k)) (with_places o (set (s.places o) k 0) s)) < work s
  empties_work k ph h =
      alone (with_phase o (Freeing (suc k)) (with_places o (set (s.places o) k 0) s)) refl (λ j ne. rw (ne_eqb j o ne)) (rw (same o, ph, length-set (s.places o) k 0) (omega arith))

  pub frees_work : (below : List ℕ) → s.phase o ≡ Leaving → work (leaving o below s) < work s
  frees_work below ph = alone (leaving o below s) refl (λ k ne. rw (ne_eqb k o ne)) (rw (same o, ph) (omega arith))

  pub leaves_work : (k : ℕ) → s.phase o ≡ Freeing k → work (with_phase o Leaving (with_callback o 0 (unlisted o s))) < work s
  leaves_work k ph =
      omega (arith, rw (same o, ph) at (lighter (unlisted o s) (with_phase o Leaving (with_callback o 0 (unlisted o s))) o lo refl (λ j ne. rw (ne_eqb j o ne))), unlisted_work s o)
