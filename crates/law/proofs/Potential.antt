-- How many turns are open and can still open, while only hand backs follow: no step of a death makes it more.
use Rattle.std.proofs.Common.{◌≡◌, ℕ, suc, ◌+◌, ◌-◌, ◌<◌, ◌≤◌, Bool, false, not, ◌&&◌, eqb, ◌⊎◌, List, [], ◌∷◌, ◌++◌, get_or, set, refl, ap, ◌∙◌, inl, inr, arith}
use Rattle.std.proofs.lemmas.Bool.{cases_eq, and_parts, cond_both, not-true, eqb-false, ne_eqb}
use Rattle.definition.specs.Base.{put, bit, sum_to}
use Rattle.definition.specs.State.{Phase, Absent, Resting, DelOpen, Taking, Draining, Calling, Freeing, Leaving, State, is_live}
use Rattle.definition.specs.Changes.{with_phase, with_places, with_callback, with_weak, with_held, with_giving}
use Rattle.definition.specs.Death.{more, spent, found, opened, uncached, takes, drains, unlisted, give_up, advance}
use Rattle.definition.proofs.Sums.{same, point, sum_put, sum_le}
use Rattle.definition.proofs.Advance.{give_up_cases, Top, Rounds, advance_cases}
use Rattle.definition.proofs.Work.{Tidy, phase_tidy}
use Rattle.law.proofs.Invariant.{Inv, between, live_born, alive}
use Rattle.law.proofs.Steps.{tidy, on_top, held_counted}

-- objects whose clearing has not begun
unfoldable pub asleep : (ℕ → Phase) → ℕ → ℕ
asleep phase next = sum_to next (λ p. bit (is_live (phase p)))

-- callbacks held
unfoldable pub watching : (ℕ → ℕ) → ℕ → ℕ
watching callback next = sum_to next (λ w. bit (not (eqb (callback w) 0)))

-- turns that are open, and that can still open
abbrev pub potential : State → ℕ
potential s = s.turns + asleep s.phase s.next + watching s.callback s.next

-- 1 for an open del turn whose object nobody keeps (b): its hand back begins the clearing
abbrev pub fresh_at : Phase → Bool → ℕ
fresh_at Absent b = 0
fresh_at Resting b = 0
fresh_at (DelOpen c) b = bit b
fresh_at Taking b = 0
fresh_at Draining b = 0
fresh_at (Calling c w) b = 0
fresh_at (Freeing k) b = 0
fresh_at Leaving b = 0

-- of the newest of the dying: without the turn's reference none would be left, and no mark keeps it
abbrev pub fresh_on : List ℕ → State → ℕ
fresh_on [] s = 0
fresh_on (o ∷ below) s = fresh_at (s.phase o) (eqb (s.strong o - 1) 0 && not (s.interned o))

-- 1 while the newest turn is such a one
unfoldable pub fresh : State → ℕ
fresh s = fresh_on s.stack s

-- ---- the parts of the potential

-- one phase changes
pub asleep_put : (phase : ℕ → Phase) (next o : ℕ) (p : Phase) → o < next → asleep (put phase o p) next + bit (is_live (phase o)) ≡ asleep phase next + bit (is_live p)
unfolding asleep
asleep_put phase next o p lo = sum_put next o (λ q. bit (is_live q)) phase p lo

-- a callback is taken out
watching_put : (callback : ℕ → ℕ) (next w : ℕ) → w < next → watching (put callback w 0) next + bit (not (eqb (callback w) 0)) ≡ watching callback next
unfolding watching
watching_put callback next w lw = omega (arith, sum_put next w (λ c. bit (not (eqb c 0))) callback 0 lw)

-- whether or not there was one
watching_less : (callback : ℕ → ℕ) (next w : ℕ) → watching (put callback w 0) next ≤ watching callback next
unfolding watching
watching_less callback next w =
    sum_le next (λ k. bit (not (eqb (put callback w 0 k) 0))) (λ k. bit (not (eqb (callback k) 0)))
    (point (λ k. bit (not (eqb (put callback w 0 k) 0)) ≤ bit (not (eqb (callback k) 0))) w (rw (same w) (omega arith)) (λ k ne. rw (ne_eqb k w ne) (omega arith)))

-- ---- a reference is given up

-- no more can open than before, but that a del turn may open that nobody can keep
pub give_up_potential : (s : State) (x : ℕ) → Tidy s → potential (give_up x s) ≤ potential s + fresh (give_up x s)
unfolding fresh
give_up_potential s x t =
    give_up_cases s x (λ u. potential u ≤ potential s + fresh u) (λ lo. omega arith) (λ lo e. omega arith)
    (λ lo ph e.
    let lx = t.below x (rw ph refl) in
    let unmarked = (and_parts _ (not (s.interned x)) e).1 in (
      λ a. rw (same x, unmarked) (omega (arith, rw ph at (asleep_put s.phase s.next x (DelOpen (found s x)) lx))),
      λ a. omega (arith, rw ph at (asleep_put s.phase s.next x Taking lx)),
    ))

-- ---- a step of the newest death

-- a phase in which an object is not live takes the place of another such
asleep_same : (phase : ℕ → Phase) (next o : ℕ) (p : Phase) → o < next → is_live (phase o) ≡ false → is_live p ≡ false → asleep (put phase o p) next ≡ asleep phase next
asleep_same phase next o p lo d e = omega (arith, rw (d, e) at (asleep_put phase next o p lo))

-- a round is of an object whose clearing has begun
rounds_dead : (s : State) (o : ℕ) → Rounds s o → is_live (s.phase o) ≡ false
rounds_dead s o (inl ph) = rw ph refl
rounds_dead s o (inr d) = rw d.0 refl

module _ (s : State) (i : Inv s []) (o : ℕ) (below : List ℕ) (top : Top s o below) where
  lo : o < s.next
  lo = (on_top s [] i o below top.stack).1

  -- a round takes a reference off the list
  takes_potential : Rounds s o → (w : ℕ) (rest : List ℕ) → potential (takes w rest o s) ≤ potential s
  takes_potential r w rest =
      let off = with_phase o Taking (with_weak o rest (uncached w o s)) in
      let a = asleep_same s.phase s.next o Taking lo (rounds_dead s o r) refl in
      cond_both (spent s w) off (with_held o (s.held o ++ (w ∷ [])) (more w off)) (λ t. potential t ≤ potential s) (λ e. omega (arith, a)) (λ e. omega (arith, a))

  -- a turn opens only for a callback that is taken out
  drains_potential : s.phase o ≡ Draining → (w : ℕ) (ws : List ℕ) → s.held o ≡ w ∷ ws → potential (drains w ws o s) ≤ potential s
  drains_potential ph w ws hd =
      let c = s.callback w in
      let out = with_held o ws (with_callback w 0 s) in
      cond_both (s.attends && not (eqb c 0)) (opened (with_phase o (Calling c w) (with_giving o (w ∷ c ∷ w ∷ []) (more w out)))) (with_giving o (c ∷ w ∷ []) out) (λ t. potential t ≤ potential s)
      (λ e.
      let some = (and_parts s.attends (not (eqb c 0)) e).1 in
      let pw : 0 < w = positive (cases_eq w 0) (not-true (eqb c 0) some) in
      let lw = (between s [] i w (live_born (s.phase w) (alive (i.good w pw) (omega (arith, held_counted s [] i o lo w ws hd pw))))).1 in
      omega (arith, asleep_same s.phase s.next o (Calling c w) lo (rw ph refl) refl, rw some at (watching_put s.callback s.next w lw)))
      (λ e. omega (arith, watching_less s.callback s.next w))
    where
      positive : (w ≡ 0) ⊎ (w ≡ 0 → ⊥) → eqb (s.callback w) 0 ≡ false → 0 < w
      positive (inl q) some = absurd (eqb-false (s.callback w) 0 some (ap s.callback q ∙ omega (arith, i.zeroth)))
      positive (inr ne) some = omega arith

-- a step makes no more, but that a del turn may open that nobody can keep
pub advance_potential : (s : State) → Inv s [] → potential (advance s) ≤ potential s + fresh (advance s)
advance_potential s i = advance_cases s (λ t. potential t ≤ potential s + fresh t) (record {
  idle = λ r. omega arith;
  gives = λ o below top x xs gv. give_up_potential (with_giving o xs s) x (tidy s [] i);
  takes = λ o below top gv r w rest wk few. omega (arith, takes_potential s i o below top r w rest);
  completes = λ o below top gv ph w ws hd. omega (arith, asleep_same s.phase s.next o Draining (lo s i o below top) (rw ph refl) refl);
  clears = λ o below top gv r hd wk. omega (arith, asleep_same s.phase s.next o (Freeing 0) (lo s i o below top) (rounds_dead s o r) refl);
  drains = λ o below top gv ph w ws hd. omega (arith, drains_potential s i o below top ph w ws hd);
  empties = λ o below top gv k ph h.
      let l = lo s i o below top in
      let t = with_phase o (Freeing (suc k)) (with_places o (set (s.places o) k 0) s) in
      omega (arith, asleep_same s.phase s.next o (Freeing (suc k)) l (rw ph refl) refl, give_up_potential t (get_or (s.places o) k 0) (phase_tidy s (tidy s [] i) o (Freeing (suc k)) l refl));
  leaves = λ o below top gv k ph h.
      let l = lo s i o below top in
      let t = with_phase o Leaving (with_callback o 0 (unlisted o s)) in
      omega (arith, asleep_same s.phase s.next o Leaving l (rw ph refl) refl, watching_less s.callback s.next o, give_up_potential t (s.callback o) (phase_tidy s (tidy s [] i) o Leaving l refl));
  frees = λ o below top gv ph. omega (arith, asleep_same s.phase s.next o Absent (lo s i o below top) (rw ph refl) refl, watching_less s.callback s.next o);
})
