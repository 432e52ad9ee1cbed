-- What a small step changes of phases and of the stack.
use Rattle.std.proofs.Common.{◌≡◌, ℕ, suc, false, not, ◌&&◌, eqb, List, [], ◌∷◌, ◌++◌, get_or, set, refl, inl, inr, arith}
use Rattle.std.proofs.lemmas.Bool.{ne_eqb, both_ways, cond_both}
use Rattle.definition.specs.State.{Phase, Taking, Draining, Calling, Freeing, Leaving, State, is_unfreed, is_live}
use Rattle.definition.specs.Changes.{with_phase, with_places, with_callback, with_weak, with_held, with_giving}
use Rattle.definition.specs.Death.{more, spent, found, opened, uncached, takes, drains, unlisted, leaving, advance}
use Rattle.definition.proofs.Sums.{same, point}
use Rattle.definition.proofs.Advance.{Top, Rounds, advance_cases}
use Rattle.law.specs.Events.{Cleared}
use Rattle.law.specs.Run.{Small}
use Rattle.law.specs.Law.{Still}
use Rattle.law.proofs.Invariant.{Inv, between, alive}
use Rattle.law.proofs.Steps.{on_top, held_counted}
use Rattle.law.proofs.Living.{Goes, Happens, goes, pops, Quiet, quiet, Alike, Changes, give_up_changes}

-- where nothing changes
pub still_self : (s : State) (o : ℕ) → Still s s o
still_self s o = record { phase = refl; round = refl; giving = refl; places = λ c. refl; callback = λ c. refl }

pub quiet_self : (s : State) → Quiet s s
quiet_self s = record { phases = λ o. inl refl; stack = refl; stills = λ o d n. still_self s o }

module _ (s : State) (o : ℕ) (below : List ℕ) (top : Top s o below) where
  -- a step that touches the newest death only
  of_top : (t : State) → t.stack ≡ s.stack → Goes s t o → ((y : ℕ) → (y ≡ o → ⊥) → Still s t y) → Quiet s t
  of_top t st g stills = record {
    phases = point (Goes s t) o g (λ y ne. inl (stills y ne).phase);
    stack = st;
    stills = λ y d n. stills y (λ e. n below (rw e top.stack));
  }

  -- its clearing has begun
  taking : s.phase o ≡ Taking → Cleared s o
  taking ph = rw ph (refl, refl)

  draining : s.phase o ≡ Draining → Cleared s o
  draining ph = rw ph (refl, refl)

  freeing : (k : ℕ) → s.phase o ≡ Freeing k → Cleared s o
  freeing k ph = rw ph (refl, refl)

  rounds : Rounds s o → Cleared s o
  rounds (inl ph) = taking ph
  rounds (inr d) = draining d.0

  -- what it gives up next is taken off its list
  gives_quiet : (xs : List ℕ) → Quiet s (with_giving o xs s)
  gives_quiet xs = of_top (with_giving o xs s) refl (inl refl) (λ y ne. record { phase = refl; round = refl; giving = rw (ne_eqb y o ne) refl; places = λ c. refl; callback = λ c. refl })

  -- its round takes a reference, or passes over it
  takes_quiet : Rounds s o → (w : ℕ) (rest : List ℕ) → Quiet s (takes w rest o s)
  takes_quiet r w rest =
      let off = with_phase o Taking (with_weak o rest (uncached w o s)) in
      cond_both (spent s w) off (with_held o (s.held o ++ (w ∷ [])) (more w off)) (Quiet s)
      (λ e. of_top off refl (inr (rounds r, rw (same o) refl)) (λ y ne. record { phase = rw (ne_eqb y o ne) refl; round = refl; giving = refl; places = λ c. refl; callback = λ c. refl }))
      (λ e. of_top (with_held o (s.held o ++ (w ∷ [])) (more w off)) refl (inr (rounds r, rw (same o) refl)) (λ y ne. record { phase = rw (ne_eqb y o ne) refl; round = rw (ne_eqb y o ne) refl; giving = refl; places = λ c. refl; callback = λ c. refl }))

  -- from one phase of a clearing to another
  phase_quiet : Cleared s o → (p : Phase) → is_live p ≡ false → Quiet s (with_phase o p s)
  phase_quiet c p e = of_top (with_phase o p s) refl (inr (c, rw (same o) e)) (λ y ne. record { phase = rw (ne_eqb y o ne) refl; round = refl; giving = refl; places = λ c. refl; callback = λ c. refl })

  -- a reference of its round, which is not one whose clearing has begun, loses its callback
  drains_quiet : s.phase o ≡ Draining → (w : ℕ) (ws : List ℕ) → ((y : ℕ) → Cleared s y → y ≡ w → ⊥) → Quiet s (drains w ws o s)
  drains_quiet ph w ws apart =
      let c = s.callback w in
      let out = with_held o ws (with_callback w 0 s) in
      let calls = opened (with_phase o (Calling c w) (with_giving o (w ∷ c ∷ w ∷ []) (more w out))) in
      cond_both (s.attends && not (eqb c 0)) calls (with_giving o (c ∷ w ∷ []) out) (Quiet s)
      (λ e. of_top calls refl (inr (draining ph, rw (same o) refl)) (λ y ne. record { phase = rw (ne_eqb y o ne) refl; round = rw (ne_eqb y o ne) refl; giving = rw (ne_eqb y o ne) refl; places = λ c. refl; callback = λ z. rw (ne_eqb y w (apart y z)) refl }))
      (λ e. of_top (with_giving o (c ∷ w ∷ []) out) refl (inl refl) (λ y ne. record { phase = refl; round = rw (ne_eqb y o ne) refl; giving = rw (ne_eqb y o ne) refl; places = λ c. refl; callback = λ z. rw (ne_eqb y w (apart y z)) refl }))

  -- a place is emptied
  empties_quiet : (k : ℕ) → s.phase o ≡ Freeing k → Quiet s (with_phase o (Freeing (suc k)) (with_places o (set (s.places o) k 0) s))
  empties_quiet k ph =
      of_top (with_phase o (Freeing (suc k)) (with_places o (set (s.places o) k 0) s)) refl (inr (freeing k ph, rw (same o) refl)) (λ y ne. record { phase = rw (ne_eqb y o ne) refl; round = refl; giving = refl; places = λ c. rw (ne_eqb y o ne) refl; callback = λ c. refl })

  -- the last place was emptied
  leaves_quiet : (k : ℕ) → s.phase o ≡ Freeing k → Quiet s (with_phase o Leaving (with_callback o 0 (unlisted o s)))
  leaves_quiet k ph = of_top (with_phase o Leaving (with_callback o 0 (unlisted o s))) refl (inr (freeing k ph, rw (same o) refl)) (λ y ne. record { phase = rw (ne_eqb y o ne) refl; round = refl; giving = refl; places = λ c. refl; callback = λ z. rw (ne_eqb y o ne) refl })

  -- a free ends the newest death
  frees_changes : s.phase o ≡ Leaving → Changes Small s (leaving o below s)
  frees_changes ph = record {
    phases = point (λ y. Happens Small s (leaving o below s) y) o (goes (inr (rw ph (refl, refl), rw (same o) refl))) (λ y ne. goes (inl (rw (ne_eqb y o ne) refl)));
    stacks = pops o below top.stack refl (rw (same o) refl);
    stills = λ y d n. let ne = ne_eqb y o (λ e. n below (rw e top.stack)) in record { phase = rw ne refl; round = rw ne refl; giving = rw ne refl; places = λ c. rw ne refl; callback = λ c. rw ne refl };
  }

-- what a round holds is live, so its clearing has not begun
not_held : (s : State) → Inv s [] → (o : ℕ) (below : List ℕ) → Top s o below → (w : ℕ) (ws : List ℕ) → s.held o ≡ w ∷ ws → (y : ℕ) → Cleared s y → y ≡ w → ⊥
not_held s i o below top w ws hd y c e =
    let py = (between s [] i y (λ q. both_ways (is_unfreed (s.phase y)) (rw q refl) c.0)).0 in
    let n = held_counted s [] i o (on_top s [] i o below top.stack).1 y ws (rw e hd) py in
    both_ways (is_live (s.phase y)) c.1 (alive (i.good y py) (omega (arith, n)))

-- in what counts for a death that may start, nothing has changed but phases of clearings
pub alike : (s u : State) → Quiet s u → u.strong ≡ s.strong → u.interned ≡ s.interned → u.attends ≡ s.attends → ((o : ℕ) → found u o ≡ found s o) → Alike s u
alike s u q st i a f = record { quiet = q; strong = λ o. rw st refl; interned = λ o. rw i refl; attends = a; found = f }

-- each way in which a small step can go
pub small_changes : (s : State) → Inv s [] → Changes Small s (advance s)
small_changes s i = advance_cases s (Changes Small s) (record {
  idle = λ r. quiet Small s s (quiet_self s);
  gives = λ o below top x xs gv. give_up_changes Small s (with_giving o xs s) x (alike s (with_giving o xs s) (gives_quiet s o below top xs) refl refl refl (λ y. refl));
  takes = λ o below top gv r w rest wk few. quiet Small s (takes w rest o s) (takes_quiet s o below top r w rest);
  completes = λ o below top gv ph w ws hd. quiet Small s (with_phase o Draining s) (phase_quiet s o below top (taking s o below top ph) Draining refl);
  clears = λ o below top gv r hd wk. quiet Small s (with_phase o (Freeing 0) s) (phase_quiet s o below top (rounds s o below top r) (Freeing 0) refl);
  drains = λ o below top gv ph w ws hd. quiet Small s (drains w ws o s) (drains_quiet s o below top ph w ws (λ y c e. not_held s i o below top w ws hd y c e));
  empties = λ o below top gv k ph h.
      let u = with_phase o (Freeing (suc k)) (with_places o (set (s.places o) k 0) s) in
      give_up_changes Small s u (get_or (s.places o) k 0) (alike s u (empties_quiet s o below top k ph) refl refl refl (λ y. refl));
  leaves = λ o below top gv k ph h.
      let u = with_phase o Leaving (with_callback o 0 (unlisted o s)) in
      give_up_changes Small s u (s.callback o) (alike s u (leaves_quiet s o below top k ph) refl refl refl (λ y. refl));
  frees = λ o below top gv ph. frees_changes s o below top ph;
})
