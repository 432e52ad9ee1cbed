-- A hand back keeps the invariant.
use Rattle.std.proofs.Common.{◌≡◌, ℕ, suc, ◌+◌, ◌-◌, ◌<◌, true, false, not, ◌||◌, eqb, ltb, ◌⊎◌, List, [], ◌∷◌, length, refl, inl, inr, arith}
use Rattle.std.proofs.lemmas.Bool.{ne_eqb, eqb-false, cases_eq, cond_both, or_parts, ltb-false, eqb-true, not-false}
use Rattle.refusal.specs.declared.Refusal.TheVariants.{NotNewest, ListShort}
use Rattle.definition.specs.Base.{bit, count}
use Rattle.definition.specs.State.{Phase, Absent, Resting, DelOpen, Taking, Draining, Calling, Freeing, Leaving, State, is_open}
use Rattle.definition.specs.Changes.{with_phase, with_turns, with_stack}
use Rattle.definition.specs.Death.{loose, less, spent, clearing_begins, rests}
use Rattle.definition.specs.Refusals.{at_argument, at_none}
use Rattle.definition.specs.Calls.{HandBack, del_ends, handed_back, newest_back, outcome}
use Rattle.definition.proofs.Sums.{same, point}
use Rattle.law.specs.Run.{own_change}
use Rattle.law.proofs.Invariant.{Good, placed, lent, GoodAt, Inv, phase_frame, now_spent, not_spent}
use Rattle.law.proofs.Moves.{phase_inv}
use Rattle.law.proofs.Steps.{on_top}
use Rattle.law.proofs.Granted.{Granted, own_first}

-- ---- one object's numbers

-- the turn's reference goes, and nothing keeps the object
del_clears : {s m h q l w e r g k : ℕ} (c : ℕ) → Good (DelOpen c) s m h q l w e r g k → s - 1 ≡ 0 → m ≡ 0 → Good Taking (s - 1) m h q l w 0 r g k
del_clears c i z y = omega arith

-- or something does
del_keeps : {s m h q l w e r g k : ℕ} (c k' : ℕ) → Good (DelOpen c) s m h q l w e r g k → 0 < (s - 1) + m → k ≡ suc k' → Good Resting (s - 1) m h q l w 0 r g k'
del_keeps c k' i z y = omega arith

module _ (s : State) (i : Inv s []) (some : 0 < s.turns) (o : ℕ) (below : List ℕ) (st : s.stack ≡ o ∷ below) where
  po : 0 < o
  po = (on_top s [] i o below st).0

  lo : o < s.next
  lo = (on_top s [] i o below st).1

  off : eqb 0 o ≡ false
  off = ne_eqb 0 o (λ q. omega (arith, po))

  -- a callback turn's hand back
  call_ends_inv : (c w : ℕ) → s.phase o ≡ Calling c w → Inv (with_phase o Draining (with_turns (s.turns - 1) s)) []
  call_ends_inv c w ph = phase_inv s [] i o po lo Draining (s.turns - 1) (let q = rw ph at (i.good o po) in omega arith) (rw ph refl) (rw ph (omega (arith, some)))

  -- a del turn's hand back
  del_ends_inv : (c : ℕ) → s.phase o ≡ DelOpen c → Inv (handed_back (DelOpen c) o below (with_turns (s.turns - 1) s)) []
  unfolding placed lent
  del_ends_inv c ph =
      let t = with_turns (s.turns - 1) s in
      cond_both (loose t o) (less o t) t (λ u. Inv (del_ends o below u) []) (λ e. ends) (λ e. let h = ltb-false (s.handles o) (s.strong o) e in absurd (omega (arith, good.counted)))
    where
      good : Good (DelOpen c) (s.strong o) (bit (s.interned o)) (s.handles o) (placed s o) (lent s o) 0 0 (length (s.held o)) (length (s.giving o)) (count o s.stack)
      good = rw ph at (i.good o po)

      ends : Inv (del_ends o below (less o (with_turns (s.turns - 1) s))) []
      ends =
          let u = less o (with_turns (s.turns - 1) s) in
          cond_both (spent u o) (clearing_begins o u) (with_stack below (with_phase o Resting u)) (λ v. Inv v [])
          (λ e.
          let z = now_spent (s.strong o - 1) (s.interned o) (rw (same o) at e) in
          record {
            good = point (λ y. 0 < y → GoodAt (clearing_begins o u) [] y) o (λ py. rw (same o) (del_clears c good z.0 z.1)) (λ y ne py. rw (ne_eqb y o ne) (i.good y py));
            zeroth = rw off i.zeroth;
            lists = i.lists;
            frame = phase_frame s i.frame o Taking s.unfreed (s.turns - 1) po lo (rw ph refl) (rw ph (omega (arith, some))) i.frame.room;
          })
          (λ e.
          let z = not_spent (s.strong o - 1) (s.interned o) (rw (same o) at e) in
          record {
            good = point (λ y. 0 < y → GoodAt (with_stack below (with_phase o Resting u)) [] y) o (λ py. rw (same o) (del_keeps c (count o below) good z (rw (st, same o)))) (λ y ne py. rw (ne_eqb y o ne) (rw (st, ne_eqb y o ne) at (i.good y py)));
            zeroth = rw off (rw (st, off) at i.zeroth);
            lists = i.lists;
            frame = phase_frame s i.frame o Resting s.unfreed (s.turns - 1) po lo (rw ph refl) (rw ph (omega (arith, some))) i.frame.room;
          })

  -- the newest death waits for this hand back
  back_inv : (p : Phase) → s.phase o ≡ p → is_open p ≡ true → Inv (handed_back p o below (with_turns (s.turns - 1) s)) []
  back_inv Absent ph e = let z : ◌≡◌ {A = ℕ} 0 1 = cc in absurd (omega arith)
  back_inv Resting ph e = let z : ◌≡◌ {A = ℕ} 0 1 = cc in absurd (omega arith)
  back_inv (DelOpen c) ph e = del_ends_inv c ph
  back_inv Taking ph e = let z : ◌≡◌ {A = ℕ} 0 1 = cc in absurd (omega arith)
  back_inv Draining ph e = let z : ◌≡◌ {A = ℕ} 0 1 = cc in absurd (omega arith)
  back_inv (Calling c w) ph e = call_ends_inv c w ph
  back_inv (Freeing k) ph e = let z : ◌≡◌ {A = ℕ} 0 1 = cc in absurd (omega arith)
  back_inv Leaving ph e = let z : ◌≡◌ {A = ℕ} 0 1 = cc in absurd (omega arith)

-- where no work is left, and a turn is open
newest_inv : (s : State) → Inv s [] → rests s ≡ true → 0 < s.turns → (l : List ℕ) → s.stack ≡ l → Inv (newest_back l s) []
newest_inv s i r some [] st = i
newest_inv s i r some (o ∷ below) st = back_inv s i some o below st (s.phase o) refl (rw st at r)

-- a hand back that is not refused is that of an open turn
turn_open : (turn turns : ℕ) → (eqb turn 0 || not (eqb turn turns)) ≡ false → 0 < turns
turn_open turn turns e =
    let p = or_parts (eqb turn 0) (not (eqb turn turns)) e in
    go (cases_eq turn 0) (eqb-false turn 0 p.0) (eqb-true turn turns (not-false (eqb turn turns) p.1))
  where
    go : (turn ≡ 0) ⊎ (turn ≡ 0 → ⊥) → (turn ≡ 0 → ⊥) → turn ≡ turns → 0 < turns
    go (inl q) ne e = absurd (ne q)
    go (inr ne) _ e = omega arith

-- the newest turn ends
pub hand_back_effect : (turn lent : ℕ) (s : State) → Inv s [] → rests s ≡ true → Granted (HandBack turn lent) s → Inv (own_change (outcome (HandBack turn lent) s)) []
unfolding outcome
hand_back_effect turn lent s i r g =
    newest_inv s i r (turn_open turn s.turns (own_first (at_argument NotNewest 1 (eqb turn 0 || not (eqb turn s.turns))) (at_none ListShort (ltb lent s.unfreed) ∷ []) g.own)) s.stack refl
