-- While only hand backs follow, no more are accepted than what stands, and then no turn is open.
use Rattle.std.proofs.Common.{◌≡◌, ℕ, zero, suc, ◌+◌, ◌-◌, ◌<◌, ◌≤◌, Bool, true, false, not, ◌&&◌, ◌||◌, eqb, ltb, ◌⊎◌, Option, Result, Ok, Err, List, [], ◌∷◌, ◌++◌, map, Some, None, refl, inl, inr, arith}
use Rattle.std.proofs.lemmas.Bool.{cases_eq, or_parts, eqb-true, eqb-false, not-false, ltb-false, cond_both}
use Rattle.refusal.specs.declared.Fault.{Fault}
use Rattle.refusal.specs.declared.Refusal.TheVariants.{NotNewest, ListShort}
use Rattle.definition.specs.Base.{bit}
use Rattle.definition.specs.State.{Phase, Absent, Resting, DelOpen, Taking, Draining, Calling, Freeing, Leaving, State, is_unfreed, is_live, is_open}
use Rattle.definition.specs.Changes.{with_phase, with_turns, with_stack}
use Rattle.definition.specs.Death.{loose, less, spent, clearing_begins, advance, waits, rests, work, settle, settled}
use Rattle.definition.specs.Refusals.{at_argument, at_none}
use Rattle.definition.specs.Calls.{Call, HandBack, Reply, del_ends, handed_back, newest_back, refusal, outcome, state_after, answered, call, answer}
use Rattle.definition.proofs.Sums.{same, sum_le, sum_has, term_le_sum}
use Rattle.definition.proofs.Advance.{is_dying}
use Rattle.definition.proofs.Settles.{rests_stays, settled_rests}
use Rattle.law.specs.Run.{Exchange, exchange, run, end}
use Rattle.law.specs.Tallies.{kind_of, handed_back_by, adding, tally, hand_backs}
use Rattle.law.specs.Law.{Back, back, standing, HandBacksEnd}
use Rattle.law.proofs.Invariant.{unfreed_sum, open_sum, Inv}
use Rattle.law.proofs.Steps.{tidy, on_top, advance_inv}
use Rattle.law.proofs.Granted.{granted, own_first}
use Rattle.law.proofs.Backs.{hand_back_effect}
use Rattle.law.proofs.Others.{settled_inv}
use Rattle.law.proofs.Counts.{back_accepted}
use Rattle.law.proofs.Potential.{asleep, watching, potential, fresh_at, fresh_on, fresh, asleep_put, advance_potential}

-- ---- the deaths that follow

-- a phase in which this is not 0 has an open turn
fresh_phase : (p : Phase) (b : Bool) → (fresh_at p b ≡ 0) ⊎ (is_open p ≡ true)
fresh_phase Absent b = inl refl
fresh_phase Resting b = inl refl
fresh_phase (DelOpen c) b = inr refl
fresh_phase Taking b = inl refl
fresh_phase Draining b = inl refl
fresh_phase (Calling c w) b = inl refl
fresh_phase (Freeing k) b = inl refl
fresh_phase Leaving b = inl refl

-- while the newest turn is one that nobody keeps, no work is left
fresh_waits : (l : List ℕ) (s : State) → (fresh_on l s ≡ 0) ⊎ (waits l s ≡ true)
fresh_waits [] s = inl refl
fresh_waits (o ∷ below) s = fresh_phase (s.phase o) (eqb (s.strong o - 1) 0 && not (s.interned o))

-- a step does not raise the potential less this one
step_potential : (s : State) → Inv s [] → potential (advance s) + fresh s ≤ potential s + fresh (advance s)
unfolding fresh
step_potential s i = go (fresh_waits s.stack s)
  where
    go : (fresh_on s.stack s ≡ 0) ⊎ (rests s ≡ true) → potential (advance s) + fresh_on s.stack s ≤ potential s + fresh (advance s)
    go (inl e) = omega (arith, advance_potential s i)
    go (inr e) = rw (rests_stays s e) (omega arith)

-- many steps do not either
settle_potential : (n : ℕ) (s : State) → Inv s [] → potential (settle n s) + fresh s ≤ potential s + fresh (settle n s)
unfolding settle
settle_potential zero s i = omega arith
settle_potential (suc n) s i = omega (arith, step_potential s i, settle_potential n (advance s) (advance_inv s i))

-- after all of them the potential is higher by no more than a turn that nobody keeps
settled_potential : (s : State) → Inv s [] → potential (settled s) ≤ potential s + fresh (settled s)
unfolding settled
settled_potential s i = omega (arith, settle_potential (work s) s i)

-- ---- a hand back

-- the newest death waits in an open turn
module _ (s : State) (i : Inv s []) (some : 0 < s.turns) (o : ℕ) (below : List ℕ) (st : s.stack ≡ o ∷ below) where
  lo : o < s.next
  lo = (on_top s [] i o below st).1

  -- a del turn's hand back: where nobody keeps the object, it sleeps no longer
  del_potential : (c : ℕ) → s.phase o ≡ DelOpen c → potential (handed_back (DelOpen c) o below (with_turns (s.turns - 1) s)) + 1 + bit (eqb (s.strong o - 1) 0 && not (s.interned o)) ≤ potential s
  del_potential c ph =
      let t = with_turns (s.turns - 1) s in
      cond_both (loose t o) (less o t) t (λ u. potential (del_ends o below u) + 1 + bit (eqb (s.strong o - 1) 0 && not (s.interned o)) ≤ potential s) (λ e. ends)
      (λ e. let h = ltb-false (s.handles o) (s.strong o) e in let q = rw ph at (i.good o (on_top s [] i o below st).0) in absurd (omega (arith, q.counted)))
    where
      ends : potential (del_ends o below (less o (with_turns (s.turns - 1) s))) + 1 + bit (eqb (s.strong o - 1) 0 && not (s.interned o)) ≤ potential s
      ends =
          let u = less o (with_turns (s.turns - 1) s) in
          cond_both (spent u o) (clearing_begins o u) (with_stack below (with_phase o Resting u)) (λ v. potential v + 1 + bit (eqb (s.strong o - 1) 0 && not (s.interned o)) ≤ potential s)
          (λ e. let k = rw (same o) at e in rw k (omega (arith, some, rw ph at (asleep_put s.phase s.next o Taking lo))))
          (λ e. let k = rw (same o) at e in rw k (omega (arith, some, rw ph at (asleep_put s.phase s.next o Resting lo))))

  back_potential : (p : Phase) → s.phase o ≡ p → is_open p ≡ true → potential (handed_back p o below (with_turns (s.turns - 1) s)) + 1 + fresh_at p (eqb (s.strong o - 1) 0 && not (s.interned o)) ≤ potential s
  back_potential Absent ph e = let z : ◌≡◌ {A = ℕ} 0 1 = cc in absurd (omega arith)
  back_potential Resting ph e = let z : ◌≡◌ {A = ℕ} 0 1 = cc in absurd (omega arith)
  back_potential (DelOpen c) ph e = del_potential c ph
  back_potential Taking ph e = let z : ◌≡◌ {A = ℕ} 0 1 = cc in absurd (omega arith)
  back_potential Draining ph e = let z : ◌≡◌ {A = ℕ} 0 1 = cc in absurd (omega arith)
  back_potential (Calling c w) ph e = omega (arith, some, rw ph at (asleep_put s.phase s.next o Draining lo))
  back_potential (Freeing k) ph e = let z : ◌≡◌ {A = ℕ} 0 1 = cc in absurd (omega arith)
  back_potential Leaving ph e = let z : ◌≡◌ {A = ℕ} 0 1 = cc in absurd (omega arith)

-- whose turn is open is dying
open_dying : (p : Phase) → 0 < bit (is_open p) → bit (is_dying p) ≡ 1
open_dying Absent h = absurd (omega arith)
open_dying Resting h = absurd (omega arith)
open_dying (DelOpen c) h = refl
open_dying Taking h = absurd (omega arith)
open_dying Draining h = absurd (omega arith)
open_dying (Calling c w) h = refl
open_dying (Freeing k) h = absurd (omega arith)
open_dying Leaving h = absurd (omega arith)

-- where a turn is open, something is on the stack
open_stacked : (s : State) → Inv s [] → 0 < s.turns → s.stack ≡ [] → ⊥
unfolding open_sum
open_stacked s i some st =
    let q = sum_has s.next (λ p. bit (is_open (s.phase p))) (omega (arith, i.frame.turns)) in
    let o = q.0 in
    go o q.2 (cases_eq o 0)
  where
    go : (o : ℕ) → 0 < bit (is_open (s.phase o)) → (o ≡ 0) ⊎ (o ≡ 0 → ⊥) → ⊥
    go o h (inl z) = let e : bit (is_open (s.phase o)) ≡ 0 = rw (i.frame.fresh o (inl z)) refl in omega arith
    go o h (inr ne) = let g = rw st at (i.good o (omega arith)) in omega (arith, g.stacked, open_dying (s.phase o) h)

-- whatever is on the stack
newest_of : (s : State) → Inv s [] → rests s ≡ true → 0 < s.turns → (l : List ℕ) → s.stack ≡ l → potential (newest_back l s) + 1 + fresh_on l s ≤ potential s
newest_of s i r some [] st = absurd (open_stacked s i some st)
newest_of s i r some (o ∷ below) st = back_potential s i some o below st (s.phase o) refl (rw st at r)

-- the newest turn ends: one less, and another less where nobody keeps the object
newest_potential : (s : State) → Inv s [] → rests s ≡ true → 0 < s.turns → potential (newest_back s.stack s) + 1 + fresh s ≤ potential s
unfolding fresh
newest_potential s i r some = newest_of s i r some s.stack refl

-- a turn's number that is not 0 and that of the newest turn
turn_open : (turn turns : ℕ) → (eqb turn 0 || not (eqb turn turns)) ≡ false → 0 < turns
turn_open turn turns e =
    let p = or_parts (eqb turn 0) (not (eqb turn turns)) e in
    let ne = eqb-false turn 0 p.0 in
    let q = eqb-true turn turns (not-false (eqb turn turns) p.1) in
    omega (arith, ne, q)

-- an accepted hand back is that of an open turn
accepted_open : (turn lent : ℕ) (s : State) → refusal (HandBack turn lent) s ≡ None → 0 < s.turns
accepted_open turn lent s e =
    turn_open turn s.turns (own_first (at_argument NotNewest 1 (eqb turn 0 || not (eqb turn s.turns))) (at_none ListShort (ltb lent s.unfreed) ∷ []) (granted (HandBack turn lent) s e).own)

-- what holds between calls
record Sound (s : State) : Type 0 where
  inv : Inv s []
  rest : rests s ≡ true

-- a hand back keeps that, accepted or not
call_sound : (b : Back) (s : State) → Sound s → Sound (call (back b) s)
unfolding call outcome
call_sound b s i = go (refusal (back b) s) refl
  where
    go : (r : Option Fault) → refusal (back b) s ≡ r → Sound (state_after r (outcome (back b) s) s)
    go None e =
        let j : Inv (newest_back s.stack s) [] = hand_back_effect b.turn b.lent s i.inv i.rest (granted (back b) s e) in
        record { inv = settled_inv (newest_back s.stack s) j; rest = settled_rests (newest_back s.stack s) (tidy (newest_back s.stack s) [] j) }
    go (Some fault) e = i

-- 1 for an accepted hand back
abbrev taken_back : Back → Result Reply Fault → ℕ
taken_back b r = adding (λ before c r. handed_back_by (kind_of c)) 0 (back b) r

-- an accepted hand back, and the deaths that follow, leave one less
call_potential : (b : Back) (s : State) → Sound s → potential (call (back b) s) + taken_back b (answer (back b) s) + fresh s ≤ potential s + fresh (call (back b) s)
unfolding call answer outcome
call_potential b s i = go (refusal (back b) s) refl
  where
    go : (r : Option Fault) → refusal (back b) s ≡ r → potential (state_after r (outcome (back b) s) s) + taken_back b (answered r (outcome (back b) s)) + fresh s ≤ potential s + fresh (state_after r (outcome (back b) s) s)
    go None e =
        let j : Inv (newest_back s.stack s) [] = hand_back_effect b.turn b.lent s i.inv i.rest (granted (back b) s e) in
        omega (arith, newest_potential s i.inv i.rest (accepted_open b.turn b.lent s e), settled_potential (newest_back s.stack s) j)
    go (Some fault) e = omega arith

-- ---- hand backs in a row

-- what a call adds does not rest on what was counted before
adding_plus : (n : ℕ) (c : Call) (a : Result Reply Fault) → adding (λ before c r. handed_back_by (kind_of c)) n c a ≡ adding (λ before c r. handed_back_by (kind_of c)) 0 c a + n
adding_plus n c (Ok r) = omega arith
adding_plus n c (Err fault) = omega arith

-- accepted hand backs of one list and of another
hand_backs_append : (es fs : List Exchange) → hand_backs (es ++ fs) ≡ hand_backs es + hand_backs fs
unfolding tally
hand_backs_append [] fs = omega arith
hand_backs_append (e ∷ es) fs = omega (arith, adding_plus (hand_backs (es ++ fs)) e.call e.answer, adding_plus (hand_backs es) e.call e.answer, hand_backs_append es fs)

-- any hand backs keep what holds between calls
backs_sound : (bs : List Back) (s : State) → Sound s → Sound (end (map back bs) s)
unfolding end
backs_sound [] s i = i
backs_sound (b ∷ bs) s i = backs_sound bs (call (back b) s) (call_sound b s i)

-- each accepted hand back leaves one less
backs_potential : (bs : List Back) (s : State) → Sound s → potential (end (map back bs) s) + hand_backs (run (map back bs) s) + fresh s ≤ potential s + fresh (end (map back bs) s)
unfolding end run tally
backs_potential [] s i = omega arith
backs_potential (b ∷ bs) s i =
    let t = call (back b) s in
    omega (arith, call_potential b s i, backs_potential bs t (call_sound b s i), hand_backs_append (run (map back bs) t) (exchange (back b) s ∷ []))

-- ---- what the potential says

-- while a turn on top is one that nobody can keep, a turn is open and an object sleeps
fresh_two : (s : State) → Sound s → fresh s + fresh s ≤ potential s
unfolding fresh asleep open_sum
fresh_two s i = go s.stack refl
  where
    at : (o : ℕ) (below : List ℕ) → s.stack ≡ o ∷ below → (p : Phase) → s.phase o ≡ p → (b : Bool) → fresh_at p b + fresh_at p b ≤ potential s
    at o below st Absent ph b = omega arith
    at o below st Resting ph b = omega arith
    at o below st (DelOpen c) ph true =
        let l = (on_top s [] i.inv o below st).1 in
        omega (arith, i.inv.frame.turns, rw ph at (term_le_sum s.next o (λ p. bit (is_open (s.phase p))) l), rw ph at (term_le_sum s.next o (λ p. bit (is_live (s.phase p))) l))
    at o below st (DelOpen c) ph false = omega arith
    at o below st Taking ph b = omega arith
    at o below st Draining ph b = omega arith
    at o below st (Calling c w) ph b = omega arith
    at o below st (Freeing k) ph b = omega arith
    at o below st Leaving ph b = omega arith

    go : (l : List ℕ) → s.stack ≡ l → fresh_on l s + fresh_on l s ≤ potential s
    go [] st = omega arith
    go (o ∷ below) st = at o below st (s.phase o) refl (eqb (s.strong o - 1) 0 && not (s.interned o))

-- what is live is unfreed
live_unfreed : (p : Phase) → bit (is_live p) ≤ bit (is_unfreed p)
live_unfreed Absent = omega arith
live_unfreed Resting = omega arith
live_unfreed (DelOpen c) = omega arith
live_unfreed Taking = omega arith
live_unfreed Draining = omega arith
live_unfreed (Calling c w) = omega arith
live_unfreed (Freeing k) = omega arith
live_unfreed Leaving = omega arith

-- no more can still open than what stands
potential_standing : (s : State) → Inv s [] → potential s ≤ standing s
unfolding asleep watching unfreed_sum
potential_standing s i = omega (arith, i.frame.unfreed, sum_le s.next (λ p. bit (is_live (s.phase p))) (λ p. bit (is_unfreed (s.phase p))) (λ k. live_unfreed (s.phase k)))

-- ---- hand backs end

-- from any moment between calls on
pub hand_backs_end_at : (s : State) → Inv s [] → rests s ≡ true → HandBacksEnd s
hand_backs_end_at s i r = record {
  few = λ bs. omega (arith, falls bs, stands, two bs);
  ended = λ bs h. omega (arith, falls bs, stands, two bs);
  accepted = λ bs lent some enough. back_accepted (end (map back bs) s) lent some enough;
}
  where
    sound : Sound s
    sound = record { inv = i; rest = r }

    stands : potential s ≤ standing s
    stands = potential_standing s i

    falls : (bs : List Back) → potential (end (map back bs) s) + hand_backs (run (map back bs) s) + fresh s ≤ potential s + fresh (end (map back bs) s)
    falls bs = backs_potential bs s sound

    two : (bs : List Back) → fresh (end (map back bs) s) + fresh (end (map back bs) s) ≤ potential (end (map back bs) s)
    two bs = fresh_two (end (map back bs) s) (backs_sound bs s sound)
