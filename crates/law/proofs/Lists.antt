-- Weak lists and rounds hold references to their own object, newest first, and every live watcher of a live object.
use Rattle.std.proofs.Common.{◌≡◌, ℕ, suc, ◌<◌, ◌≤◌, ◌⊎◌, List, [], ◌∷◌, ◌++◌, sym, refl, ap, ◌∙◌, subst, inl, inr, arith}
use Rattle.std.proofs.lemmas.Bool.{ne_eqb, eqb-true, eqb-false, cases_eq, cases_lt, cond_both}
use Rattle.definition.specs.Base.{count, without}
use Rattle.definition.specs.State.{State}
use Rattle.definition.proofs.Sums.{same, count_cons, count_append, count_length, term_le_sum}
use Rattle.law.proofs.Invariant.{Falling, lent_by, lent, Inv, alive}
use Rattle.law.proofs.Stages.{stage, live_stage}
use Rattle.law.proofs.Told.{Young, young_before, young_round}
use Rattle.law.proofs.Moved.{Turned, same_as, own, served, plain, new, Unlisted, stays, taken, passed, over, Begins, Moved}

-- ---- falling lists hold each but once

-- all behind the first are below it
pub falling_rest : (n w : ℕ) (l : List ℕ) → Falling n (w ∷ l) → Falling w l
unfolding Falling
falling_rest n w l f = f.1

-- all are below the bound
pub falling_below : (n w : ℕ) (l : List ℕ) → Falling n l → 0 < count w l → w < n
unfolding Falling
falling_below n w [] f h = absurd (omega arith)
falling_below n w (x ∷ l) f h = go (cases_eq w x) (λ k. falling_below x w l f.1 k)
  where
    go : (w ≡ x) ⊎ (w ≡ x → ⊥) → (0 < count w l → w < x) → w < n
    go (inl q) r = omega (arith, f.0)
    go (inr ne) r = omega (arith, f.0, r (rw (ne_eqb w x ne) at h))

-- none stands twice
pub falling_once : (n w : ℕ) (l : List ℕ) → Falling n l → count w l ≤ 1
unfolding Falling
falling_once n w [] f = omega arith
falling_once n w (x ∷ l) f =
    cond_both _ (suc (count w l)) (count w l) (λ k. k ≤ 1)
    (λ e. none (eqb-true w x e) (cases_lt 0 (count w l)))
    (λ e. falling_once x w l f.1)
  where
    none : w ≡ x → (0 < count w l) ⊎ (count w l ≤ 0) → suc (count w l) ≤ 1
    none q (inl h) = let b = falling_below x w l f.1 h in absurd (omega arith)
    none q (inr h) = omega arith

-- so one that is taken out does not stand there
pub without_one : (n w : ℕ) (l : List ℕ) → Falling n l → count w (without w l) ≡ 0
unfolding Falling
without_one n w [] f = refl
without_one n w (x ∷ l) f =
    let g = falling_once n w (x ∷ l) f in
    cond_both _ l (x ∷ without w l) (λ (k : List ℕ). count w k ≡ 0)
    (λ e. let q : count w (x ∷ []) ≡ 1 = rw (eqb-true x w e) (one w) in omega (arith, g, count_cons w x l))
    (λ e. let ne = eqb-false x w e in rw (ne_eqb w x (λ q. ne (sym q))) (without_one x w l f.1))
  where
    one : (y : ℕ) → count y (y ∷ []) ≡ 1
    one y = rw (same y) refl

-- ---- what is so of the lists

pub record Lists (s : State) : Type 0 where
  -- a round with the list behind it falls
  pub falls : (o : ℕ) → Falling s.next (s.held o ++ s.weak o)
  -- what stands on a list or in a round refers to its object
  pub refers_weak : (o w : ℕ) → 0 < count w (s.weak o) → (s.shape w).referent ≡ o
  pub refers_held : (o w : ℕ) → 0 < count w (s.held o) → (s.shape w).referent ≡ o
  -- a round holds no 0
  pub named : (o w : ℕ) → 0 < count w (s.held o) → 0 < w
  -- what has left its list does not stand there
  pub standing : (o w : ℕ) → 0 < count w (s.weak o) → stage (s.phase w) ≤ 3
  -- once places are emptied the list is empty
  pub bare : (o w : ℕ) → 3 ≤ stage (s.phase o) → stage (s.phase o) ≤ 4 → count w (s.weak o) ≡ 0
  -- what has a callback refers to what has been born
  pub below : (w : ℕ) → 0 < s.callback w → (s.shape w).referent < s.next
  -- and stands on the list of its referent while that is live
  pub listed : (w : ℕ) → 0 < s.callback w → stage (s.phase ((s.shape w).referent)) ≡ 1 → 0 < count w (s.weak ((s.shape w).referent))

-- ---- births

-- an unfreed object has been born
pub stage_below : (s : State) → Inv s [] → (o : ℕ) → stage (s.phase o) ≤ 4 → (0 < o) × (o < s.next)
stage_below s i o l = (some (cases_eq o 0), lower (cases_lt o s.next))
  where
    some : (o ≡ 0) ⊎ (o ≡ 0 → ⊥) → 0 < o
    some (inl q) = let z : 5 ≤ 4 = rw (i.frame.fresh o (inl q)) at l in absurd (omega arith)
    some (inr ne) = omega arith

    lower : (o < s.next) ⊎ (s.next ≤ o) → o < s.next
    lower (inl h) = h
    lower (inr h) = let z : 5 ≤ 4 = rw (i.frame.fresh o (inr h)) at l in absurd (omega arith)

-- what a round holds is live
pub held_live : (s : State) → Inv s [] → ((o w : ℕ) → 0 < count w (s.held o) → 0 < w) → (o w : ℕ) → 0 < count w (s.held o) → stage (s.phase w) ≡ 1
unfolding lent
held_live s i named o w h =
    let pw = named o w h in
    live_stage (s.phase w) (alive (i.good w pw) (omega (arith, i.good w pw, term_le_sum s.next o (lent_by s w) (lower (cases_lt o s.next)))))
  where
    lower : (o < s.next) ⊎ (s.next ≤ o) → o < s.next
    lower (inl k) = k
    lower (inr k) = absurd (omega (arith, young_round s i o (inr k), count_length w (s.held o)))

-- ---- a step keeps it

module _ (s t : State) (i : Inv s []) (j : Inv t []) (m : Moved s t) (l : Lists s) where
  -- what a list or a round has is born
  pub member : (o w : ℕ) → (0 < count w (s.held o)) ⊎ (0 < count w (s.weak o)) → w < s.next
  member o w (inl h) = falling_below s.next w (s.held o ++ s.weak o) (l.falls o) (omega (arith, count_append w (s.held o) (s.weak o)))
  member o w (inr h) = falling_below s.next w (s.held o ++ s.weak o) (l.falls o) (omega (arith, count_append w (s.held o) (s.weak o)))

  -- what a round holds is no 0
  pub named_after : (o w : ℕ) → 0 < count w (t.held o) → 0 < w
  named_after o w h = by (m.held o w h)
    where
      by : (0 < count w (s.held o)) ⊎ ((0 < count w (s.weak o)) × Begins s o) → 0 < w
      by (inl k) = l.named o w k
      by (inr k) = (stage_below s i w (omega (arith, l.standing o w k.0))).0

  -- it is live
  pub live_after : (o w : ℕ) → 0 < count w (t.held o) → stage (t.phase w) ≡ 1
  live_after = held_live t j named_after

  -- and was, if it was held
  pub live_before : (o w : ℕ) → 0 < count w (s.held o) → stage (s.phase w) ≡ 1
  live_before = held_live s i l.named

  -- what is unfreed has its referent still
  keeps_referent : (w : ℕ) → w < s.next → stage (t.phase w) ≤ 4 → (t.shape w).referent ≡ (s.shape w).referent
  keeps_referent w lo un = by (m.turned w)
    where
      by : Turned s t w → (t.shape w).referent ≡ (s.shape w).referent
      by (same_as c r) = r
      by (own a b c (inl r)) = r
      by (own a b c (inr e)) = absurd (omega arith)
      by (served o sv r) = r
      by (plain q c) = absurd (omega arith)
      by (new q a b c) = absurd (omega arith)

  -- what has left its list is not on it
  standing_after : (o w : ℕ) → 0 < count w (t.weak o) → stage (t.phase w) ≤ 3
  standing_after o w h = by (m.listed o w h) (cases_lt (stage (t.phase w)) 4)
    where
      left : 0 < count w (s.weak o) → (4 ≤ stage (s.phase w)) ⊎ (t.weak ((s.shape w).referent) ≡ without w (s.weak ((s.shape w).referent))) → stage (t.phase w) ≤ 3
      left k (inl a) = absurd (omega (arith, l.standing o w k))
      left k (inr e) =
          let r = l.refers_weak o w k in
          let e' : t.weak o ≡ without w (s.weak o) = subst (λ x. t.weak x ≡ without w (s.weak x)) r e in
          let f : count w (s.weak o) ≤ 1 = omega (arith, falling_once s.next w (s.held o ++ s.weak o) (l.falls o), count_append w (s.held o) (s.weak o)) in
          let z : count w (without w (s.weak o)) ≡ 0 = without_one s.next w (s.weak o) (i.lists o) in
          absurd (omega (arith, ap (count w) e'))

      by : (0 < count w (s.weak o)) ⊎ ((w ≡ s.next) × ((t.shape w).referent ≡ o) × (stage (s.phase o) ≡ 1) × (stage (t.phase w) ≡ 1)) → (stage (t.phase w) < 4) ⊎ (4 ≤ stage (t.phase w)) → stage (t.phase w) ≤ 3
      by k (inl a) = omega arith
      by (inl k) (inr a) = left k (m.leaves w a)
      by (inr q) (inr a) = absurd (omega (arith, q.3))

  -- what a list has refers to its object
  refers_weak_after : (o w : ℕ) → 0 < count w (t.weak o) → (t.shape w).referent ≡ o
  refers_weak_after o w h = by (m.listed o w h)
    where
      by : (0 < count w (s.weak o)) ⊎ ((w ≡ s.next) × ((t.shape w).referent ≡ o) × (stage (s.phase o) ≡ 1) × (stage (t.phase w) ≡ 1)) → (t.shape w).referent ≡ o
      by (inl k) = keeps_referent w (member o w (inr k)) (omega (arith, standing_after o w h)) ∙ l.refers_weak o w k
      by (inr q) = q.1

  -- so does what a round holds
  refers_held_after : (o w : ℕ) → 0 < count w (t.held o) → (t.shape w).referent ≡ o
  refers_held_after o w h = by (m.held o w h)
    where
      by : (0 < count w (s.held o)) ⊎ ((0 < count w (s.weak o)) × Begins s o) → (t.shape w).referent ≡ o
      by (inl k) = keeps_referent w (member o w (inl k)) (omega (arith, live_after o w h)) ∙ l.refers_held o w k
      by (inr k) = keeps_referent w (member o w (inr k.0)) (omega (arith, live_after o w h)) ∙ l.refers_weak o w k.0

  -- once places are emptied the list is empty
  bare_after : (o w : ℕ) → 3 ≤ stage (t.phase o) → stage (t.phase o) ≤ 4 → count w (t.weak o) ≡ 0
  bare_after o w h k = by (m.bare o h k) (cases_lt 0 (count w (t.weak o)))
    where
      none : (3 ≤ stage (s.phase o)) × (stage (s.phase o) ≤ 4) → (0 < count w (s.weak o)) ⊎ ((w ≡ s.next) × ((t.shape w).referent ≡ o) × (stage (s.phase o) ≡ 1) × (stage (t.phase w) ≡ 1)) → ⊥
      none a (inl b) = omega (arith, l.bare o w a.0 a.1)
      none a (inr q) = omega (arith, a.0, q.2)

      by : ((3 ≤ stage (s.phase o)) × (stage (s.phase o) ≤ 4)) ⊎ ((v : ℕ) → count v (t.weak o) ≡ 0) → (0 < count w (t.weak o)) ⊎ (count w (t.weak o) ≤ 0) → count w (t.weak o) ≡ 0
      by a (inr z) = omega arith
      by (inl a) (inl p) = absurd (none a (m.listed o w p))
      by (inr f) (inl p) = f w

  -- referents are born
  below_after : (w : ℕ) → 0 < t.callback w → (t.shape w).referent < t.next
  below_after w p = by (m.turned w)
    where
      by : Turned s t w → (t.shape w).referent < t.next
      by (same_as c r) = omega (arith, l.below w (omega arith), m.ages.next)
      by (own a b c d) = absurd (omega arith)
      by (served o sv r) = absurd (omega (arith, sv.gone))
      by (plain q c) = absurd (omega arith)
      by (new q a b c) = omega (arith, stage_below s i ((t.shape w).referent) (omega arith), m.ages.next)

  -- one that was born before and is live was live
  pub live_earlier : (o : ℕ) → o < s.next → stage (t.phase o) ≡ 1 → stage (s.phase o) ≡ 1
  live_earlier o lo e = by (young_before s t m.ages o (inl e))
    where
      by : Young s o → stage (s.phase o) ≡ 1
      by (inl a) = a
      by (inr a) = absurd (omega arith)

  -- a watcher of a live object is on its list
  listed_after : (w : ℕ) → 0 < t.callback w → stage (t.phase ((t.shape w).referent)) ≡ 1 → 0 < count w (t.weak ((t.shape w).referent))
  listed_after w p e = by (m.turned w) e
    where
      still : (o : ℕ) → stage (t.phase o) ≡ 1 → Unlisted s t o w → 0 < count w (t.weak o)
      still o a (stays k) = k
      still o a (taken k) = absurd (omega (arith, young_round t j o (inl a), count_length w (t.held o)))
      still o a (passed n (inl k)) = absurd (omega arith)
      still o a (passed n (inr k)) = absurd (omega arith)
      still o a (over k) = absurd (omega arith)

      by : Turned s t w → stage (t.phase ((t.shape w).referent)) ≡ 1 → 0 < count w (t.weak ((t.shape w).referent))
      by (same_as c r) a =
          let o = (s.shape w).referent in
          let p' : 0 < s.callback w = omega arith in
          let a' : stage (t.phase o) ≡ 1 = subst (λ x. stage (t.phase x) ≡ 1) r a in
          let k = l.listed w p' (live_earlier o (l.below w p') a') in
          subst (λ x. 0 < count w (t.weak x)) (sym r) (still o a' (m.unlisted o w k))
      by (own a b c d) a' = absurd (omega arith)
      by (served o sv r) a' = absurd (omega (arith, sv.gone))
      by (plain q c) a' = absurd (omega arith)
      by (new q a b c) a' = c

  -- all of it
  pub lists_after : Lists t
  lists_after = record {
    falls = λ o. m.falls o (l.falls o);
    refers_weak = refers_weak_after;
    refers_held = refers_held_after;
    named = named_after;
    standing = standing_after;
    bare = bare_after;
    below = below_after;
    listed = listed_after;
  }
