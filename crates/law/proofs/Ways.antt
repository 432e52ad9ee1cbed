-- Every step keeps what the deaths have still to serve.
use Rattle.std.proofs.Common.{◌≡◌, ℕ, ◌<◌, ◌≤◌, ◌⊎◌, List, [], ◌∷◌, ◌++◌, sym, ap, ◌∙◌, subst, inl, inr, arith}
use Rattle.std.proofs.lemmas.Bool.{cases_lt}
use Rattle.definition.specs.Base.{count}
use Rattle.definition.specs.State.{Resting, State}
use Rattle.definition.proofs.Sums.{count_append}
use Rattle.law.specs.Run.{Step}
use Rattle.law.specs.Events.{Clears, Takes, Drained, Once, here, before, Never, Watched}
use Rattle.law.proofs.Invariant.{Falling, Inv}
use Rattle.law.proofs.Stages.{stage, live_stage, stage_live, stage_cleared, stage_range}
use Rattle.law.proofs.StepKinds.{Moment}
use Rattle.law.proofs.Told.{Told, clears, drains, takes, once_map}
use Rattle.law.proofs.Moved.{Serves, Turned, same_as, own, served, plain, new, Unlisted, stays, taken, passed, over, Begins, Moved}
use Rattle.law.proofs.Lists.{falling_rest, falling_below, falling_once, member, live_after, live_before, live_earlier, lists_after}
use Rattle.law.proofs.Linked.{Way, gone, round, waits, ended, Linked, watcher_born, moved, served_drained, drained_served, in_round}

module _ (st : Step) (h : List Step) (mo : Moment st) (i : Inv st.before []) (j : Inv st.after []) (told : Told st.before h) (k : Linked st.before h) where
  -- before
  abbrev s : State
  s = st.before

  -- after
  abbrev t : State
  t = st.after

  -- what the step does to weak references
  abbrev mv : Moved s t
  mv = moved st h mo i j told k

  -- what is cleared now was cleared before, or its clearing has just begun
  cleared_before : (o : ℕ) → 2 ≤ stage (t.phase o) → stage (t.phase o) ≤ 4 → ((2 ≤ stage (s.phase o)) × (stage (s.phase o) ≤ 4)) ⊎ (Clears st o × (stage (s.phase o) ≡ 1))
  cleared_before o a b = by (mv.ages.stages o) (cases_lt (stage (s.phase o)) 2)
    where
      by : (stage (s.phase o) ≤ stage (t.phase o)) ⊎ ((o ≡ s.next) × (t.phase o ≡ Resting)) → (stage (s.phase o) < 2) ⊎ (2 ≤ stage (s.phase o)) → ((2 ≤ stage (s.phase o)) × (stage (s.phase o) ≤ 4)) ⊎ (Clears st o × (stage (s.phase o) ≡ 1))
      by (inl l) (inl q) = inr ((stage_live (s.phase o) (omega arith), stage_cleared (t.phase o) a b), omega (arith, stage_range (s.phase o)))
      by (inl l) (inr q) = inl (q, omega arith)
      by (inr r) q = let z : 2 ≤ 1 = rw r.1 at a in absurd (omega arith)

  -- watchers of the cleared are those of when clearing began
  watched_after : (o w : ℕ) → 2 ≤ stage (t.phase o) → stage (t.phase o) ≤ 4 → (t.shape w).referent ≡ o → 0 < t.callback w → Watched (st ∷ h) o w (t.callback w)
  watched_after o w a b r p = by (mv.turned w)
    where
      from : (s.shape w).referent ≡ o → t.callback w ≡ s.callback w → ((2 ≤ stage (s.phase o)) × (stage (s.phase o) ≤ 4)) ⊎ (Clears st o × (stage (s.phase o) ≡ 1)) → Watched (st ∷ h) o w (t.callback w)
      from q c (inl e) = before (subst (λ x. Watched h o w x) (sym c) (k.watched o w e.0 e.1 q (omega arith)))
      from q c (inr e) = here (e.0, q, sym c)

      by : Turned s t w → Watched (st ∷ h) o w (t.callback w)
      by (same_as c q) = from (sym q ∙ r) c (cleared_before o a b)
      by (own x y e f) = absurd (omega arith)
      by (served q sv e) = absurd (omega (arith, sv.gone))
      by (plain q e) = absurd (omega arith)
      by (new q x y e) = let z : stage (t.phase o) ≡ 1 = subst (λ x. stage (t.phase x) ≡ 1) r y in absurd (omega arith)

  -- what is left was left before, but a new reference to what is live
  left_before : (o w : ℕ) → (0 < count w (t.held o)) ⊎ (0 < count w (t.weak o)) → ((0 < count w (s.held o)) ⊎ (0 < count w (s.weak o))) ⊎ (stage (s.phase o) ≡ 1)
  left_before o w (inl n) = inl (held (mv.held o w n))
    where
      held : (0 < count w (s.held o)) ⊎ ((0 < count w (s.weak o)) × Begins s o) → (0 < count w (s.held o)) ⊎ (0 < count w (s.weak o))
      held (inl a) = inl a
      held (inr a) = inr a.0
  left_before o w (inr n) = by (mv.listed o w n)
    where
      by : (0 < count w (s.weak o)) ⊎ ((w ≡ s.next) × ((t.shape w).referent ≡ o) × (stage (s.phase o) ≡ 1) × (stage (t.phase w) ≡ 1)) → ((0 < count w (s.held o)) ⊎ (0 < count w (s.weak o))) ⊎ (stage (s.phase o) ≡ 1)
      by (inl a) = inl (inr a)
      by (inr q) = inr q.2

  -- what is left is older than what has lost its callback
  order_after : (o v d w : ℕ) → Once (λ e. Drained e o v d) (st ∷ h) → (0 < count w (t.held o)) ⊎ (0 < count w (t.weak o)) → w < v
  order_after o v d w (here a) n = first n (left_before o w n)
    where
      sv : Serves s t o v
      sv = drained_served st h mo i j told k o v d a

      rest : Falling v (t.held o ++ s.weak o)
      rest = falling_rest s.next v (t.held o ++ s.weak o) (rw sv.round at (k.lists.falls o))

      old : 0 < count w (t.held o ++ s.weak o) → w < v
      old = falling_below v w (t.held o ++ s.weak o) rest

      by : (0 < count w (s.weak o)) ⊎ ((w ≡ s.next) × ((t.shape w).referent ≡ o) × (stage (s.phase o) ≡ 1) × (stage (t.phase w) ≡ 1)) → w < v
      by (inl c) = old (omega (arith, count_append w (t.held o) (s.weak o)))
      by (inr q) = let z : ◌≡◌ {A = ℕ} 2 1 = rw sv.phase at q.2 in absurd (omega (arith, z))

      first : (0 < count w (t.held o)) ⊎ (0 < count w (t.weak o)) → ((0 < count w (s.held o)) ⊎ (0 < count w (s.weak o))) ⊎ (stage (s.phase o) ≡ 1) → w < v
      first (inl c) e = old (omega (arith, count_append w (t.held o) (s.weak o)))
      first (inr c) e = by (mv.listed o w c)
  order_after o v d w (before b) n = by (left_before o w n)
    where
      by : ((0 < count w (s.held o)) ⊎ (0 < count w (s.weak o))) ⊎ (stage (s.phase o) ≡ 1) → w < v
      by (inl a) = k.order o v d w b a
      by (inr e) = absurd (told o (inl e) (once_map (λ x y. drains v d y) h b))

  -- ---- the way of a watcher

  -- what is not live is not taken
  never_dead : (o w : ℕ) → Never (λ e. Takes e o w) h → (stage (t.phase w) ≡ 1 → ⊥) → Never (λ e. Takes e o w) (st ∷ h)
  never_dead o w n d (here a) = d (live_after s t i j mv k.lists o w a.1)
  never_dead o w n d (before b) = n b

  -- nor is what stands on the list
  never_listed : (o w : ℕ) → Never (λ e. Takes e o w) h → 0 < count w (t.weak o) → Never (λ e. Takes e o w) (st ∷ h)
  never_listed o w n p (here a) = omega (arith, a.1, falling_once t.next w (t.held o ++ t.weak o) ((lists_after s t i j mv k.lists).falls o), count_append w (t.held o) (t.weak o))
  never_listed o w n p (before b) = n b

  -- where one is live or not
  module _ (o w c : ℕ) (p : 0 < c) (b : stage (t.phase o) ≤ 4) (lo : w < s.next) (cb : t.callback w ≡ c) (nt : Never (λ e. Takes e o w) h) (lv : stage (t.phase w) ≡ 1 → stage (s.phase w) ≡ 1) where
    waiting : (stage (t.phase w) < 2) ⊎ (2 ≤ stage (t.phase w)) → Unlisted s t o w → Way t (st ∷ h) o w c
    waiting (inl l) (stays n) = waits n cb (never_listed o w nt n) (omega (arith, stage_range (t.phase w)))
    waiting (inl l) (taken n) = round n cb
    waiting (inl l) (passed n q) = absurd (n (lv (omega (arith, stage_range (t.phase w)))))
    waiting (inl l) (over e) = absurd (omega arith)
    waiting (inr l) u = ended (never_dead o w nt (λ e. omega arith)) (λ e. omega arith) (omega (arith, mv.ages.next))

  -- what is live was, if it was born
  earlier : (w : ℕ) → w < s.next → stage (t.phase w) ≡ 1 → stage (s.phase w) ≡ 1
  earlier = live_earlier s t i j mv k.lists

  -- of what was watched before
  way_on : (o w c : ℕ) → 0 < c → stage (t.phase o) ≤ 4 → Way s h o w c → Way t (st ∷ h) o w c
  way_on o w c p b (gone g) = gone (before g)
  way_on o w c p b (round n cb) = by (mv.turned w)
    where
      keeps : t.callback w ≡ s.callback w → (0 < count w (t.held o)) ⊎ ((t.callback w ≡ 0) ⊎ (stage (t.phase o) ≡ 5)) → Way t (st ∷ h) o w c
      keeps q (inl a) = round a (q ∙ cb)
      keeps q (inr (inl a)) = absurd (omega arith)
      keeps q (inr (inr a)) = absurd (omega arith)

      by : Turned s t w → Way t (st ∷ h) o w c
      by (same_as q r) = keeps q (mv.unheld o w n)
      by (own x y e f) = absurd (omega (arith, live_before s t i j mv k.lists o w n))
      by (served q sv r) = gone (here (served_drained st h mo i j told k o w c (subst (λ x. Serves s t x w) (sym (k.lists.refers_held q w (in_round st h mo i j told k q w sv)) ∙ k.lists.refers_held o w n) sv) cb))
      by (plain q e) = absurd (omega (arith, member s t i j mv k.lists o w (inl n)))
      by (new q x y e) = absurd (omega (arith, member s t i j mv k.lists o w (inl n)))
  way_on o w c p b (waits n cb nt l) = by (mv.turned w)
    where
      lo : w < s.next
      lo = member s t i j mv k.lists o w (inr n)

      by : Turned s t w → Way t (st ∷ h) o w c
      by (same_as q r) = waiting o w c p b lo (q ∙ cb) nt (earlier w lo) (cases_lt (stage (t.phase w)) 2) (mv.unlisted o w n)
      by (own x y e f) = absurd (omega arith)
      by (served q sv r) = gone (here (served_drained st h mo i j told k o w c (subst (λ x. Serves s t x w) (sym (k.lists.refers_held q w (in_round st h mo i j told k q w sv)) ∙ k.lists.refers_weak o w n) sv) cb))
      by (plain q e) = absurd (omega (arith, lo))
      by (new q x y e) = absurd (omega (arith, lo))
  way_on o w c p b (ended nt d lo) = ended (never_dead o w nt (λ e. d (earlier w lo e))) (λ e. d (earlier w lo e)) (omega (arith, mv.ages.next))

  -- of what is watched from now on
  way_first : (o w c : ℕ) → 0 < c → stage (t.phase o) ≤ 4 → stage (s.phase o) ≡ 1 → (s.shape w).referent ≡ o → s.callback w ≡ c → Way t (st ∷ h) o w c
  way_first o w c p b e r cb = by (mv.turned w) (cases_lt (stage (t.phase w)) 2)
    where
      lo : w < s.next
      lo = watcher_born s i w (omega arith)

      nt : Never (λ x. Takes x o w) h
      nt a = told o (inl e) (once_map (λ x y. takes w y) h a)

      dead : 2 ≤ stage (t.phase w) → Way t (st ∷ h) o w c
      dead l = ended (never_dead o w nt (λ x. omega arith)) (λ x. omega arith) (omega (arith, lo, mv.ages.next))

      on : 0 < count w (s.weak o)
      on = subst (λ x. 0 < count w (s.weak x)) r (k.lists.listed w (omega arith) (ap (λ (x : ℕ). stage (s.phase x)) r ∙ e))

      by : Turned s t w → (stage (t.phase w) < 2) ⊎ (2 ≤ stage (t.phase w)) → Way t (st ∷ h) o w c
      by u (inr l) = dead l
      by (same_as q x) (inl l) = waiting o w c p b lo (q ∙ cb) nt (earlier w lo) (inl l) (mv.unlisted o w on)
      by (own x y q f) (inl l) = absurd (omega (arith, earlier w lo (omega (arith, stage_range (t.phase w)))))
      by (served q sv x) (inl l) =
          let z : q ≡ o = sym (k.lists.refers_held q w (in_round st h mo i j told k q w sv)) ∙ r in
          let y : ◌≡◌ {A = ℕ} 2 1 = rw sv.phase at (ap (λ (x : ℕ). stage (s.phase x)) z ∙ e) in
          absurd (omega (arith, y))
      by (plain q x) (inl l) = absurd (omega (arith, lo))
      by (new q x y z) (inl l) = absurd (omega (arith, lo))

  -- of every watcher
  way_after : (o w c : ℕ) → 0 < c → Watched (st ∷ h) o w c → 2 ≤ stage (t.phase o) → stage (t.phase o) ≤ 4 → Way t (st ∷ h) o w c
  way_after o w c p (here q) a b = way_first o w c p b (live_stage (s.phase o) q.0.0) q.1 q.2
  way_after o w c p (before q) a b = by (cleared_before o a b)
    where
      by : ((2 ≤ stage (s.phase o)) × (stage (s.phase o) ≤ 4)) ⊎ (Clears st o × (stage (s.phase o) ≡ 1)) → Way t (st ∷ h) o w c
      by (inl e) = way_on o w c p b (k.way o w c p q e.0 e.1)
      by (inr e) = absurd (told o (inl e.1) (once_map (λ x y. clears y.0) h q))

  -- all of it
  pub linked_after : Linked t (st ∷ h)
  linked_after = record { lists = lists_after s t i j mv k.lists; watched = watched_after; order = order_after; way = way_after }
