-- Which references the death of an object has still to serve, and what follows of lost callbacks.
use Rattle.std.proofs.Common.{◌≡◌, ℕ, zero, suc, ◌+◌, ◌<◌, ◌≤◌, Bool, true, false, ◌⊎◌, List, [], length, sym, refl, ap, ◌∙◌, subst, inl, inr, MatchBool, arith}
use Rattle.std.proofs.lemmas.Bool.{cases_lt}
use Rattle.definition.specs.Base.{count}
use Rattle.definition.specs.State.{Phase, Absent, Resting, DelOpen, Taking, Draining, Calling, Freeing, Leaving, State, is_unfreed}
use Rattle.definition.proofs.Sums.{count_here, count_length}
use Rattle.law.specs.Run.{Step}
use Rattle.law.specs.Events.{Live, Cleared, Emptying, NoTurnOf, Freed, Takes, Loses, Drained, OpensCall, Once, Never, Watched}
use Rattle.law.proofs.Invariant.{Good, Inv}
use Rattle.law.proofs.Stages.{stage, live_stage, stage_live, stage_cleared, unfreed_stage}
use Rattle.law.proofs.StepKinds.{Moment}
use Rattle.law.proofs.Told.{Told}
use Rattle.law.proofs.Moved.{Serves, Turned, same_as, own, served, plain, new, Begins, Moved}
use Rattle.law.proofs.Lists.{Lists, stage_below, live_before}
use Rattle.law.proofs.AllMoved.{moment_moved}

-- of w, which had the callback c when the clearing of o began: it has lost it; the round holds it; it waits on the list,
-- live, and was never taken; or it is live no longer, and was never taken
pub data Way (s : State) (h : List Step) (o w c : ℕ) : Type 0 where
  gone : Once (λ e. Drained e o w c) h → Way s h o w c
  round : 0 < count w (s.held o) → s.callback w ≡ c → Way s h o w c
  waits : 0 < count w (s.weak o) → s.callback w ≡ c → Never (λ e. Takes e o w) h → stage (s.phase w) ≡ 1 → Way s h o w c
  ended : Never (λ e. Takes e o w) h → (stage (s.phase w) ≡ 1 → ⊥) → w < s.next → Way s h o w c

pub record Linked (s : State) (h : List Step) : Type 0 where
  pub lists : Lists s
  -- what has a callback and a cleared referent had it when the clearing began
  pub watched : (o w : ℕ) → 2 ≤ stage (s.phase o) → stage (s.phase o) ≤ 4 → (s.shape w).referent ≡ o → 0 < s.callback w → Watched h o w (s.callback w)
  -- what is left is older than what has lost its callback
  pub order : (o v d w : ℕ) → Once (λ e. Drained e o v d) h → (0 < count w (s.held o)) ⊎ (0 < count w (s.weak o)) → w < v
  pub way : (o w c : ℕ) → 0 < c → Watched h o w c → 2 ≤ stage (s.phase o) → stage (s.phase o) ≤ 4 → Way s h o w c

-- ---- one object's numbers

-- of a birth that is not given there is no callback
pub unborn_bare : (s : State) → Inv s [] → (w : ℕ) → s.next ≤ w → s.callback w ≡ 0
unborn_bare s i w l =
    let g : length (s.places w) + s.callback w ≡ 0 = rw (i.frame.fresh w (inr l)) at (i.good w (omega (arith, i.frame.first))).gone in
    omega arith

-- so what has one is born
pub watcher_born : (s : State) → Inv s [] → (w : ℕ) → 0 < s.callback w → w < s.next
watcher_born s i w p = by (cases_lt w s.next)
  where
    by : (w < s.next) ⊎ (s.next ≤ w) → w < s.next
    by (inl h) = h
    by (inr h) = absurd (omega (arith, unborn_bare s i w h))

-- a round holds 16 at most
small_round : {p : Phase} {s m h q l w e r g k : ℕ} → Good p s m h q l w e r g k → r ≤ 16
small_round {p = Absent} i = omega (arith, i)
small_round {p = Resting} i = omega (arith, i)
small_round {p = (DelOpen c)} i = omega (arith, i)
small_round {p = Taking} i = omega (arith, i)
small_round {p = Draining} i = omega (arith, i)
small_round {p = (Calling c x)} i = omega (arith, i)
small_round {p = (Freeing n)} i = omega (arith, i)
small_round {p = Leaving} i = omega (arith, i)

-- of every object, and of 0
all_small : (s : State) → Inv s [] → (o : ℕ) → length (s.held o) ≤ 16
all_small s i zero = omega (arith, i.zeroth)
all_small s i (suc o) = small_round (i.good (suc o) (omega arith))

-- what is not unfreed is nobody
freed_stage : (p : Phase) → is_unfreed p ≡ false → stage p ≡ 5
freed_stage Absent e = refl
freed_stage Resting e = let z : ◌≡◌ {A = ℕ} 0 1 = cc in absurd (omega arith)
freed_stage (DelOpen c) e = let z : ◌≡◌ {A = ℕ} 0 1 = cc in absurd (omega arith)
freed_stage Taking e = let z : ◌≡◌ {A = ℕ} 0 1 = cc in absurd (omega arith)
freed_stage Draining e = let z : ◌≡◌ {A = ℕ} 0 1 = cc in absurd (omega arith)
freed_stage (Calling c w) e = let z : ◌≡◌ {A = ℕ} 0 1 = cc in absurd (omega arith)
freed_stage (Freeing k) e = let z : ◌≡◌ {A = ℕ} 0 1 = cc in absurd (omega arith)
freed_stage Leaving e = let z : ◌≡◌ {A = ℕ} 0 1 = cc in absurd (omega arith)

-- what has all its places emptied is freed next
last_leaving : (p : Phase) → stage p ≡ 4 → p ≡ Leaving
last_leaving Absent e = absurd (omega arith)
last_leaving Resting e = absurd (omega arith)
last_leaving (DelOpen c) e = absurd (omega arith)
last_leaving Taking e = absurd (omega arith)
last_leaving Draining e = absurd (omega arith)
last_leaving (Calling c w) e = absurd (omega arith)
last_leaving (Freeing k) e = absurd (omega arith)
last_leaving Leaving e = refl

-- what has its places emptied is past its rounds
emptying_stage : (s : State) (o : ℕ) → Emptying s o → (3 ≤ stage (s.phase o)) × (stage (s.phase o) ≤ 4)
emptying_stage s o (inl (k, e)) = (rw e (omega arith), rw e (omega arith))
emptying_stage s o (inr e) = (rw e (omega arith), rw e (omega arith))

-- and has none
no_round : {p : Phase} {s m h q l w e r g k : ℕ} → Good p s m h q l w e r g k → 3 ≤ stage p → stage p ≤ 4 → r ≡ 0
no_round {p = Absent} i z y = absurd (omega arith)
no_round {p = Resting} i z y = absurd (omega arith)
no_round {p = (DelOpen c)} i z y = absurd (omega arith)
no_round {p = Taking} i z y = absurd (omega arith)
no_round {p = Draining} i z y = absurd (omega arith)
no_round {p = (Calling c x)} i z y = absurd (omega arith)
no_round {p = (Freeing n)} i z y = omega (arith, i)
no_round {p = Leaving} i z y = omega (arith, i)

-- the same test, other claims
match_map : (b : Bool) {P Q P' Q' : Type 0} → (P → P') → (Q → Q') → MatchBool b P Q → MatchBool b P' Q'
match_map true f g x = f x
match_map false f g x = g x

-- ---- a step

module _ (st : Step) (h : List Step) (mo : Moment st) (i : Inv st.before []) (j : Inv st.after []) (told : Told st.before h) (k : Linked st.before h) where
  -- before
  abbrev s : State
  s = st.before

  -- after
  abbrev t : State
  t = st.after

  -- what the step does to weak references
  pub moved : Moved s t
  moved = moment_moved st mo i

  -- what is served was held
  pub in_round : (o w : ℕ) → Serves s t o w → 0 < count w (s.held o)
  in_round o w sv = rw sv.round (count_here w (t.held o))

  -- what is served is drained
  pub served_drained : (o w c : ℕ) → Serves s t o w → s.callback w ≡ c → Drained st o w c
  served_drained o w c sv e =
      let n = in_round o w sv in
      ((omega (arith, sv.some), e, sv.gone), stage_live (s.phase w) (omega (arith, live_before s t i j moved k.lists o w n)), k.lists.refers_held o w n, stage_cleared (s.phase o) (rw sv.phase (omega arith)) (rw sv.phase (omega arith)))

  -- and what is drained is served
  pub drained_served : (o w c : ℕ) → Drained st o w c → Serves s t o w
  drained_served o w c d = by (moved.turned w)
    where
      l : stage (s.phase w) ≡ 1
      l = live_stage (s.phase w) d.1

      by : Turned s t w → Serves s t o w
      by (same_as e r) = absurd (omega (arith, d.0.0, d.0.1, d.0.2))
      by (own a b e f) = absurd (omega (arith, l))
      by (served q sv r) = subst (λ x. Serves s t x w) (sym (k.lists.refers_held q w (in_round q w sv)) ∙ d.2) sv
      by (plain q e) = absurd (omega (arith, stage_below s i w (omega (arith, l))))
      by (new q a b e) = absurd (omega (arith, stage_below s i w (omega (arith, l))))

  -- so the round of a death that drains gets shorter
  pub shorter : (o w c : ℕ) → Drained st o w c → length (t.held o) < length (s.held o)
  shorter o w c d = rw (drained_served o w c d).round (omega arith)

  -- a reference loses its callback in its own death, or alive, to the death of its referent
  pub loses : (w c : ℕ) → Loses st w c → Cleared s w ⊎ ((o : ℕ) × Drained st o w c)
  loses w c d = by (moved.turned w)
    where
      by : Turned s t w → Cleared s w ⊎ ((o : ℕ) × Drained st o w c)
      by (same_as e r) = absurd (omega (arith, d.0, d.1, d.2))
      by (own a b e f) = inl (stage_cleared (s.phase w) a b)
      by (served o sv r) = inr (o, served_drained o w c sv d.1)
      by (plain q e) = absurd (omega (arith, watcher_born s i w (omega (arith, d.0, d.1))))
      by (new q a b e) = absurd (omega (arith, watcher_born s i w (omega (arith, d.0, d.1))))

  -- every callback turn opens so
  pub call_opens : (o c w : ℕ) → OpensCall st o c w → Drained st o w c
  call_opens o c w e = by (moved.calls o c w e.1)
    where
      by : (s.phase o ≡ Calling c w) ⊎ ((s.callback w ≡ c) × Serves s t o w) → Drained st o w c
      by (inl q) = let z : true ≡ false = rw q at e.0 in let y : ◌≡◌ {A = ℕ} 0 1 = cc in absurd (omega arith)
      by (inr q) = served_drained o w c q.1 q.0

  -- To the death of its referent only if it had the callback when clearing began, and newest first. A turn opens exactly
  -- when a host attends
  pub drained : (o w c : ℕ) → Drained st o w c → Watched h o w c × ((v d : ℕ) → Once (λ e. Drained e o v d) h → w < v) × MatchBool s.attends (OpensCall st o c w) (NoTurnOf t o)
  drained o w c d =
      let sv = drained_served o w c d in
      let e : s.callback w ≡ c = d.0.1 in (
        subst (λ x. Watched h o w x) e (k.watched o w (rw sv.phase (omega arith)) (rw sv.phase (omega arith)) d.2 sv.some),
        λ v f b. k.order o v f w b (inl (in_round o w sv)),
        match_map s.attends (λ q. (rw sv.phase refl, q ∙ ap (λ x. Calling x w) e)) (λ q. rw q refl) sv.turn,
      )

  -- a round holds 16 at most, and takes only until it begins to drain
  pub takes : (o w : ℕ) → Takes st o w → (length (t.held o) ≤ 16) × ((s.phase o ≡ Taking) ⊎ (s.held o ≡ []))
  takes o w a = (all_small t j o, by (moved.held o w a.1))
    where
      by : (0 < count w (s.held o)) ⊎ ((0 < count w (s.weak o)) × Begins s o) → Begins s o
      by (inl n) = absurd (a.0 n)
      by (inr n) = n.1

  -- an object is freed only once its places are being emptied
  pub frees : (o : ℕ) → Freed st o → Emptying s o
  frees o f = inr (last_leaving (s.phase o) (omega (arith, moved.frees o (freed_stage (t.phase o) f.1), unfreed_stage (s.phase o) f.0)))

  -- When its places are being emptied, each watcher has lost its callback to this death, or is live no longer and no round took it
  pub rounds_over : (o w c : ℕ) → Emptying s o → 0 < c → Watched h o w c → Once (λ e. Drained e o w c) h ⊎ (Never (λ e. Takes e o w) h × (Live s w → ⊥))
  rounds_over o w c f p wa = by (k.way o w c p wa (omega (arith, last)) (omega (arith, last)))
    where
      last : (3 ≤ stage (s.phase o)) × (stage (s.phase o) ≤ 4)
      last = emptying_stage s o f

      none : length (s.held o) ≡ 0
      none = no_round (i.good o (stage_below s i o last.1).0) last.0 last.1

      by : Way s h o w c → Once (λ e. Drained e o w c) h ⊎ (Never (λ e. Takes e o w) h × (Live s w → ⊥))
      by (gone b) = inl b
      by (round n e) = absurd (omega (arith, none, count_length w (s.held o)))
      by (waits n e q l) = absurd (omega (arith, k.lists.bare o w last.0 last.1))
      by (ended q n l) = inr (q, λ a. n (live_stage (s.phase w) a))

  -- so it is when it is freed
  pub freed : (o : ℕ) → Freed st o → (w c : ℕ) → 0 < c → Watched h o w c → Once (λ e. Drained e o w c) h ⊎ (Never (λ e. Takes e o w) h × (Live s w → ⊥))
  freed o f w c = rounds_over o w c (frees o f)
