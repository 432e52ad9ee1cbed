-- What has not happened of an object that is live or not yet born, and what follows of upgrades and of what a del keeps.
use Rattle.std.proofs.Common.{◌≡◌, ℕ, ◌<◌, ◌≤◌, true, not, ◌⊎◌, List, [], ◌∷◌, length, sym, refl, ap, ◌∙◌, subst, inl, inr, arith}
use Rattle.std.proofs.lemmas.Bool.{cases_eq, and_parts, cond_both}
use Rattle.definition.specs.State.{Phase, Absent, Resting, DelOpen, Taking, Draining, Calling, Freeing, Leaving, State, is_resting, is_live}
use Rattle.definition.specs.Death.{spent}
use Rattle.definition.specs.Calls.{Call, Upgrade, Hold, Reply, Answers, answering, hold, replied, outcome}
use Rattle.definition.proofs.Sums.{count_length}
use Rattle.law.specs.Run.{What, Accepted, Refused, Small, Step}
use Rattle.law.specs.Events.{Live, Kept, Clears, Takes, Drained, OpensCall, Once, here, before, Never}
use Rattle.law.proofs.Invariant.{Good, Inv}
use Rattle.law.proofs.Stages.{stage, live_stage, cleared_stage, stage_range, Ages, older_ages, outcome_ages, advance_ages}
use Rattle.law.proofs.StepKinds.{Moment, granting, refusing, moving}

-- live, or not yet born
abbrev pub Young : State → ℕ → Type 0
Young s o = (stage (s.phase o) ≡ 1) ⊎ (s.next ≤ o)

-- what happens of o only when its clearing begins, or later
pub data Late (o : ℕ) (e : Step) : Type 0 where
  clears : Clears e o → Late o e
  calls : (c w : ℕ) → OpensCall e o c w → Late o e
  drains : (w c : ℕ) → Drained e o w c → Late o e
  takes : (w : ℕ) → Takes e o w → Late o e

-- nothing of that has happened of what is live or not yet born
abbrev pub Told : State → List Step → Type 0
Told s h = (o : ℕ) → Young s o → Never (Late o) h

-- ---- a step ages

-- every step ages
pub moment_ages : (st : Step) → Moment st → Ages st.before st.after
moment_ages st (granting c s g) = outcome_ages c s
moment_ages st (refusing c fault s) = older_ages s s refl (λ y. omega arith)
moment_ages st (moving s e) = advance_ages s

-- what is live or not yet born was so before
pub young_before : (s t : State) → Ages s t → (o : ℕ) → Young t o → Young s o
young_before s t a o (inl e) = by (a.stages o)
  where
    by : (stage (s.phase o) ≤ stage (t.phase o)) ⊎ ((o ≡ s.next) × (t.phase o ≡ Resting)) → Young s o
    by (inl l) = inl (omega (arith, stage_range (s.phase o)))
    by (inr q) = inr (omega (arith, q.0))
young_before s t a o (inr l) = inr (omega (arith, a.next))

-- it is at the first stage or nobody
young_stage : (s : State) → Inv s [] → (o : ℕ) → Young s o → (stage (s.phase o) ≡ 1) ⊎ (stage (s.phase o) ≡ 5)
young_stage s i o (inl e) = inl e
young_stage s i o (inr l) = inr (rw (i.frame.fresh o (inr l)) refl)

-- one that its clearing has not begun of, is not being cleared
pub young_not_cleared : (s : State) → Inv s [] → (o : ℕ) → Young s o → 2 ≤ stage (s.phase o) → stage (s.phase o) ≤ 4 → ⊥
young_not_cleared s i o y l m = by (young_stage s i o y)
  where
    by : (stage (s.phase o) ≡ 1) ⊎ (stage (s.phase o) ≡ 5) → ⊥
    by (inl e) = omega arith
    by (inr e) = omega arith

-- its round holds nothing
good_round : {p : Phase} {s m h q l w e r g k : ℕ} → Good p s m h q l w e r g k → (stage p ≡ 1) ⊎ (stage p ≡ 5) → r ≡ 0
good_round {p = Absent} i y = omega (arith, i)
good_round {p = Resting} i y = omega (arith, i)
good_round {p = (DelOpen c)} i y = omega (arith, i)
good_round {p = Taking} i (inl e) = absurd (omega arith)
good_round {p = Taking} i (inr e) = absurd (omega arith)
good_round {p = Draining} i (inl e) = absurd (omega arith)
good_round {p = Draining} i (inr e) = absurd (omega arith)
good_round {p = (Calling c x)} i (inl e) = absurd (omega arith)
good_round {p = (Calling c x)} i (inr e) = absurd (omega arith)
good_round {p = (Freeing n)} i y = omega (arith, i)
good_round {p = Leaving} i y = omega (arith, i)

-- its round is empty
pub young_round : (s : State) → Inv s [] → (o : ℕ) → Young s o → length (s.held o) ≡ 0
young_round s i o y = go (cases_eq o 0)
  where
    go : (o ≡ 0) ⊎ (o ≡ 0 → ⊥) → length (s.held o) ≡ 0
    go (inl q) = omega (arith, i.zeroth, ap (λ (n : ℕ). length (s.held n)) q)
    go (inr ne) = good_round (i.good o (omega arith)) (young_stage s i o y)

-- a step after which o is young is nothing of that kind
not_late : (st : Step) → Inv st.before [] → Inv st.after [] → (o : ℕ) → Young st.before o → Young st.after o → Late o st → ⊥
not_late st i j o y z (clears e) = let q = cleared_stage (st.after.phase o) e.1.0 e.1.1 in young_not_cleared st.after j o z q.0 q.1
not_late st i j o y z (calls c w e) = young_not_cleared st.after j o z (rw e.1 (omega arith)) (rw e.1 (omega arith))
not_late st i j o y z (drains w c e) = let q = cleared_stage (st.before.phase o) e.3.0 e.3.1 in young_not_cleared st.before i o y q.0 q.1
not_late st i j o y z (takes w e) = omega (arith, e.1, young_round st.after j o z, count_length w (st.after.held o))

-- it is kept by every step
pub told_kept : (st : Step) (h : List Step) → Moment st → Inv st.before [] → Inv st.after [] → Told st.before h → Told st.after (st ∷ h)
told_kept st h m i j t o y = by
  where
    y₀ : Young st.before o
    y₀ = young_before st.before st.after (moment_ages st m) o y

    by : Never (Late o) (st ∷ h)
    by (here l) = not_late st i j o y₀ y l
    by (before b) = t o y₀ b

-- ---- one event for another

-- what has happened has happened by another name
pub once_map : {P Q : Step → Type 0} → ((e : Step) → P e → Q e) → (h : List Step) → Once P h → Once Q h
once_map f [] b = elim b [ ]
once_map f (e ∷ h) (here p) = here (f e p)
once_map f (e ∷ h) (before b) = before (once_map f h b)

-- ---- what an upgrade answers

-- the call of a step
abbrev call_of : What → Call
call_of (Accepted c r) = c
call_of (Refused c fault) = c
call_of Small = Hold 0

-- its reply
abbrev reply_of : What → Reply → Reply
reply_of (Accepted c r) d = r
reply_of (Refused c fault) d = d
reply_of Small d = d

-- it is live
answered_live : (w : ℕ) (s : State) → 0 < (replied (outcome (Upgrade w) s)).number → Live s (replied (outcome (Upgrade w) s)).number
unfolding outcome
answered_live w s =
    let r = (s.shape w).referent in
    cond_both (answering s w) (Answers r [] (hold r s)) (Answers 0 [] s) (λ out. 0 < (replied out).number → Live s (replied out).number)
    (λ a p. (and_parts (is_live (s.phase r)) (not (spent s r)) a).0)
    (λ a p. absurd (omega arith))

-- the same of a step that is an upgrade
upgraded_live : (st : Step) → Moment st → (w : ℕ) (r : Reply) → st.what ≡ Accepted (Upgrade w) r → 0 < r.number → Live st.before r.number
upgraded_live st (granting c s g) w r e p =
    let q : c ≡ Upgrade w = ap call_of e in
    let d : replied (outcome c s) ≡ r = ap (λ x. reply_of x r) e in
    let f : replied (outcome (Upgrade w) s) ≡ r = ap (λ x. replied (outcome x s)) (sym q) ∙ d in
    subst (λ (x : Reply). 0 < x.number → Live s x.number) f (answered_live w s) p
upgraded_live st (refusing c fault s) w r e p = let z : ◌≡◌ {A = ℕ} 0 1 = cc in absurd (omega arith)
upgraded_live st (moving s n) w r e p = let z : ◌≡◌ {A = ℕ} 0 1 = cc in absurd (omega arith)

-- what an upgrade answers has not been cleared, ever
pub upgrades : (st : Step) (h : List Step) → Moment st → Told st.before h → (w : ℕ) (r : Reply) → st.what ≡ Accepted (Upgrade w) r → 0 < r.number → Live st.before r.number × Never (λ e. Clears e r.number) h
upgrades st h m t w r e p =
    let l = upgraded_live st m w r e p in
    (l, λ b. t r.number (inl (live_stage (st.before.phase r.number) l)) (once_map (λ e c. clears c) h b))

-- what rests is at the first stage
resting_stage : (p : Phase) → is_resting p ≡ true → stage p ≡ 1
resting_stage Absent e = let z : ◌≡◌ {A = ℕ} 0 1 = cc in absurd (omega arith)
resting_stage Resting e = refl
resting_stage (DelOpen c) e = refl
resting_stage Taking e = let z : ◌≡◌ {A = ℕ} 0 1 = cc in absurd (omega arith)
resting_stage Draining e = let z : ◌≡◌ {A = ℕ} 0 1 = cc in absurd (omega arith)
resting_stage (Calling c w) e = let z : ◌≡◌ {A = ℕ} 0 1 = cc in absurd (omega arith)
resting_stage (Freeing k) e = let z : ◌≡◌ {A = ℕ} 0 1 = cc in absurd (omega arith)
resting_stage Leaving e = let z : ◌≡◌ {A = ℕ} 0 1 = cc in absurd (omega arith)

-- what its del keeps has had no callback turn
pub kept : (st : Step) (h : List Step) → Moment st → Told st.before h → (o : ℕ) → Kept st o → Never (λ e. (c : ℕ) × (w : ℕ) × OpensCall e o c w) h
kept st h m t o k b =
    t o (young_before st.before st.after (moment_ages st m) o (inl (resting_stage (st.after.phase o) k.1)))
    (once_map (λ e q. calls q.0 q.1 q.2) h b)
