-- From one step to all steps of a run: what each step keeps, given those before it, holds over every history.
use Rattle.std.proofs.Common.{◌≡◌, ℕ, zero, suc, true, false, Option, List, [], ◌∷◌, ◌++◌, Some, None, sym, refl, ap, ◌∙◌, append_assoc}
use Rattle.std.proofs.lemmas.Bool.{cond_both}
use Rattle.std.proofs.lemmas.List.{append-nil}
use Rattle.refusal.specs.declared.Fault.{Fault}
use Rattle.definition.specs.State.{State}
use Rattle.definition.specs.Death.{advance, rests, settle, settled, work}
use Rattle.definition.specs.Calls.{Call, Outcome, Answers, DeathsFollow, refusal, outcome, replied, after, state_after, call}
use Rattle.definition.proofs.Settles.{rests_stays}
use Rattle.law.specs.Run.{Accepted, Refused, Small, Step, Exchange, small_steps, own_change, following, steps_of, exchange, run, end, history}
use Rattle.law.specs.Events.{Every}
use Rattle.law.proofs.Invariant.{Inv}
use Rattle.law.proofs.Steps.{advance_inv}
use Rattle.law.proofs.Granted.{Granted, granted}

-- ---- the steps of a run, each with what is known there

-- an accepted call's own change, a refused call, or a small step while work is left. K is what holds besides between calls
pub data Made (K : State → Type 0) : Step → Type 0 where
  own : (c : Call) (s : State) → Inv s [] → K s → Granted c s → Inv (own_change (outcome c s)) [] → Made K (record { what = Accepted c (replied (outcome c s)); before = s; after = own_change (outcome c s) })
  refused : (c : Call) (fault : Fault) (s : State) → Inv s [] → K s → refusal c s ≡ Some fault → Made K (record { what = Refused c fault; before = s; after = s })
  small : (s : State) → Inv s [] → rests s ≡ false → Made K (record { what = Small; before = s; after = advance s })

-- the invariant holds before a step
pub made_before : {K : State → Type 0} (st : Step) → Made K st → Inv st.before []
made_before _ (own c s i k g j) = i
made_before _ (refused c fault s i k e) = i
made_before _ (small s i r) = i

-- and after it
pub made_after : {K : State → Type 0} (st : Step) → Made K st → Inv st.after []
made_after _ (own c s i k g j) = j
made_after _ (refused c fault s i k e) = i
made_after _ (small s i r) = advance_inv s i

-- ---- lists

-- the steps of two runs, one after the other
history_append : (es fs : List Exchange) → history (es ++ fs) ≡ history es ++ history fs
history_append [] fs = refl
history_append (e ∷ es) fs = ap (λ (h : List Step). e.steps ++ h) (history_append es fs) ∙ sym (append_assoc e.steps (history es) (history fs))

-- where no work is left, settling changes nothing
stays_settled : (n : ℕ) (s : State) → rests s ≡ true → settle n s ≡ s
unfolding settle
stays_settled zero s e = refl
stays_settled (suc n) s e = rw (rests_stays s e) (stays_settled n s e)

-- ---- what each step keeps holds over every run

-- Given what holds between calls, K, that each accepted call's own change keeps the invariant there, and each call K.
-- J, of the steps so far and of where they lead, is kept by each step, and P is so of each
module _ (K : State → Type 0) (effect : (c : Call) (s : State) → Inv s [] → K s → Granted c s → Inv (own_change (outcome c s)) []) (again : (c : Call) (s : State) → Inv s [] → K s → K (call c s)) (J : List Step → State → Type 0) (P : Step → List Step → Type 0) (keeps : (st : Step) (h : List Step) → Made K st → J h st.before → P st h × J (st ∷ h) st.after) where
  -- after the steps h a run has come to s
  pub record Over (h : List Step) (s : State) : Type 0 where
    pub inv : Inv s []
    pub kept : J h s
    pub every : Every P h

  -- one step further
  step_over : (st : Step) (h : List Step) → Made K st → Over h st.before → Over (st ∷ h) st.after
  unfolding Every
  step_over st h m o = let q = keeps st h m o.kept in record { inv = made_after st m; kept = q.1; every = (q.0, o.every) }

  -- the small steps that follow
  small_over : (n : ℕ) (s : State) (h : List Step) → Over h s → Over (small_steps n s ++ h) (settle n s)
  unfolding settle
  small_over zero s h o = o
  small_over (suc n) s h o =
      let st : Step = record { what = Small; before = s; after = advance s } in
      cond_both (rests s) [] (small_steps n (advance s) ++ (st ∷ [])) (λ (l : List Step). Over (l ++ h) (settle n (advance s)))
      (λ e. rw (rests_stays s e, stays_settled n s e) o)
      (λ e. rw (append_assoc (small_steps n (advance s)) (st ∷ []) h) (small_over n (advance s) (st ∷ h) (step_over st h (small s o.inv e) o)))

  -- all that follow a call's own change
  following_over : (out : Outcome) (h : List Step) → Over h (own_change out) → Over (following out ++ h) (after out)
  unfolding settled
  following_over (Answers number listed s) h o = o
  following_over (DeathsFollow left s) h o = small_over (work s) s h o

  -- one call further
  call_over : (c : Call) (s : State) (h : List Step) → K s → Over h s → Over (steps_of (refusal c s) c s ++ h) (call c s)
  unfolding call
  call_over c s h k o = go (refusal c s) refl
    where
      go : (r : Option Fault) → refusal c s ≡ r → Over (steps_of r c s ++ h) (state_after r (outcome c s) s)
      go None e =
          let g = granted c s e in
          let st : Step = record { what = Accepted c (replied (outcome c s)); before = s; after = own_change (outcome c s) } in
          rw (append_assoc (following (outcome c s)) (st ∷ []) h) (following_over (outcome c s) (st ∷ h) (step_over st h (own c s o.inv k g (effect c s o.inv k g)) o))
      go (Some fault) e = step_over (record { what = Refused c fault; before = s; after = s }) h (refused c fault s o.inv k e) o

  -- and all calls of a run
  pub run_over : (cs : List Call) (s : State) (h : List Step) → K s → Over h s → Over (history (run cs s) ++ h) (end cs s)
  unfolding run end
  run_over [] s h k o = o
  run_over (c ∷ cs) s h k o =
      let st = steps_of (refusal c s) c s in
      rw (history_append (run cs (call c s)) (exchange c s ∷ []), append_assoc (history (run cs (call c s))) (st ++ []) h, append_assoc st [] h)
      (run_over cs (call c s) (st ++ h) (again c s o.inv k) (call_over c s h k o))

  -- over the steps of a run that starts at s
  pub every_step : (cs : List Call) (s : State) → Inv s [] → K s → J [] s → Every P (history (run cs s))
  unfolding Every
  every_step cs s i k j =
      let o : Over (history (run cs s) ++ []) (end cs s) = run_over cs s [] k (record { inv = i; kept = j; every = tt }) in
      rw (append-nil (history (run cs s))) at o.every
