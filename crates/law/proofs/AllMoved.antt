-- What every step of a run does to weak references.
use Rattle.std.proofs.Common.{◌≡◌, ℕ, suc, ◌-◌, List, [], ◌∷◌, get_or, set, refl, inl, inr, arith}
use Rattle.std.proofs.lemmas.Bool.{cond_both}
use Rattle.definition.specs.State.{Phase, Absent, Resting, DelOpen, Taking, Draining, Calling, Freeing, Leaving, State}
use Rattle.definition.specs.Changes.{with_phase, with_places, with_callback, with_giving, with_turns}
use Rattle.definition.specs.Death.{loose, less, spent, unlisted, give_up, advance}
use Rattle.definition.specs.Refusals.{taken_all}
use Rattle.definition.specs.Calls.{Call, Make, Hold, Drop, Store, Swap, SetDictionary, Weaken, Upgrade, ListWeak, Intern, Attend, SetDel, HandBack, Answers, arguments, content, dictionary_of, handed, hold, hold_all, reused, standing, answering, exchanged, new_reference, del_ends, handed_back, newest_back, outcome}
use Rattle.definition.proofs.Advance.{Rounds, advance_cases}
use Rattle.law.specs.Run.{Step, own_change}
use Rattle.law.proofs.Invariant.{Inv, between, live_born}
use Rattle.law.proofs.Granted.{Granted, names_live}
use Rattle.law.proofs.Stages.{stage, live_stage}
use Rattle.law.proofs.StepKinds.{Moment, granting, refusing, moving}
use Rattle.law.proofs.Moved.{Moved, Same, phase_same, same_refl, same_trans, give_up_same, same_moved}
use Rattle.law.proofs.Serves.{takes_moved}
use Rattle.law.proofs.Leaves.{drains_moved, frees_moved}
use Rattle.law.proofs.Unlists.{leaves_moved}
use Rattle.law.proofs.Newborn.{born_moved, reference_moved}

-- a round is in the second stage
rounds_two : (s : State) (o : ℕ) → Rounds s o → stage (s.phase o) ≡ 2
rounds_two s o (inl ph) = rw ph refl
rounds_two s o (inr d) = rw d.0 refl

-- a small step
pub advance_moved : (s : State) → Inv s [] → Moved s (advance s)
advance_moved s i = advance_cases s (Moved s) (record {
  idle = λ r. same_moved s s (same_refl s);
  gives = λ o below top x xs gv. same_moved s _ (give_up_same (with_giving o xs s) x);
  takes = λ o below top gv r w rest wk few. takes_moved s i o w rest r wk;
  completes = λ o below top gv ph w ws hd. same_moved s _ (phase_same s o Draining (rw ph (omega arith)) (λ h. absurd (omega arith)) (λ c v e. let z : ◌≡◌ {A = ℕ} 0 1 = cc in absurd (omega arith)));
  clears = λ o below top gv r hd wk. same_moved s _ (phase_same s o (Freeing 0) (omega (arith, rounds_two s o r)) (λ h. inr (refl, wk)) (λ c v e. let z : ◌≡◌ {A = ℕ} 0 1 = cc in absurd (omega arith)));
  drains = λ o below top gv ph w ws hd. drains_moved s o w ws ph hd;
  empties = λ o below top gv k ph h.
      let m = with_phase o (Freeing (suc k)) (with_places o (set (s.places o) k 0) s) in
      same_moved s _ (same_trans s m (give_up (get_or (s.places o) k 0) m) (phase_same s o (Freeing (suc k)) (rw ph (omega arith)) (λ h. inl (rw ph refl)) (λ c v e. let z : ◌≡◌ {A = ℕ} 0 1 = cc in absurd (omega arith))) (give_up_same m (get_or (s.places o) k 0)));
  leaves = λ o below top gv k ph h. leaves_moved s o k ph _ (give_up_same (with_phase o Leaving (with_callback o 0 (unlisted o s))) (s.callback o));
  frees = λ o below top gv ph. frees_moved s o below ph;
})

-- ---- calls

-- an exchange alters no list
exchanged_same : (s : State) (o k v : ℕ) → Same s (exchanged o k v s)
exchanged_same s o k v = let u = with_places o (set (s.places o) k v) s in cond_both (loose u (content s o k)) _ u (Same s) (λ e. same_refl s) (λ e. same_refl s)

-- nor do handles
hold_all_same : (s : State) (os : List ℕ) (t : State) → Same s t → Same s (hold_all os t)
hold_all_same s [] t a = a
hold_all_same s (o ∷ os) t a = hold_all_same s os (hold o t) a

-- nor does the end of a del turn
del_ends_same : (s : State) (o : ℕ) (below : List ℕ) (c : ℕ) → s.phase o ≡ DelOpen c → Same s (del_ends o below s)
del_ends_same s o below c ph =
    cond_both (spent s o) _ _ (Same s)
    (λ e. phase_same s o Taking (rw ph (omega arith)) (λ h. absurd (omega arith)) (λ c v q. let z : ◌≡◌ {A = ℕ} 0 1 = cc in absurd (omega arith)))
    (λ e. phase_same s o Resting (rw ph (omega arith)) (λ h. absurd (omega arith)) (λ c v q. let z : ◌≡◌ {A = ℕ} 0 1 = cc in absurd (omega arith)))

-- nor does a hand back
back_same : (s : State) (o : ℕ) (below : List ℕ) (p : Phase) → s.phase o ≡ p → Same s (handed_back p o below s)
back_same s o below Absent ph = same_refl s
back_same s o below Resting ph = same_refl s
back_same s o below (DelOpen c) ph = cond_both (loose s o) (less o s) s (λ u. Same s (del_ends o below u)) (λ e. del_ends_same (less o s) o below c ph) (λ e. del_ends_same s o below c ph)
back_same s o below Taking ph = same_refl s
back_same s o below Draining ph = same_refl s
back_same s o below (Calling c w) ph = phase_same s o Draining (rw ph (omega arith)) (λ h. absurd (omega arith)) (λ d v q. let z : ◌≡◌ {A = ℕ} 0 1 = cc in absurd (omega arith))
back_same s o below (Freeing k) ph = same_refl s
back_same s o below Leaving ph = same_refl s

-- whatever is handed back
newest_same : (s : State) (l : List ℕ) → Same s (newest_back l s)
newest_same s [] = same_refl s
newest_same s (o ∷ below) = back_same (with_turns (s.turns - 1) s) o below (s.phase o) refl

-- an accepted call's own change
pub outcome_moved : (c : Call) (s : State) → Inv s [] → Granted c s → Moved s (own_change (outcome c s))
unfolding outcome
outcome_moved (Make class dictionary payload) s i g = born_moved s (taken_all (arguments (Make class dictionary payload)) s.handles) _ _
outcome_moved (Hold o) s i g = same_moved s _ (same_refl s)
outcome_moved (Drop o lent) s i g = same_moved s _ (give_up_same (handed (Drop o lent) s) o)
outcome_moved (Store o slot v) s i g = same_moved s _ (exchanged_same (handed (Store o slot v) s) o _ v)
outcome_moved (Swap o edge v) s i g = same_moved s _ (exchanged_same (handed (Swap o edge v) s) o _ v)
outcome_moved (SetDictionary o dictionary lent) s i g = same_moved s _ (give_up_same (with_places o (set (s.places o) 0 dictionary) (handed (SetDictionary o dictionary lent) s)) (dictionary_of s o))
outcome_moved (Weaken class o callback dictionary) s i g =
    let l = names_live s o g.named.1.0 g.living.1.0 in
    cond_both (reused s class o callback) (Answers (s.cached o) [] (hold (s.cached o) s)) (Answers s.next [] (new_reference class o callback dictionary (handed (Weaken class o callback dictionary) s))) (λ out. Moved s (own_change out))
    (λ e. same_moved s _ (same_refl s))
    (λ e. reference_moved s (taken_all (arguments (Weaken class o callback dictionary)) s.handles) i class o callback dictionary (live_stage (s.phase o) l) (between s [] i o (live_born (s.phase o) l)).1)
outcome_moved (Upgrade w) s i g =
    cond_both (answering s w) (Answers (s.shape w).referent [] (hold (s.shape w).referent s)) (Answers 0 [] s) (λ out. Moved s (own_change out)) (λ e. same_moved s _ (same_refl s)) (λ e. same_moved s _ (same_refl s))
outcome_moved (ListWeak o lent) s i g = same_moved s _ (hold_all_same s (standing s o) s (same_refl s))
outcome_moved (Intern o) s i g = same_moved s _ (same_refl s)
outcome_moved (Attend host) s i g = same_moved s _ (same_refl s)
outcome_moved (SetDel class del) s i g = same_moved s _ (same_refl s)
outcome_moved (HandBack turn lent) s i g = same_moved s _ (newest_same s s.stack)

-- every step of a run
pub moment_moved : (st : Step) → Moment st → Inv st.before [] → Moved st.before st.after
moment_moved st (granting c s g) i = outcome_moved c s i g
moment_moved st (refusing c fault s) i = same_moved s s (same_refl s)
moment_moved st (moving s e) i = advance_moved s i
