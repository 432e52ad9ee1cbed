-- What the tallies of a run say of the state that it has come to.
use Rattle.std.proofs.Common.{◌≡◌, ℕ, ◌<◌, ◌≤◌, true, List, [], ◌∷◌, ◌++◌, Some, None, Ok, Err, Option, refl, ap, ◌∙◌, subst, arith, append_assoc, append-nil}
use Rattle.refusal.specs.declared.Fault.{Fault}
use Rattle.classes.specs.Rows.{Class}
use Rattle.definition.specs.Base.{bit}
use Rattle.definition.specs.State.{State}
use Rattle.definition.specs.Death.{rests}
use Rattle.definition.specs.Calls.{Call, refusal, outcome, after, state_after, replied, answered, answer, call}
use Rattle.definition.specs.Opening.{can_open, opening}
use Rattle.law.specs.Run.{Step, Exchange, own_change, steps_of, exchange, run, end}
use Rattle.law.specs.Settings.{attends_by}
use Rattle.law.specs.Tallies.{makes, tally, attending}
use Rattle.law.specs.Law.{NothingLostOrKept, Tallied}
use Rattle.law.proofs.Invariant.{Inv}
use Rattle.law.proofs.Granted.{Granted, granted}
use Rattle.law.proofs.HandlesTally.{handles_told}
use Rattle.law.proofs.BirthsTally.{Before, marks_told, counts_told}
use Rattle.law.proofs.TurnsTally.{turns_told}
use Rattle.law.proofs.Settings.{attends_told}
use Rattle.law.proofs.NothingLost.{nothing_lost_or_kept_at}

-- and births that are still to come have not been made
pub record Told (es : List Exchange) (s : State) : Type 0 where
  pub tallied : Tallied es s
  pub fresh : (y : ℕ) → 0 < y → s.next ≤ y → makes y es ≡ 0

-- what is unfreed has been made
told_before : (es : List Exchange) (s : State) → Told es s → Before s (λ y. makes y es)
told_before es s t = record { fresh = t.fresh; made = λ y py u. omega (arith, t.tallied.unfreed y py, ap bit u); once = t.tallied.once }

-- an accepted call, whose own change keeps the invariant
accepted_told :
    (c : Call) (s : State) (es : List Exchange) (steps : List Step) → Inv s [] → Granted c s → Inv (own_change (outcome c s)) [] → Told es s
    → Told (record { call = c; answer = Ok (replied (outcome c s)); steps = steps } ∷ es) (after (outcome c s))
unfolding tally attending
accepted_told c s es steps i g j t =
    let n = counts_told c s (λ y. makes y es) i (told_before es s t) g j in
    record {
      tallied =
          record {
            turns = omega (arith, t.tallied.turns, turns_told c s i g);
            handles = λ o po. omega (arith, t.tallied.handles o po, handles_told c s i g j o po);
            marks = λ o. omega (arith, t.tallied.marks o, marks_told c s g j o);
            unfreed = λ o po. omega (arith, t.tallied.unfreed o po, n.unfreed o po);
            once = n.once;
            attends = attends_told c s i ∙ ap (attends_by c) t.tallied.attends;
          };
      fresh = n.fresh;
    }

-- a refused call is not counted, and changes nothing
refused_told : (c : Call) (s : State) (es : List Exchange) (steps : List Step) (fault : Fault) → Told es s → Told (record { call = c; answer = Err fault; steps = steps } ∷ es) s
unfolding tally attending
refused_told c s es steps fault t = record { tallied = record { turns = t.tallied.turns; handles = t.tallied.handles; marks = t.tallied.marks; unfreed = t.tallied.unfreed; once = t.tallied.once; attends = t.tallied.attends }; fresh = t.fresh }

-- nothing is told of a core that has just been opened
opening_told : (capacity first : ℕ) (classes : List Class) → Told [] (opening capacity first classes)
unfolding tally attending
opening_told capacity first classes = record { tallied = record { turns = refl; handles = λ o po. refl; marks = λ o. refl; unfreed = λ o po. refl; once = λ o po. omega arith; attends = refl }; fresh = λ y py l. refl }

-- What is known of every state that a run comes to: it begins so, each call keeps it, and with it come the invariant, which
-- each call's own change keeps, and that no work is left
module _ (Sound : State → Type 0)
    (opens : (capacity first : ℕ) (classes : List Class) → can_open capacity first classes ≡ true → Sound (opening capacity first classes))
    (keeps : (c : Call) (s : State) → Sound s → Sound (call c s))
    (invariant : (s : State) → Sound s → Inv s [])
    (still : (s : State) → Sound s → rests s ≡ true)
    (effect : (c : Call) (s : State) → Sound s → Granted c s → Inv (own_change (outcome c s)) []) where
  -- each call
  call_told : (c : Call) (s : State) (es : List Exchange) → Sound s → Told es s → Told (exchange c s ∷ es) (call c s)
  unfolding call answer
  call_told c s es d t = go (refusal c s) refl
    where
      go : (r : Option Fault) → refusal c s ≡ r → Told (record { call = c; answer = answered r (outcome c s); steps = steps_of r c s } ∷ es) (state_after r (outcome c s) s)
      go None e = let g = granted c s e in accepted_told c s es (steps_of None c s) (invariant s d) g (effect c s d g) t
      go (Some fault) e = refused_told c s es (steps_of (Some fault) c s) fault t

  -- all calls, after others
  run_told : (cs : List Call) (s : State) (es : List Exchange) → Sound s → Told es s → Told (run cs s ++ es) (end cs s)
  unfolding run end
  run_told [] s es d t = t
  run_told (c ∷ cs) s es d t = rw (append_assoc (run cs (call c s)) (exchange c s ∷ []) es) (run_told cs (call c s) (exchange c s ∷ es) (keeps c s d) (call_told c s es d t))

  -- what the tallies of a run say of the state that it has come to
  pub tallied : (capacity first : ℕ) (classes : List Class) → can_open capacity first classes ≡ true → (cs : List Call) → Tallied (run cs (opening capacity first classes)) (end cs (opening capacity first classes))
  tallied capacity first classes e cs =
      let s = opening capacity first classes in
      subst (λ (es : List Exchange). Tallied es (end cs s)) (append-nil (run cs s)) (run_told cs s [] (opens capacity first classes e) (opening_told capacity first classes)).tallied

  -- what is known holds at the end of a run
  end_sound : (cs : List Call) (s : State) → Sound s → Sound (end cs s)
  unfolding end
  end_sound [] s d = d
  end_sound (c ∷ cs) s d = end_sound cs (call c s) (keeps c s d)

  -- nothing is lost and nothing is kept by mistake
  pub nothing_lost_or_kept : (capacity first : ℕ) (classes : List Class) → can_open capacity first classes ≡ true → (cs : List Call) → NothingLostOrKept (run cs (opening capacity first classes)) (end cs (opening capacity first classes))
  nothing_lost_or_kept capacity first classes e cs =
      let s = opening capacity first classes in
      let d = end_sound cs s (opens capacity first classes e) in
      nothing_lost_or_kept_at (run cs s) (end cs s) (invariant (end cs s) d) (still (end cs s) d) (tallied capacity first classes e cs)
