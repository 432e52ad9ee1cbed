-- The whole law, over every run.
use Rattle.std.proofs.Common.{◌≡◌, ℕ, true, List, [], ◌∷◌, length, ap, arith}
use Rattle.classes.specs.Rows.{Class}
use Rattle.definition.specs.Calls.{Call}
use Rattle.definition.specs.Opening.{can_open, opening}
use Rattle.law.specs.Run.{Step, run, history}
use Rattle.law.specs.Events.{Every}
use Rattle.law.specs.Law.{Lives, HoldsOfEveryRun}
use Rattle.law.proofs.Moments.{opening_between, end_between}
use Rattle.law.proofs.Chains.{chained}
use Rattle.law.proofs.Counted.{every_counted}
use Rattle.law.proofs.Placed.{every_named}
use Rattle.law.proofs.Settings.{every_set}
use Rattle.law.proofs.Kept.{tallied, nothing_lost_or_kept}
use Rattle.law.proofs.Ending.{hand_backs_end_at}
use Rattle.law.proofs.Telling.{replies}
use Rattle.law.proofs.Everywhere.{Living}
use Rattle.law.proofs.Lived.{living}
use Rattle.law.proofs.Served.{Served, opening_story, every_served}

-- all fields of a step; a death whose round stays has drained nobody
lives_of : (st : Step) (h : List Step) → Living st h → Served st h → Lives st h
lives_of st h l s = record {
  starts = l.one.starts;
  started = l.one.started;
  del_opens = l.one.del_opens;
  del_ends = l.one.del_ends;
  clears = l.one.clears;
  kept = s.kept;
  upgrades = s.upgrades;
  loses = s.loses;
  drained = s.drained;
  call_opens = s.call_opens;
  takes = s.takes;
  rounds_over = s.rounds_over;
  call_ends = l.call_ends;
  freed = s.freed;
  frees = s.frees;
  nested = λ o p ne dd dp n. let still = l.nested o p ne dd dp n in (still, λ w c d. omega (arith, ap length still.round, s.shorter o w c d));
}

every_both : (h : List Step) → Every Living h → Every Served h → Every Lives h
unfolding Every
every_both [] l s = tt
every_both (st ∷ h) l s = (lives_of st h l.0 s.0, every_both h l.1 s.1)

pub lives : (capacity first : ℕ) (classes : List Class) → can_open capacity first classes ≡ true → (cs : List Call) → Every Lives (history (run cs (opening capacity first classes)))
lives capacity first classes e cs =
    let start = opening_between capacity first classes e in every_both _ (living cs _ start) (every_served cs _ start (opening_story capacity first classes))

pub law : HoldsOfEveryRun
law capacity first classes e cs =
    let start = opening_between capacity first classes e in
    let end = end_between cs (opening capacity first classes) start in
    record {
      nothing_lost_or_kept = nothing_lost_or_kept capacity first classes e cs;
      lives = lives capacity first classes e cs;
      replies = replies capacity first classes cs;
      hand_backs_end = hand_backs_end_at _ end.always.inv end.rests;
      counted = every_counted cs _ start;
      places = every_named cs _ start;
      settings = every_set cs _ start;
      tallies = tallied capacity first classes e cs;
      moments = chained cs _ start;
      finished = end.rests;
    }
