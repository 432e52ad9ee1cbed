-- Over every run the tallies say what the state is, and nothing is lost or kept by mistake.
use Rattle.std.proofs.Common.{◌≡◌, ℕ, true, List}
use Rattle.classes.specs.Rows.{Class}
use Rattle.definition.specs.Calls.{Call}
use Rattle.definition.specs.Opening.{can_open, opening}
use Rattle.law.specs.Run.{run, end}
use Rattle.law.specs.Law.{NothingLostOrKept, Tallied}
use Rattle.law.proofs.Moments.{Between, opening_between, each_between, change_always}
use Rattle.law.proofs.Tallying as tallying

pub tallied : (capacity first : ℕ) (classes : List Class) → can_open capacity first classes ≡ true → (cs : List Call) → Tallied (run cs (opening capacity first classes)) (end cs (opening capacity first classes))
tallied = tallying.tallied Between opening_between each_between (λ s b. b.always.inv) (λ s b. b.rests) (λ c s b g. (change_always c s b g).inv)

pub nothing_lost_or_kept : (capacity first : ℕ) (classes : List Class) → can_open capacity first classes ≡ true → (cs : List Call) → NothingLostOrKept (run cs (opening capacity first classes)) (end cs (opening capacity first classes))
nothing_lost_or_kept = tallying.nothing_lost_or_kept Between opening_between each_between (λ s b. b.always.inv) (λ s b. b.rests) (λ c s b g. (change_always c s b g).inv)
