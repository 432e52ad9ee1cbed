-- Handles that a call takes over become owed.
use Rattle.std.proofs.Common.{[], arith}
use Rattle.definition.specs.State.{State}
use Rattle.definition.specs.Refusals.{past}
use Rattle.definition.specs.Calls.{Call, arguments, handed}
use Rattle.law.proofs.Invariant.{placed, lent, Inv, retold}
use Rattle.law.proofs.Granted.{AllFalse, handed_names, taken_counts, taken_all_less}

-- the handles that a call takes over are owed
pub handed_inv : (c : Call) (s : State) → Inv s [] → AllFalse (past s.handles (arguments c)) → Inv (handed c s) (handed_names (arguments c))
unfolding placed lent
handed_inv c s i f =
    record {
      good = λ y py. retold _ _ _ _ (i.good y py) (omega (arith, taken_counts (arguments c) s.handles f y py)) (omega (arith, (i.good y py).few));
      zeroth = omega (arith, i.zeroth, taken_all_less (arguments c) s.handles 0);
      lists = i.lists;
      frame = i.frame;
    }
