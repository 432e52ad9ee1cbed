use Rattle.std.proofs.Common.{refl}
use Rattle.definition.specs.Death.{give_up, advance, frees, work, settle, freed_in, settled, freed}
use Rattle.definition.specs.Calls.{refusal, outcome, call, answer}
use Rattle.definition.proofs.ManyHolds.{filled_at}
use Rattle.definition.proofs.worked_examples.Goals as goal

pub returns-clause-as_docs_say : goal.returns-clause-as_docs_say
unfolding give_up advance frees work settle freed_in settled freed refusal outcome call answer
returns-clause-as_docs_say c = refl

pub returns-clause-slot_past_the_last : goal.returns-clause-slot_past_the_last
unfolding give_up advance frees work settle freed_in settled freed refusal outcome call answer
returns-clause-slot_past_the_last c = refl

pub returns-clause-only_class_1_is_cached : goal.returns-clause-only_class_1_is_cached
unfolding give_up advance frees work settle freed_in settled freed refusal outcome call answer
returns-clause-only_class_1_is_cached c = refl

pub returns-clause-del_of_an_ancestor : goal.returns-clause-del_of_an_ancestor
unfolding give_up advance frees work settle freed_in settled freed refusal outcome call answer
returns-clause-del_of_an_ancestor c = refl

pub returns-clause-seventeen_turns : goal.returns-clause-seventeen_turns
unfolding give_up advance frees work settle freed_in settled freed refusal outcome call answer
returns-clause-seventeen_turns c = refl

pub returns-clause-oldest_has_no_turn : goal.returns-clause-oldest_has_no_turn
unfolding give_up advance frees work settle freed_in settled freed refusal outcome call answer
returns-clause-oldest_has_no_turn c = refl

pub returns-clause-count_full : goal.returns-clause-count_full
returns-clause-count_full c = filled_at
