use Rattle.std.proofs.Common.{refl}
use Rattle.definition.specs.Death.{give_up, advance, frees, work, settle, freed_in, settled, freed}
use Rattle.definition.specs.Calls.{refusal, outcome, call, answer}
use Rattle.definition.specs.Questions.{told, traced}
use Rattle.recorded_lists.proofs.the_definition_answers_as_recorded.Goals as goal

pub returns : goal.returns
unfolding give_up advance frees work settle freed_in settled freed refusal outcome call answer told traced
returns c = record { worked_example = refl; deaths_in_deaths = refl; turns_in_turns = refl; del_of_an_ancestor = refl; del_set_and_taken = refl; kept_in_a_slot = refl; order_of_frees = refl; payloads = refl; dictionaries = refl; cached_reference = refl; cached_reference_dying = refl; class_1_cached_class_5_not = refl; callback_goes_last = refl; callback_is_the_referent = refl; references_dropped_in_a_round = refl; rounds_of_sixteen = refl; no_host = refl; marks = refl; dying_cannot_be_named = refl; handles_counted_from_the_left = refl; no_such_place = refl; no_room_while_dying = refl; too_many_places = refl; opened = refl }
