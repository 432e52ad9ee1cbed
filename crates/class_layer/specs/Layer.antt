-- What the layer remembers.
use Rattle.std.specs.Prelude.{◌≡◌, ℕ, ◌+◌, ◌%◌, List, replicate, Some, None, Option, ◌==◌, slice_set}
use Rattle.std.specs.List.{AllByRecursion, find}
use Rattle.std.specs.Option.{option_map}
use Rattle.classes.specs.Rows.{Class, find_del}
use Rattle.class_layer.specs.declared.answers.Answer.{Answer}
use Rattle.class_layer.specs.declared.answers.Answers.{Answers}

-- the answer that is kept for a class
abbrev pub looked_up : List Answer → ℕ → Option ℕ
looked_up kept c = option_map (λ a. a.del) (find (λ a. a.class == c) kept)

abbrev pub answer_in : Answers → ℕ → Option ℕ
answer_in a c = looked_up a.kept c

-- one more answer, and none
abbrev pub with_answer : Answers → ℕ → ℕ → Answers
with_answer a c d = record { kept = slice_set a.kept (a.next % 16) (record { class = c; del = d }); next = (a.next % 16 + 1) % 16 }

abbrev pub no_answers : Answers
no_answers = record { kept = replicate 16 (record { class = 0; del = 0 }); next = 0 }

-- the answers after a question: what was not kept is
abbrev pub after_question : Option ℕ → Answers → ℕ → ℕ → Answers
after_question (Some d) a c r = a
after_question None a c r = with_answer a c r

abbrev pub after_find : Answers → ℕ → ℕ → Answers
after_find a c r = after_question (answer_in a c) a c r

-- each answer that is kept is find del's over these rows
abbrev pub Right : List Class → List Answer → Type 0
Right rows kept = AllByRecursion (λ a. a.del ≡ find_del rows a.class) kept

-- a layer: the table below it, and the answers
pub record Layer (T : Type 0) : Type 0 where
  pub below : T
  pub answers : Answers
