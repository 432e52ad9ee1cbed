-- Calls, questions, traces and downcasts made one after another.
use Rattle.std.specs.Prelude.{ℕ, Bool, List, [], ◌∷◌, Result}
use Rattle.refusal.specs.declared.Fault.{Fault}
use Rattle.definition.specs.State.{State}
use Rattle.definition.specs.Calls.{Call, Reply, call, answer}
use Rattle.definition.specs.Questions.{Question, told, traced, downcast, downcast_exact}

pub data Entry : Type 0 where
  Calls : Call → Entry
  Asks : Question → Entry
  Traces : ℕ → ℕ → Entry
  Downcasts : ℕ → ℕ → Entry
  DowncastsExact : ℕ → ℕ → ℕ → Entry

-- what an entry is answered
pub data Answer : Type 0 where
  Replies : Result Reply Fault → Answer
  Tells : Result ℕ Fault → Answer
  Visits : Result (List ℕ) Fault → Answer
  Casts : Result Bool Fault → Answer

-- only a call changes the state
abbrev pub entered : Entry → State → State
entered (Calls c) s = call c s
entered (Asks q) s = s
entered (Traces o lent) s = s
entered (Downcasts o kind) s = s
entered (DowncastsExact o class kind) s = s

abbrev pub answer_to : Entry → State → Answer
answer_to (Calls c) s = Replies (answer c s)
answer_to (Asks q) s = Tells (told q s)
answer_to (Traces o lent) s = Visits (traced o lent s)
answer_to (Downcasts o kind) s = Casts (downcast o kind s)
answer_to (DowncastsExact o class kind) s = Casts (downcast_exact o class kind s)

-- the state after some entries, and what each was answered
abbrev pub after_all : List Entry → State → State
after_all [] s = s
after_all (e ∷ es) s = after_all es (entered e s)

abbrev pub answers : List Entry → State → List Answer
answers [] s = []
answers (e ∷ es) s = answer_to e s ∷ answers es (entered e s)
