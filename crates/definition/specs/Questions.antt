-- What changes nothing: the questions, tracing, and the downcasts.
use Rattle.std.specs.Prelude.{ℕ, suc, Bool, cond, not, ◌&&◌, List, [], ◌∷◌, ◌++◌, length, take, drop, Some, None, Ok, Err, Option, Result, ◌==◌, nat_eq, nat_lt}
use Rattle.refusal.specs.declared.Fault.{Fault}
use Rattle.refusal.specs.declared.Refusal.TheVariants.{NoClass, BrokenClass, ListShort}
use Rattle.refusal.specs.Numbers.{number}
use Rattle.classes.specs.Rows.{known}
use Rattle.definition.specs.Base.{those}
use Rattle.definition.specs.State.{State}
use Rattle.definition.specs.Refusals.{first_met, at_argument, at_none, Argument, Names, Gives, Plain, naming}
use Rattle.definition.specs.Calls.{HandBack, refusal}

abbrev pub unless_refused : {A : Type 0} → Option Fault → A → Result A Fault
unless_refused None a = Ok a
unless_refused (Some fault) a = Err fault

-- ---- questions

-- about an object: strong count, weak count, handles, class, kind. About the core: open turns, unfreed objects, and by which
-- number the hand back of a turn would be refused if so many entries were lent
pub data Question : Type 0 where
  StrongCount WeakCount Handles ClassOf KindOf : ℕ → Question
  OpenTurns Unfreed : Question
  HandBackRefusal : ℕ → ℕ → Question

abbrev pub asks_of : Question → List Argument
asks_of (StrongCount o) = Names o ∷ []
asks_of (WeakCount o) = Names o ∷ []
asks_of (Handles o) = Names o ∷ []
asks_of (ClassOf o) = Names o ∷ []
asks_of (KindOf o) = Names o ∷ []
asks_of OpenTurns = []
asks_of Unfreed = []
asks_of (HandBackRefusal turn lent) = []

abbrev pub number_of : Option Fault → ℕ
number_of None = 0
number_of (Some fault) = number fault.refusal

abbrev pub value : Question → State → ℕ
value (StrongCount o) s = s.strong o
value (WeakCount o) s = length (s.weak o)
value (Handles o) s = s.handles o
value (ClassOf o) s = (s.shape o).class
value (KindOf o) s = (s.shape o).kind
value OpenTurns s = s.turns
value Unfreed s = s.unfreed
value (HandBackRefusal turn lent) s = number_of (refusal (HandBack turn lent) s)

unfoldable pub told : Question → State → Result ℕ Fault
told q s = unless_refused (first_met (naming s (asks_of q) [])) (value q s)

-- ---- tracing

-- dictionary and slots come first among the places
abbrev pub own_places : State → ℕ → List ℕ
own_places s o = take (suc (s.shape o).slots) (s.places o)

abbrev pub edges : State → ℕ → List ℕ
edges s o = drop (suc (s.shape o).slots) (s.places o)

-- the names that an object refers to: its dictionary, its filled slots, the filled edges of a traced payload
abbrev pub visits : State → ℕ → List ℕ
visits s o = those (λ x. not (x == 0)) (own_places s o ++ cond (s.shape o).traced (edges s o) [])

unfoldable pub traced : ℕ → ℕ → State → Result (List ℕ) Fault
traced o lent s = unless_refused (first_met (naming s (Names o ∷ []) (at_none ListShort (nat_lt lent (length (visits s o))) ∷ []))) (visits s o)

-- ---- downcasts: whether the handle comes back typed, or as it was

unfoldable pub downcast : ℕ → ℕ → State → Result Bool Fault
downcast o kind s = unless_refused (first_met (naming s (Gives o ∷ []) [])) ((s.shape o).kind == kind)

unfoldable pub downcast_exact : ℕ → ℕ → ℕ → State → Result Bool Fault
downcast_exact o class kind s =
    let same = nat_eq (s.shape o).class class in
    unless_refused
    (first_met (naming s (Gives o ∷ Plain ∷ []) (at_argument NoClass 2 (not (known s.classes class)) ∷ at_argument BrokenClass 1 (same && not ((s.shape o).kind == kind)) ∷ [])))
    same
