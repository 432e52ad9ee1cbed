-- The calls: when each is refused, what it changes, what it answers.
use Rattle.std.specs.Prelude.{ℕ, suc, ◌+◌, ◌-◌, min, Bool, true, false, cond, not, ◌&&◌, ◌||◌, List, [], ◌∷◌, ◌++◌, map, length, drop, replicate, Some, None, Ok, Err, Option, Result, ◌==◌, nat_le, nat_lt, slice_index, slice_set}
use Rattle.refusal.specs.declared.Fault.{Fault}
use Rattle.refusal.specs.declared.Refusal.TheVariants.{NoClass, WrongClass, FixedClass, NotWeak, NoPlace, Marked, CountFull, NoRoom, BirthsSpent, NotNewest, ListShort}
use Rattle.payload.specs.Meaning.{Meaning}
use Rattle.classes.specs.Rows.{Class, class_at, known, after_set_del}
use Rattle.definition.specs.Base.{those}
use Rattle.definition.specs.State.{Phase, Absent, Resting, DelOpen, Taking, Draining, Calling, Freeing, Leaving, State, is_live}
use Rattle.definition.specs.Changes.{with_phase, with_places, with_weak, with_cached, with_strong, with_handles, with_interned, with_turns, with_stack, with_attends, with_classes, with_all_handles, born}
use Rattle.definition.specs.Death.{loose, less, spent, clearing_begins, give_up, settled, freed}
use Rattle.definition.specs.Refusals.{Ground, first_met, at_argument, at_none, Argument, Plain, Names, Gives, Stores, taken_all, naming, count_full, no_room, births_spent}

-- Arguments are in the order in which refusals count them; the last number of drop, set dictionary, list and hand back
-- is how many entries are lent, and is not counted.
pub data Call : Type 0 where
  Make : ℕ → ℕ → Meaning → Call
  Hold : ℕ → Call
  Drop : ℕ → ℕ → Call
  Store Swap : ℕ → ℕ → ℕ → Call
  SetDictionary : ℕ → ℕ → ℕ → Call
  Weaken : ℕ → ℕ → ℕ → ℕ → Call
  Upgrade : ℕ → Call
  ListWeak : ℕ → ℕ → Call
  Intern : ℕ → Call
  Attend : Bool → Call
  SetDel : ℕ → Bool → Call
  HandBack : ℕ → ℕ → Call

abbrev pub arguments : Call → List Argument
arguments (Make class dictionary payload) = Plain ∷ Stores dictionary ∷ map Stores payload.edges
arguments (Hold o) = Names o ∷ []
arguments (Drop o lent) = Gives o ∷ []
arguments (Store o slot content) = Names o ∷ Plain ∷ Stores content ∷ []
arguments (Swap o edge content) = Names o ∷ Plain ∷ Stores content ∷ []
arguments (SetDictionary o dictionary lent) = Names o ∷ Gives dictionary ∷ []
arguments (Weaken class o callback dictionary) = Plain ∷ Names o ∷ Stores callback ∷ Stores dictionary ∷ []
arguments (Upgrade w) = Names w ∷ []
arguments (ListWeak o lent) = Names o ∷ []
arguments (Intern o) = Names o ∷ []
arguments (Attend host) = []
arguments (SetDel class del) = []
arguments (HandBack turn lent) = []

-- ---- places of an object

-- the dictionary is the first place; 0 where none stands
abbrev pub dictionary_of : State → ℕ → ℕ
dictionary_of s o = slice_index (s.places o) 0

-- where a slot and an edge stand among the places
abbrev pub slot_place : ℕ → ℕ
slot_place k = suc k

abbrev pub edge_place : State → ℕ → ℕ → ℕ
edge_place s o k = suc ((s.shape o).slots + k)

abbrev pub content : State → ℕ → ℕ → ℕ
content s o k = slice_index (s.places o) k

-- the places of a new object: its slots are empty. A row that has more than 8 members opens no core
abbrev pub slot_count : Class → ℕ
slot_count row = min row.members 8

abbrev pub new_places : Class → ℕ → List ℕ → List ℕ
new_places row dictionary edges = dictionary ∷ (replicate (slot_count row) 0 ++ edges)

-- ---- weak references

-- those that a round would hold: a reference is left to them, or a mark keeps them
abbrev pub standing : State → ℕ → List ℕ
standing s o = those (λ w. not (spent s w)) (s.weak o)

-- class 1 without a callback answers the cached reference again, if it still stands
abbrev pub reused : State → ℕ → ℕ → ℕ → Bool
reused s class o callback = (class == 1 && callback == 0) && (not (s.cached o == 0) && not (spent s (s.cached o)))

-- what an upgrade answers: the referent while it is live. A live object has a reference or a mark, so the second test
-- never decides
abbrev pub answering : State → ℕ → Bool
answering s w = let r = (s.shape w).referent in is_live (s.phase r) && not (spent s r)

-- ---- refusals

abbrev pub any_full : State → List ℕ → Bool
any_full s [] = false
any_full s (w ∷ ws) = count_full s w || any_full s ws

-- each call's own conditions, behind those on the names
abbrev pub own_grounds : Call → State → List Ground
own_grounds (Make class dictionary payload) s =
    at_argument NoClass 1 (not (known s.classes class))
    ∷ at_argument WrongClass 1 (class_at s.classes class).weak
    ∷ at_none NoRoom (no_room s)
    ∷ at_none BirthsSpent (births_spent s)
    ∷ []
own_grounds (Hold o) s = at_none CountFull (count_full s o) ∷ []
own_grounds (Drop o lent) s = at_none ListShort (nat_lt lent s.unfreed) ∷ []
own_grounds (Store o slot content) s = at_argument NoPlace 2 (nat_le (s.shape o).slots slot) ∷ []
own_grounds (Swap o edge content) s = at_argument NoPlace 2 (nat_le (length (s.places o)) (edge_place s o edge)) ∷ []
own_grounds (SetDictionary o dictionary lent) s = at_argument NoPlace 1 (dictionary_of s o == 0) ∷ at_none ListShort (nat_lt lent s.unfreed) ∷ []
own_grounds (Weaken class o callback dictionary) s =
    at_argument NoClass 1 (not (known s.classes class))
    ∷ at_argument WrongClass 1 (not (class_at s.classes class).weak)
    ∷ at_argument NoPlace 4 (cond (class_at s.classes class).dictionary (dictionary == 0) (not (dictionary == 0)))
    ∷ at_none CountFull (reused s class o callback && count_full s (s.cached o))
    ∷ at_none NoRoom (not (reused s class o callback) && no_room s)
    ∷ at_none BirthsSpent (not (reused s class o callback) && births_spent s)
    ∷ []
own_grounds (Upgrade w) s = at_argument NotWeak 1 (not ((s.shape w).kind == 1)) ∷ at_none CountFull (answering s w && count_full s (s.shape w).referent) ∷ []
own_grounds (ListWeak o lent) s = at_none CountFull (any_full s (standing s o)) ∷ at_none ListShort (nat_lt lent (length (standing s o))) ∷ []
own_grounds (Intern o) s = at_argument Marked 1 (s.interned o) ∷ []
own_grounds (Attend host) s = []
own_grounds (SetDel class del) s = at_argument NoClass 1 (not (known s.classes class)) ∷ at_argument FixedClass 1 (class_at s.classes class).immutable ∷ []
own_grounds (HandBack turn lent) s = at_argument NotNewest 1 (turn == 0 || not (turn == s.turns)) ∷ at_none ListShort (nat_lt lent s.unfreed) ∷ []

abbrev pub grounds : Call → State → List Ground
grounds c s = naming s (arguments c) (own_grounds c s)

unfoldable pub refusal : Call → State → Option Fault
refusal c s = first_met (grounds c s)

-- ---- what an accepted call changes

-- the host gives what the arguments give
abbrev pub handed : Call → State → State
handed c s = with_all_handles (taken_all (arguments c) s.handles) s

-- a handle more, which is a reference more
abbrev pub hold : ℕ → State → State
hold o s = with_handles o (s.handles o + 1) (with_strong o (s.strong o + 1) s)

abbrev pub hold_all : List ℕ → State → State
hold_all [] s = s
hold_all (o ∷ os) s = hold_all os (hold o s)

-- a reference of a place becomes the host's handle
abbrev pub gained : ℕ → State → State
gained o s = cond (loose s o) (with_handles o (s.handles o + 1) s) s

-- content goes into a place, and what was there to the host
abbrev pub exchanged : ℕ → ℕ → ℕ → State → State
exchanged o k v s = gained (content s o k) (with_places o (slice_set (s.places o) k v) s)

-- a weak reference, at the front of the list of o
abbrev pub new_reference : ℕ → ℕ → ℕ → ℕ → State → State
new_reference class o callback dictionary s =
    let w = s.next in
    let row = class_at s.classes class in
    with_cached o (cond (class == 1 && callback == 0) w (s.cached o))
    (with_weak o (w ∷ s.weak o)
    (born (record { class = class; kind = 1; traced = false; slots = slot_count row; referent = o }) (new_places row dictionary []) callback s))

-- a del's hand back: the turn's reference goes; the object is kept if one is left or a mark keeps it
abbrev pub del_ends : ℕ → List ℕ → State → State
del_ends o below s = cond (spent s o) (clearing_begins o s) (with_stack below (with_phase o Resting s))

abbrev pub handed_back : Phase → ℕ → List ℕ → State → State
handed_back Absent o below s = s
handed_back Resting o below s = s
handed_back (DelOpen c) o below s = del_ends o below (cond (loose s o) (less o s) s)
handed_back Taking o below s = s
handed_back Draining o below s = s
handed_back (Calling c w) o below s = with_phase o Draining s
handed_back (Freeing k) o below s = s
handed_back Leaving o below s = s

abbrev pub newest_back : List ℕ → State → State
newest_back [] s = s
newest_back (o ∷ below) s = handed_back (s.phase o) o below (with_turns (s.turns - 1) s)

-- what an accepted call comes to. Answers: the number, the names listed, and its change. DeathsFollow: how many turns its
-- change leaves open, and the change, from which deaths go on; the number is 0
pub data Outcome : Type 0 where
  Answers : ℕ → List ℕ → State → Outcome
  DeathsFollow : ℕ → State → Outcome

unfoldable pub outcome : Call → State → Outcome
outcome (Make class dictionary payload) s =
    let row = class_at s.classes class in
    Answers s.next [] (born (record { class = class; kind = payload.kind; traced = payload.traced; slots = slot_count row; referent = 0 }) (new_places row dictionary payload.edges) 0 (handed (Make class dictionary payload) s))
outcome (Hold o) s = Answers 0 [] (hold o s)
outcome (Drop o lent) s = DeathsFollow s.turns (give_up o (handed (Drop o lent) s))
outcome (Store o slot v) s = Answers (content s o (slot_place slot)) [] (exchanged o (slot_place slot) v (handed (Store o slot v) s))
outcome (Swap o edge v) s = Answers (content s o (edge_place s o edge)) [] (exchanged o (edge_place s o edge) v (handed (Swap o edge v) s))
outcome (SetDictionary o dictionary lent) s =
    DeathsFollow s.turns (give_up (dictionary_of s o) (with_places o (slice_set (s.places o) 0 dictionary) (handed (SetDictionary o dictionary lent) s)))
outcome (Weaken class o callback dictionary) s =
    cond (reused s class o callback)
    (Answers (s.cached o) [] (hold (s.cached o) s))
    (Answers s.next [] (new_reference class o callback dictionary (handed (Weaken class o callback dictionary) s)))
outcome (Upgrade w) s = cond (answering s w) (Answers (s.shape w).referent [] (hold (s.shape w).referent s)) (Answers 0 [] s)
outcome (ListWeak o lent) s = Answers (length (standing s o)) (standing s o) (hold_all (standing s o) s)
outcome (Intern o) s = Answers 0 [] (with_interned o true s)
outcome (Attend host) s = Answers 0 [] (with_attends host s)
outcome (SetDel class del) s = Answers 0 [] (with_classes (after_set_del s.classes class del) s)
outcome (HandBack turn lent) s = DeathsFollow (s.turns - 1) (newest_back s.stack s)

-- ---- the state after, and the reply

-- what a turn asks the host to run: a del, of an object, and the class whose del it is; or a callback, with its reference
pub data Asked : Type 0 where
  Del : ℕ → ℕ → Asked
  Callback : ℕ → ℕ → Asked

pub record Turn : Type 0 where
  pub depth : ℕ
  pub asked : Asked

pub record Reply : Type 0 where
  pub number : ℕ
  pub freed : List ℕ
  pub listed : List ℕ
  pub turn : Option Turn

-- the turn that the newest death waits in
abbrev pub turn_of : Phase → ℕ → ℕ → Option Turn
turn_of Absent o depth = None
turn_of Resting o depth = None
turn_of (DelOpen c) o depth = Some (record { depth = depth; asked = Del o c })
turn_of Taking o depth = None
turn_of Draining o depth = None
turn_of (Calling c w) o depth = Some (record { depth = depth; asked = Callback c w })
turn_of (Freeing k) o depth = None
turn_of Leaving o depth = None

abbrev pub newest_turn : List ℕ → State → Option Turn
newest_turn [] s = None
newest_turn (o ∷ below) s = turn_of (s.phase o) o s.turns

-- a turn has opened if more are open than were left open
abbrev pub turn_since : ℕ → State → Option Turn
turn_since left s = cond (nat_lt left s.turns) (newest_turn s.stack s) None

abbrev pub after : Outcome → State
after (Answers number listed s) = s
after (DeathsFollow left s) = settled s

abbrev pub replied : Outcome → Reply
replied (Answers number listed s) = record { number = number; freed = []; listed = listed; turn = None }
replied (DeathsFollow left s) = record { number = 0; freed = freed s; listed = []; turn = turn_since left (settled s) }

-- a refused call changes nothing
abbrev pub state_after : Option Fault → Outcome → State → State
state_after None out s = after out
state_after (Some fault) out s = s

abbrev pub answered : Option Fault → Outcome → Result Reply Fault
answered None out = Ok (replied out)
answered (Some fault) out = Err fault

unfoldable pub call : Call → State → State
call c s = state_after (refusal c s) (outcome c s) s

unfoldable pub answer : Call → State → Result Reply Fault
answer c s = answered (refusal c s) (outcome c s)

-- ---- lent lists

-- a lent list after a call: its front is filled in order, the entries behind stay
abbrev pub filled : List ℕ → List ℕ → List ℕ
filled names lent = names ++ drop (length names) lent
