-- Worked examples: calls on a core that has just been opened, and what they are answered.
use Rattle.std.specs.Prelude.{ℕ, true, false, List, [], ◌∷◌, ◌++◌, map, replicate, Some, None, Ok, Err}
use Rattle.refusal.specs.declared.Refusal.{Refusal}
use Rattle.refusal.specs.declared.Refusal.TheVariants.{NoSuch, NoPlace, CountFull}
use Rattle.classes.specs.Rows.{Class}
use Rattle.payload.specs.Kinds.{a_row}
use Rattle.definition.specs.State.{State}
use Rattle.definition.specs.Calls.{Asked, Del, Callback, Make, Hold, Drop, Store, Weaken, Upgrade, Attend, HandBack}
use Rattle.definition.specs.Questions.{StrongCount}
use Rattle.definition.specs.Runs.{Entry, Calls, Asks, Answer, Replies, Tells}
use Rattle.definition.specs.Opening.{opening}

-- ---- the classes that the runner opens a core with (docs/LISTS.md)

abbrev pub plain_references : Class
plain_references = record { members = 0; dictionary = false; weak = true; immutable = true; del = false; ancestors = [] }

abbrev pub two_slots : Class
two_slots = record { members = 2; dictionary = false; weak = false; immutable = false; del = false; ancestors = [] }

abbrev pub with_del : Class
with_del = record { members = 0; dictionary = false; weak = false; immutable = false; del = true; ancestors = [] }

abbrev pub under_with_del : Class
under_with_del = record { members = 0; dictionary = false; weak = false; immutable = false; del = false; ancestors = 3 ∷ [] }

abbrev pub other_references : Class
other_references = record { members = 0; dictionary = false; weak = true; immutable = false; del = false; ancestors = [] }

abbrev pub table : List Class
table = plain_references ∷ two_slots ∷ with_del ∷ under_with_del ∷ other_references ∷ []

-- 256 places, first birth 1
abbrev pub fresh : State
fresh = opening 256 1 table

-- ---- entries

-- no dictionary, and a `Row` payload with no edges
abbrev pub make : ℕ → Entry
make class = Calls (Make class 0 (a_row []))

abbrev pub hold : ℕ → Entry
hold o = Calls (Hold o)

abbrev pub drop : ℕ → Entry
drop o = Calls (Drop o 256)

abbrev pub weaken : ℕ → ℕ → ℕ → Entry
weaken class o callback = Calls (Weaken class o callback 0)

abbrev pub upgrade : ℕ → Entry
upgrade w = Calls (Upgrade w)

abbrev pub store : ℕ → ℕ → ℕ → Entry
store o slot content = Calls (Store o slot content)

abbrev pub attend : Entry
attend = Calls (Attend true)

abbrev pub hand_back : ℕ → Entry
hand_back turn = Calls (HandBack turn 256)

-- ---- answers

-- accepted: the number; and with births freed; and with a turn opened
abbrev pub ok : ℕ → Answer
ok number = Replies (Ok (record { number = number; freed = []; listed = []; turn = None }))

abbrev pub ok_freed : List ℕ → Answer
ok_freed births = Replies (Ok (record { number = 0; freed = births; listed = []; turn = None }))

abbrev pub opens : ℕ → Asked → Answer
opens depth asked = Replies (Ok (record { number = 0; freed = []; listed = []; turn = Some (record { depth = depth; asked = asked }) }))

-- refused
abbrev pub no : Refusal → ℕ → Answer
no refusal argument = Replies (Err (record { refusal = refusal; argument = argument }))

-- ---- an example: entries, each with what it is answered

abbrev pub Lines : Type 0
Lines = List (Entry × Answer)

abbrev pub entries : Lines → List Entry
entries lines = map (λ line. line.0) lines

abbrev pub replies : Lines → List Answer
replies lines = map (λ line. line.1) lines

-- ---- the list that docs/LISTS.md prints

abbrev pub worked : Lines
worked =
    (attend, ok 0)
    ∷ (make 3, ok 1)
    ∷ (weaken 1 1 0, ok 2)
    ∷ (weaken 1 1 0, ok 2)
    ∷ (drop 1, opens 1 (Del 1 3))
    ∷ (upgrade 2, ok 1)
    ∷ (hand_back 1, ok 0)
    ∷ (drop 1, opens 1 (Del 1 3))
    ∷ (hand_back 1, ok_freed (1 ∷ []))
    ∷ (upgrade 2, ok 0)
    ∷ (drop 1, no NoSuch 1)
    ∷ []

-- ---- of two slots, 0 and 1, slot 1 is stored into, and there is no slot 2

abbrev pub slots : Lines
slots =
    (make 2, ok 1)
    ∷ (make 2, ok 2)
    ∷ (hold 2, ok 0)
    ∷ (store 1 1 2, ok 0)
    ∷ (store 1 2 2, no NoPlace 2)
    ∷ (store 1 1 0, ok 2)
    ∷ []

-- ---- references of class 1 without a callback are one; with a callback they differ, and so do references of class 5

abbrev pub twice : Lines
twice =
    (make 2, ok 1)
    ∷ (weaken 1 1 0, ok 2)
    ∷ (weaken 1 1 0, ok 2)
    ∷ (weaken 5 1 0, ok 3)
    ∷ (weaken 5 1 0, ok 4)
    ∷ (make 2, ok 5)
    ∷ (hold 5, ok 0)
    ∷ (weaken 1 1 5, ok 6)
    ∷ (weaken 1 1 5, ok 7)
    ∷ (weaken 1 1 0, ok 2)
    ∷ []

-- ---- an object of class 4 runs the del of class 3, its ancestor

abbrev pub inherited : Lines
inherited =
    (attend, ok 0)
    ∷ (make 4, ok 1)
    ∷ (drop 1, opens 1 (Del 1 3))
    ∷ (hand_back 1, ok_freed (1 ∷ []))
    ∷ []

-- ---- an object is made, which counts one, and held n times. At a count of 65,534 it is held again, and at 65,535 it is not

unfoldable pub held : ℕ → List Entry
held n = make 2 ∷ replicate n (hold 1)

abbrev pub filled : Lines
filled =
    (Asks (StrongCount 1), Tells (Ok 65534))
    ∷ (hold 1, ok 0)
    ∷ (Asks (StrongCount 1), Tells (Ok 65535))
    ∷ (hold 1, no CountFull 0)
    ∷ []

-- ---- object 1 gets seventeen references: 3 is the oldest, 19 the newest. The host has a handle of each, and none of
-- their callback, object 2

abbrev pub seventeen : List Entry
seventeen = attend ∷ make 2 ∷ make 2 ∷ replicate 16 (hold 2) ++ replicate 17 (weaken 5 1 2)

-- the turn of a reference, and a hand back that is followed by it
abbrev pub turn : ℕ → Answer
turn w = opens 1 (Callback 2 w)

abbrev pub next : ℕ → Entry × Answer
next w = (hand_back 1, turn w)

-- when object 1 dies, each of the seventeen has its turn
abbrev pub death : Lines
death =
    (drop 1, turn 19)
    ∷ map next (18 ∷ 17 ∷ 16 ∷ 15 ∷ 14 ∷ 13 ∷ 12 ∷ 11 ∷ 10 ∷ 9 ∷ 8 ∷ 7 ∷ 6 ∷ 5 ∷ 4 ∷ 3 ∷ [])
    ++ ((hand_back 1, ok_freed (2 ∷ 1 ∷ [])) ∷ [])

-- in the first turn the handles of 3 and 4 are dropped: 3 is freed, and has no turn; the round holds 4 already, which has its
-- turn and is freed behind it
abbrev pub hasty_death : Lines
hasty_death =
    (drop 1, turn 19)
    ∷ (drop 3, ok_freed (3 ∷ []))
    ∷ (drop 4, ok 0)
    ∷ map next (18 ∷ 17 ∷ 16 ∷ 15 ∷ 14 ∷ 13 ∷ 12 ∷ 11 ∷ 10 ∷ 9 ∷ 8 ∷ 7 ∷ 6 ∷ 5 ∷ 4 ∷ [])
    ++ ((hand_back 1, ok_freed (2 ∷ 4 ∷ 1 ∷ [])) ∷ [])
