-- Lists of calls, and what rustpython-vm 0.4.0 answered to them, recorded with a runner built around its object core.
-- Before each list stands its text, and before its answers the replies as they were printed; the letters are those of
-- a call list, and further ones for the other calls (s store, x swap, y set dictionary, l list, e set del, v weaken with a
-- dictionary, n and c make with a note or a cell, where the value of a note comes last and means nothing here) and for
-- questions (q strong count, k weak count, t trace).
use Rattle.std.specs.Prelude.{ℕ, true, false, List, [], ◌∷◌, Some, None, Ok, Err, Option}
use Rattle.refusal.specs.declared.Fault.{Fault}
use Rattle.refusal.specs.declared.Refusal.{Refusal}
use Rattle.refusal.specs.declared.Refusal.TheVariants.{BadTable, NoSuch, Dying, NotYours, NoPlace, Marked, NoRoom, NotNewest}
use Rattle.payload.specs.Kinds.{a_note, a_cell, a_row}
use Rattle.definition.specs.Calls.{Make, Hold, Drop, Store, Swap, SetDictionary, Weaken, Upgrade, ListWeak, Intern, Attend, SetDel, HandBack, Asked, Del, Callback}
use Rattle.definition.specs.Questions.{StrongCount, WeakCount}
use Rattle.definition.specs.Runs.{Entry, Calls, Asks, Traces, Answer, Replies, Tells, Visits}

-- how many entries are lent: as many as a core has places
abbrev pub enough : ℕ
enough = 256

-- accepted, with a number
abbrev pub ok : ℕ → Answer
ok number = Replies (Ok (record { number = number; freed = []; listed = []; turn = None }))

-- accepted, and these births are freed
abbrev pub ok_frees : List ℕ → Answer
ok_frees births = Replies (Ok (record { number = 0; freed = births; listed = []; turn = None }))

-- accepted; these births are freed, and then a turn opens
abbrev pub ok_turn : List ℕ → ℕ → Asked → Answer
ok_turn births depth asked = Replies (Ok (record { number = 0; freed = births; listed = []; turn = Some (record { depth = depth; asked = asked }) }))

-- accepted, and so many names are listed
abbrev pub ok_lists : ℕ → List ℕ → Answer
ok_lists number names = Replies (Ok (record { number = number; freed = []; listed = names; turn = None }))

-- refused, and which argument is to blame
abbrev pub no : Refusal → ℕ → Answer
no refusal argument = Replies (Err (record { refusal = refusal; argument = argument }))

-- what a trace visits
abbrev pub visits : List ℕ → Answer
visits names = Visits (Ok names)

-- what a question is answered
abbrev pub tells : ℕ → Answer
tells number = Tells (Ok number)

-- ---- worked example

-- The example of call lists: a cached reference is answered again, and a del keeps its object once:
-- a 1, m 3 0, w 1 1 0, w 1 1 0, d 1, u 2, b 1, d 1, b 1, u 2, d 1
abbrev pub worked_example : List Entry
worked_example =
    Calls (Attend true) ∷ Calls (Make 3 0 (a_row [])) ∷ Calls (Weaken 1 1 0 0) ∷ Calls (Weaken 1 1 0 0)
    ∷ Calls (Drop 1 enough) ∷ Calls (Upgrade 2) ∷ Calls (HandBack 1 enough) ∷ Calls (Drop 1 enough)
    ∷ Calls (HandBack 1 enough) ∷ Calls (Upgrade 2) ∷ Calls (Drop 1 enough) ∷ []

-- ok 0, ok 1, ok 2, ok 2, ok 0 t 1 del 1 3, ok 1, ok 0, ok 0 t 1 del 1 3, ok 0 f 1, ok 0, no 2 1
abbrev pub worked_example_answers : List Answer
worked_example_answers =
    ok 0 ∷ ok 1 ∷ ok 2 ∷ ok 2 ∷ ok_turn [] 1 (Del 1 3) ∷ ok 1 ∷ ok 0 ∷ ok_turn [] 1 (Del 1 3) ∷ ok_frees (1 ∷ [])
    ∷ ok 0 ∷ no NoSuch 1 ∷ []

-- ---- deaths in deaths

-- What a death gives up, an edge or a callback, dies in the middle of it and ends before it goes on:
-- a 1, m 3 0, m 3 0 1, m 4 0 2, d 3, b 1, h 2, h 3, h 1, b 1, b 1, m 2 0, m 3 0, h 5, w 5 4 5, d 5, d 4, d 6, b 2,
-- b 1, b 1
abbrev pub deaths_in_deaths : List Entry
deaths_in_deaths =
    Calls (Attend true) ∷ Calls (Make 3 0 (a_row [])) ∷ Calls (Make 3 0 (a_row (1 ∷ [])))
    ∷ Calls (Make 4 0 (a_row (2 ∷ []))) ∷ Calls (Drop 3 enough) ∷ Calls (HandBack 1 enough) ∷ Calls (Hold 2)
    ∷ Calls (Hold 3) ∷ Calls (Hold 1) ∷ Calls (HandBack 1 enough) ∷ Calls (HandBack 1 enough)
    ∷ Calls (Make 2 0 (a_row [])) ∷ Calls (Make 3 0 (a_row [])) ∷ Calls (Hold 5) ∷ Calls (Weaken 5 4 5 0)
    ∷ Calls (Drop 5 enough) ∷ Calls (Drop 4 enough) ∷ Calls (Drop 6 enough) ∷ Calls (HandBack 2 enough)
    ∷ Calls (HandBack 1 enough) ∷ Calls (HandBack 1 enough) ∷ []

-- ok 0, ok 1, ok 2, ok 3, ok 0 t 1 del 3 3, ok 0 t 1 del 2 3, ok 0, no 3 1, ok 0, ok 0 f 3, no 15 1, ok 4, ok 5,
-- ok 0, ok 6, ok 0, ok 0 t 1 call 5 6, ok 0, no 15 1, ok 0 t 1 del 5 3, ok 0 f 5 f 6 f 4
abbrev pub deaths_in_deaths_answers : List Answer
deaths_in_deaths_answers =
    ok 0 ∷ ok 1 ∷ ok 2 ∷ ok 3 ∷ ok_turn [] 1 (Del 3 3) ∷ ok_turn [] 1 (Del 2 3) ∷ ok 0 ∷ no Dying 1 ∷ ok 0
    ∷ ok_frees (3 ∷ []) ∷ no NotNewest 1 ∷ ok 4 ∷ ok 5 ∷ ok 0 ∷ ok 6 ∷ ok 0 ∷ ok_turn [] 1 (Callback 5 6) ∷ ok 0
    ∷ no NotNewest 1 ∷ ok_turn [] 1 (Del 5 3) ∷ ok_frees (5 ∷ 6 ∷ 4 ∷ []) ∷ []

-- ---- turns in turns

-- What is dropped in a turn dies in it, and turns are handed back newest first:
-- a 1, m 3 0, m 3 0, m 3 0, m 3 0, d 1, d 2, d 3, b 2, b 1, d 4, b 4, b 3, b 3, h 2, b 2, b 1, d 2, b 1, b 1
abbrev pub turns_in_turns : List Entry
turns_in_turns =
    Calls (Attend true) ∷ Calls (Make 3 0 (a_row [])) ∷ Calls (Make 3 0 (a_row [])) ∷ Calls (Make 3 0 (a_row []))
    ∷ Calls (Make 3 0 (a_row [])) ∷ Calls (Drop 1 enough) ∷ Calls (Drop 2 enough) ∷ Calls (Drop 3 enough)
    ∷ Calls (HandBack 2 enough) ∷ Calls (HandBack 1 enough) ∷ Calls (Drop 4 enough) ∷ Calls (HandBack 4 enough)
    ∷ Calls (HandBack 3 enough) ∷ Calls (HandBack 3 enough) ∷ Calls (Hold 2) ∷ Calls (HandBack 2 enough)
    ∷ Calls (HandBack 1 enough) ∷ Calls (Drop 2 enough) ∷ Calls (HandBack 1 enough) ∷ Calls (HandBack 1 enough) ∷ []

-- ok 0, ok 1, ok 2, ok 3, ok 4, ok 0 t 1 del 1 3, ok 0 t 2 del 2 3, ok 0 t 3 del 3 3, no 15 1, no 15 1,
-- ok 0 t 4 del 4 3, ok 0 f 4, ok 0 f 3, no 15 1, ok 0, ok 0, ok 0 f 1, ok 0 t 1 del 2 3, ok 0 f 2, no 15 1
abbrev pub turns_in_turns_answers : List Answer
turns_in_turns_answers =
    ok 0 ∷ ok 1 ∷ ok 2 ∷ ok 3 ∷ ok 4 ∷ ok_turn [] 1 (Del 1 3) ∷ ok_turn [] 2 (Del 2 3) ∷ ok_turn [] 3 (Del 3 3)
    ∷ no NotNewest 1 ∷ no NotNewest 1 ∷ ok_turn [] 4 (Del 4 3) ∷ ok_frees (4 ∷ []) ∷ ok_frees (3 ∷ [])
    ∷ no NotNewest 1 ∷ ok 0 ∷ ok 0 ∷ ok_frees (1 ∷ []) ∷ ok_turn [] 1 (Del 2 3) ∷ ok_frees (2 ∷ []) ∷ no NotNewest 1
    ∷ []

-- ---- del of an ancestor

-- A del turn names the class whose del it is:
-- a 1, m 4 0, d 1, b 1
abbrev pub del_of_an_ancestor : List Entry
del_of_an_ancestor =
    Calls (Attend true) ∷ Calls (Make 4 0 (a_row [])) ∷ Calls (Drop 1 enough) ∷ Calls (HandBack 1 enough) ∷ []

-- ok 0, ok 1, ok 0 t 1 del 1 3, ok 0 f 1
abbrev pub del_of_an_ancestor_answers : List Answer
del_of_an_ancestor_answers =
    ok 0 ∷ ok 1 ∷ ok_turn [] 1 (Del 1 3) ∷ ok_frees (1 ∷ []) ∷ []

-- ---- del set and taken

-- The del that a class has itself goes before an ancestor's; set or taken away, it counts from the next death on;
-- weak references may have one:
-- a 1, m 4 0, m 10 0, m 11 0, e 4 1, d 1, e 4 0, e 3 0, b 1, d 2, e 2 1, d 3, b 1, e 2 0, m 2 0, v 7 4 0 0,
-- v 7 4 0 0, m 2 0, s 5 0 7, d 5, h 5, b 1, l 4, d 5, e 7 0, d 5, d 4, d 6, u 6
abbrev pub del_set_and_taken : List Entry
del_set_and_taken =
    Calls (Attend true) ∷ Calls (Make 4 0 (a_row [])) ∷ Calls (Make 10 0 (a_row [])) ∷ Calls (Make 11 0 (a_row []))
    ∷ Calls (SetDel 4 true) ∷ Calls (Drop 1 enough) ∷ Calls (SetDel 4 false) ∷ Calls (SetDel 3 false)
    ∷ Calls (HandBack 1 enough) ∷ Calls (Drop 2 enough) ∷ Calls (SetDel 2 true) ∷ Calls (Drop 3 enough)
    ∷ Calls (HandBack 1 enough) ∷ Calls (SetDel 2 false) ∷ Calls (Make 2 0 (a_row [])) ∷ Calls (Weaken 7 4 0 0)
    ∷ Calls (Weaken 7 4 0 0) ∷ Calls (Make 2 0 (a_row [])) ∷ Calls (Store 5 0 7) ∷ Calls (Drop 5 enough)
    ∷ Calls (Hold 5) ∷ Calls (HandBack 1 enough) ∷ Calls (ListWeak 4 enough) ∷ Calls (Drop 5 enough)
    ∷ Calls (SetDel 7 false) ∷ Calls (Drop 5 enough) ∷ Calls (Drop 4 enough) ∷ Calls (Drop 6 enough)
    ∷ Calls (Upgrade 6) ∷ []

-- ok 0, ok 1, ok 2, ok 3, ok 0, ok 0 t 1 del 1 4, ok 0, ok 0, ok 0 f 1, ok 0 f 2, ok 0, ok 0 t 1 del 3 2, ok 0 f 3,
-- ok 0, ok 4, ok 5, ok 6, ok 7, ok 0, ok 0 t 1 del 5 7, ok 0, ok 0, ok 2 r 6 r 5, ok 0, ok 0, ok 0 f 7 f 5,
-- ok 0 f 4, ok 0, ok 0
abbrev pub del_set_and_taken_answers : List Answer
del_set_and_taken_answers =
    ok 0 ∷ ok 1 ∷ ok 2 ∷ ok 3 ∷ ok 0 ∷ ok_turn [] 1 (Del 1 4) ∷ ok 0 ∷ ok 0 ∷ ok_frees (1 ∷ []) ∷ ok_frees (2 ∷ [])
    ∷ ok 0 ∷ ok_turn [] 1 (Del 3 2) ∷ ok_frees (3 ∷ []) ∷ ok 0 ∷ ok 4 ∷ ok 5 ∷ ok 6 ∷ ok 7 ∷ ok 0
    ∷ ok_turn [] 1 (Del 5 7) ∷ ok 0 ∷ ok 0 ∷ ok_lists 2 (6 ∷ 5 ∷ []) ∷ ok 0 ∷ ok 0 ∷ ok_frees (7 ∷ 5 ∷ [])
    ∷ ok_frees (4 ∷ []) ∷ ok 0 ∷ ok 0 ∷ []

-- ---- kept in a slot

-- A del keeps its object by storing it in a slot of another, and has a turn again when that is emptied:
-- a 1, m 2 0, m 3 0, d 2, h 2, s 1 0 2, b 1, q 2, s 1 0 0, d 2, b 1, m 3 0, d 3, h 3, s 1 1 3, b 1, d 1, b 1
abbrev pub kept_in_a_slot : List Entry
kept_in_a_slot =
    Calls (Attend true) ∷ Calls (Make 2 0 (a_row [])) ∷ Calls (Make 3 0 (a_row [])) ∷ Calls (Drop 2 enough)
    ∷ Calls (Hold 2) ∷ Calls (Store 1 0 2) ∷ Calls (HandBack 1 enough) ∷ Asks (StrongCount 2) ∷ Calls (Store 1 0 0)
    ∷ Calls (Drop 2 enough) ∷ Calls (HandBack 1 enough) ∷ Calls (Make 3 0 (a_row [])) ∷ Calls (Drop 3 enough)
    ∷ Calls (Hold 3) ∷ Calls (Store 1 1 3) ∷ Calls (HandBack 1 enough) ∷ Calls (Drop 1 enough)
    ∷ Calls (HandBack 1 enough) ∷ []

-- ok 0, ok 1, ok 2, ok 0 t 1 del 2 3, ok 0, ok 0, ok 0, ok 1, ok 2, ok 0 t 1 del 2 3, ok 0 f 2, ok 3,
-- ok 0 t 1 del 3 3, ok 0, ok 0, ok 0, ok 0 t 1 del 3 3, ok 0 f 3 f 1
abbrev pub kept_in_a_slot_answers : List Answer
kept_in_a_slot_answers =
    ok 0 ∷ ok 1 ∷ ok 2 ∷ ok_turn [] 1 (Del 2 3) ∷ ok 0 ∷ ok 0 ∷ ok 0 ∷ tells 1 ∷ ok 2 ∷ ok_turn [] 1 (Del 2 3)
    ∷ ok_frees (2 ∷ []) ∷ ok 3 ∷ ok_turn [] 1 (Del 3 3) ∷ ok 0 ∷ ok 0 ∷ ok 0 ∷ ok_turn [] 1 (Del 3 3)
    ∷ ok_frees (3 ∷ 1 ∷ []) ∷ []

-- ---- order of frees

-- Dictionary, slots in order, edges in order: so are they traced and given up, and the object is freed last:
-- m 2 0, m 2 0, m 2 0, m 2 0, m 2 1 2 3, s 5 1 4, m 2 0, s 5 0 6, t 5, d 5
abbrev pub order_of_frees : List Entry
order_of_frees =
    Calls (Make 2 0 (a_row [])) ∷ Calls (Make 2 0 (a_row [])) ∷ Calls (Make 2 0 (a_row []))
    ∷ Calls (Make 2 0 (a_row [])) ∷ Calls (Make 2 1 (a_row (2 ∷ 3 ∷ []))) ∷ Calls (Store 5 1 4)
    ∷ Calls (Make 2 0 (a_row [])) ∷ Calls (Store 5 0 6) ∷ Traces 5 enough ∷ Calls (Drop 5 enough) ∷ []

-- ok 1, ok 2, ok 3, ok 4, ok 5, ok 0, ok 6, ok 0, ok 5 r 1 r 6 r 4 r 2 r 3, ok 0 f 1 f 6 f 4 f 2 f 3 f 5
abbrev pub order_of_frees_answers : List Answer
order_of_frees_answers =
    ok 1 ∷ ok 2 ∷ ok 3 ∷ ok 4 ∷ ok 5 ∷ ok 0 ∷ ok 6 ∷ ok 0 ∷ visits (1 ∷ 6 ∷ 4 ∷ 2 ∷ 3 ∷ [])
    ∷ ok_frees (1 ∷ 6 ∷ 4 ∷ 2 ∷ 3 ∷ 5 ∷ []) ∷ []

-- ---- payloads

-- Notes, cells and rows: what a swap answers, what a trace visits, what a death gives up:
-- m 2 0, m 2 0, n 2 0 7, c 3 1 2, t 4, x 4 0 3, t 4, m 2 0 4 0 2, t 5, x 5 1 0, x 5 2 0, d 2, d 5
abbrev pub payloads : List Entry
payloads =
    Calls (Make 2 0 (a_row [])) ∷ Calls (Make 2 0 (a_row [])) ∷ Calls (Make 2 0 a_note) ∷ Calls (Make 3 1 (a_cell 2))
    ∷ Traces 4 enough ∷ Calls (Swap 4 0 3) ∷ Traces 4 enough ∷ Calls (Make 2 0 (a_row (4 ∷ 0 ∷ 2 ∷ [])))
    ∷ Traces 5 enough ∷ Calls (Swap 5 1 0) ∷ Calls (Swap 5 2 0) ∷ Calls (Drop 2 enough) ∷ Calls (Drop 5 enough) ∷ []

-- ok 1, ok 2, ok 3, ok 4, ok 1 r 1, ok 2, ok 1 r 1, ok 5, ok 2 r 4 r 2, ok 0, ok 2, ok 0 f 2, ok 0 f 1 f 3 f 4 f 5
abbrev pub payloads_answers : List Answer
payloads_answers =
    ok 1 ∷ ok 2 ∷ ok 3 ∷ ok 4 ∷ visits (1 ∷ []) ∷ ok 2 ∷ visits (1 ∷ []) ∷ ok 5 ∷ visits (4 ∷ 2 ∷ []) ∷ ok 0 ∷ ok 2
    ∷ ok_frees (2 ∷ []) ∷ ok_frees (1 ∷ 3 ∷ 4 ∷ 5 ∷ []) ∷ []

-- ---- dictionaries

-- The old dictionary is given up when another is set, and the new one with its object:
-- a 1, m 3 0, m 2 1, t 2, m 3 0, y 2 3, b 1, t 2, h 3, y 2 3, q 3, d 2, b 1
abbrev pub dictionaries : List Entry
dictionaries =
    Calls (Attend true) ∷ Calls (Make 3 0 (a_row [])) ∷ Calls (Make 2 1 (a_row [])) ∷ Traces 2 enough
    ∷ Calls (Make 3 0 (a_row [])) ∷ Calls (SetDictionary 2 3 enough) ∷ Calls (HandBack 1 enough) ∷ Traces 2 enough
    ∷ Calls (Hold 3) ∷ Calls (SetDictionary 2 3 enough) ∷ Asks (StrongCount 3) ∷ Calls (Drop 2 enough)
    ∷ Calls (HandBack 1 enough) ∷ []

-- ok 0, ok 1, ok 2, ok 1 r 1, ok 3, ok 0 t 1 del 1 3, ok 0 f 1, ok 1 r 3, ok 0, ok 0, ok 1, ok 0 t 1 del 3 3,
-- ok 0 f 3 f 2
abbrev pub dictionaries_answers : List Answer
dictionaries_answers =
    ok 0 ∷ ok 1 ∷ ok 2 ∷ visits (1 ∷ []) ∷ ok 3 ∷ ok_turn [] 1 (Del 1 3) ∷ ok_frees (1 ∷ []) ∷ visits (3 ∷ []) ∷ ok 0
    ∷ ok 0 ∷ tells 1 ∷ ok_turn [] 1 (Del 3 3) ∷ ok_frees (3 ∷ 2 ∷ []) ∷ []

-- ---- cached reference

-- The cached reference is answered again, also where only its mark keeps it; a list has the newest first:
-- m 2 0, w 1 1 0, d 2, w 1 1 0, i 3, d 3, w 1 1 0, d 3, m 2 0, h 4, w 1 1 4, w 5 1 0, w 1 1 0, l 1, k 1, d 1, u 3
abbrev pub cached_reference : List Entry
cached_reference =
    Calls (Make 2 0 (a_row [])) ∷ Calls (Weaken 1 1 0 0) ∷ Calls (Drop 2 enough) ∷ Calls (Weaken 1 1 0 0)
    ∷ Calls (Intern 3) ∷ Calls (Drop 3 enough) ∷ Calls (Weaken 1 1 0 0) ∷ Calls (Drop 3 enough)
    ∷ Calls (Make 2 0 (a_row [])) ∷ Calls (Hold 4) ∷ Calls (Weaken 1 1 4 0) ∷ Calls (Weaken 5 1 0 0)
    ∷ Calls (Weaken 1 1 0 0) ∷ Calls (ListWeak 1 enough) ∷ Asks (WeakCount 1) ∷ Calls (Drop 1 enough)
    ∷ Calls (Upgrade 3) ∷ []

-- ok 1, ok 2, ok 0 f 2, ok 3, ok 0, ok 0, ok 3, ok 0, ok 4, ok 0, ok 5, ok 6, ok 3, ok 3 r 6 r 5 r 3, ok 3,
-- ok 0 f 1, ok 0
abbrev pub cached_reference_answers : List Answer
cached_reference_answers =
    ok 1 ∷ ok 2 ∷ ok_frees (2 ∷ []) ∷ ok 3 ∷ ok 0 ∷ ok 0 ∷ ok 3 ∷ ok 0 ∷ ok 4 ∷ ok 0 ∷ ok 5 ∷ ok 6 ∷ ok 3
    ∷ ok_lists 3 (6 ∷ 5 ∷ 3 ∷ []) ∷ tells 3 ∷ ok_frees (1 ∷ []) ∷ ok 0 ∷ []

-- ---- cached reference dying

-- A cached reference that is dying is not answered again, nor listed, but still counted:
-- a 1, m 2 0, w 1 1 0, m 2 0, h 3, w 5 2 3, d 2, w 1 1 0, h 2, w 1 1 0, l 1, k 1, b 1, l 1, w 1 1 0, d 1, u 5
abbrev pub cached_reference_dying : List Entry
cached_reference_dying =
    Calls (Attend true) ∷ Calls (Make 2 0 (a_row [])) ∷ Calls (Weaken 1 1 0 0) ∷ Calls (Make 2 0 (a_row []))
    ∷ Calls (Hold 3) ∷ Calls (Weaken 5 2 3 0) ∷ Calls (Drop 2 enough) ∷ Calls (Weaken 1 1 0 0) ∷ Calls (Hold 2)
    ∷ Calls (Weaken 1 1 0 0) ∷ Calls (ListWeak 1 enough) ∷ Asks (WeakCount 1) ∷ Calls (HandBack 1 enough)
    ∷ Calls (ListWeak 1 enough) ∷ Calls (Weaken 1 1 0 0) ∷ Calls (Drop 1 enough) ∷ Calls (Upgrade 5) ∷ []

-- ok 0, ok 1, ok 2, ok 3, ok 0, ok 4, ok 0 t 1 call 3 4, ok 5, no 3 1, ok 5, ok 1 r 5, ok 2, ok 0 f 2, ok 1 r 5,
-- ok 5, ok 0 f 1, ok 0
abbrev pub cached_reference_dying_answers : List Answer
cached_reference_dying_answers =
    ok 0 ∷ ok 1 ∷ ok 2 ∷ ok 3 ∷ ok 0 ∷ ok 4 ∷ ok_turn [] 1 (Callback 3 4) ∷ ok 5 ∷ no Dying 1 ∷ ok 5
    ∷ ok_lists 1 (5 ∷ []) ∷ tells 2 ∷ ok_frees (2 ∷ []) ∷ ok_lists 1 (5 ∷ []) ∷ ok 5 ∷ ok_frees (1 ∷ []) ∷ ok 0 ∷ []

-- ---- class 1 cached class 5 not

-- Only class 1 without a callback answers one reference again and again:
-- m 2 0, w 5 1 0, w 5 1 0, w 1 1 0, w 1 1 0, m 2 0, h 5, w 1 1 5, h 5, w 1 1 5, w 1 1 0
abbrev pub class_1_cached_class_5_not : List Entry
class_1_cached_class_5_not =
    Calls (Make 2 0 (a_row [])) ∷ Calls (Weaken 5 1 0 0) ∷ Calls (Weaken 5 1 0 0) ∷ Calls (Weaken 1 1 0 0)
    ∷ Calls (Weaken 1 1 0 0) ∷ Calls (Make 2 0 (a_row [])) ∷ Calls (Hold 5) ∷ Calls (Weaken 1 1 5 0) ∷ Calls (Hold 5)
    ∷ Calls (Weaken 1 1 5 0) ∷ Calls (Weaken 1 1 0 0) ∷ []

-- ok 1, ok 2, ok 3, ok 4, ok 4, ok 5, ok 0, ok 6, ok 0, ok 7, ok 4
abbrev pub class_1_cached_class_5_not_answers : List Answer
class_1_cached_class_5_not_answers =
    ok 1 ∷ ok 2 ∷ ok 3 ∷ ok 4 ∷ ok 4 ∷ ok 5 ∷ ok 0 ∷ ok 6 ∷ ok 0 ∷ ok 7 ∷ ok 4 ∷ []

-- ---- callback goes last

-- A callback is given up last in the death of its reference, and behind the argument when its turn ends:
-- a 1, m 2 0, m 3 0, w 5 1 2, d 3, b 1, m 3 0, w 5 1 4, d 1, d 5, b 1, b 1
abbrev pub callback_goes_last : List Entry
callback_goes_last =
    Calls (Attend true) ∷ Calls (Make 2 0 (a_row [])) ∷ Calls (Make 3 0 (a_row [])) ∷ Calls (Weaken 5 1 2 0)
    ∷ Calls (Drop 3 enough) ∷ Calls (HandBack 1 enough) ∷ Calls (Make 3 0 (a_row [])) ∷ Calls (Weaken 5 1 4 0)
    ∷ Calls (Drop 1 enough) ∷ Calls (Drop 5 enough) ∷ Calls (HandBack 1 enough) ∷ Calls (HandBack 1 enough) ∷ []

-- ok 0, ok 1, ok 2, ok 3, ok 0 t 1 del 2 3, ok 0 f 2 f 3, ok 4, ok 5, ok 0 t 1 call 4 5, ok 0, ok 0 t 1 del 4 3,
-- ok 0 f 4 f 5 f 1
abbrev pub callback_goes_last_answers : List Answer
callback_goes_last_answers =
    ok 0 ∷ ok 1 ∷ ok 2 ∷ ok 3 ∷ ok_turn [] 1 (Del 2 3) ∷ ok_frees (2 ∷ 3 ∷ []) ∷ ok 4 ∷ ok 5
    ∷ ok_turn [] 1 (Callback 4 5) ∷ ok 0 ∷ ok_turn [] 1 (Del 4 3) ∷ ok_frees (4 ∷ 5 ∷ 1 ∷ []) ∷ []

-- ---- callback is the referent

-- An object that is the callback of a reference to itself lives while the reference keeps it:
-- a 1, m 3 0, w 1 1 1, d 2, b 1, m 3 0, h 3, w 5 3 3, d 3, u 4, d 3, d 4, b 1
abbrev pub callback_is_the_referent : List Entry
callback_is_the_referent =
    Calls (Attend true) ∷ Calls (Make 3 0 (a_row [])) ∷ Calls (Weaken 1 1 1 0) ∷ Calls (Drop 2 enough)
    ∷ Calls (HandBack 1 enough) ∷ Calls (Make 3 0 (a_row [])) ∷ Calls (Hold 3) ∷ Calls (Weaken 5 3 3 0)
    ∷ Calls (Drop 3 enough) ∷ Calls (Upgrade 4) ∷ Calls (Drop 3 enough) ∷ Calls (Drop 4 enough)
    ∷ Calls (HandBack 1 enough) ∷ []

-- ok 0, ok 1, ok 2, ok 0 t 1 del 1 3, ok 0 f 1 f 2, ok 3, ok 0, ok 4, ok 0, ok 3, ok 0, ok 0 t 1 del 3 3,
-- ok 0 f 3 f 4
abbrev pub callback_is_the_referent_answers : List Answer
callback_is_the_referent_answers =
    ok 0 ∷ ok 1 ∷ ok 2 ∷ ok_turn [] 1 (Del 1 3) ∷ ok_frees (1 ∷ 2 ∷ []) ∷ ok 3 ∷ ok 0 ∷ ok 4 ∷ ok 0 ∷ ok 3 ∷ ok 0
    ∷ ok_turn [] 1 (Del 3 3) ∷ ok_frees (3 ∷ 4 ∷ []) ∷ []

-- ---- references dropped in a round

-- A reference that is dropped while its round is under way has its turn, and is freed after it:
-- a 1, m 2 0, m 2 0, h 2, w 5 1 2, h 2, w 5 1 2, h 2, w 5 1 2, d 1, d 4, d 3, d 5, b 1, b 1, b 1
abbrev pub references_dropped_in_a_round : List Entry
references_dropped_in_a_round =
    Calls (Attend true) ∷ Calls (Make 2 0 (a_row [])) ∷ Calls (Make 2 0 (a_row [])) ∷ Calls (Hold 2)
    ∷ Calls (Weaken 5 1 2 0) ∷ Calls (Hold 2) ∷ Calls (Weaken 5 1 2 0) ∷ Calls (Hold 2) ∷ Calls (Weaken 5 1 2 0)
    ∷ Calls (Drop 1 enough) ∷ Calls (Drop 4 enough) ∷ Calls (Drop 3 enough) ∷ Calls (Drop 5 enough)
    ∷ Calls (HandBack 1 enough) ∷ Calls (HandBack 1 enough) ∷ Calls (HandBack 1 enough) ∷ []

-- ok 0, ok 1, ok 2, ok 0, ok 3, ok 0, ok 4, ok 0, ok 5, ok 0 t 1 call 2 5, ok 0, ok 0, ok 0, ok 0 f 5 t 1 call 2 4,
-- ok 0 f 4 t 1 call 2 3, ok 0 f 3 f 1
abbrev pub references_dropped_in_a_round_answers : List Answer
references_dropped_in_a_round_answers =
    ok 0 ∷ ok 1 ∷ ok 2 ∷ ok 0 ∷ ok 3 ∷ ok 0 ∷ ok 4 ∷ ok 0 ∷ ok 5 ∷ ok_turn [] 1 (Callback 2 5) ∷ ok 0 ∷ ok 0 ∷ ok 0
    ∷ ok_turn (5 ∷ []) 1 (Callback 2 4) ∷ ok_turn (4 ∷ []) 1 (Callback 2 3) ∷ ok_frees (3 ∷ 1 ∷ []) ∷ []

-- ---- rounds of sixteen

-- A round holds sixteen references at most, and each asks anew which are still kept:
-- a 1, m 2 0, m 2 0, h 2, w 5 1 2, h 2, w 5 1 2, h 2, w 5 1 2, h 2, w 5 1 2, h 2, w 5 1 2, h 2, w 5 1 2, h 2,
-- w 5 1 2, h 2, w 5 1 2, h 2, w 5 1 2, h 2, w 5 1 2, h 2, w 5 1 2, h 2, w 5 1 2, h 2, w 5 1 2, h 2, w 5 1 2, h 2,
-- w 5 1 2, h 2, w 5 1 2, h 2, w 5 1 2, h 2, w 5 1 2, h 2, w 5 1 2, h 2, w 5 1 2, h 2, w 5 1 2, h 2, w 5 1 2, h 2,
-- w 5 1 2, h 2, w 5 1 2, h 2, w 5 1 2, h 2, w 5 1 2, h 2, w 5 1 2, h 2, w 5 1 2, h 2, w 5 1 2, h 2, w 5 1 2, h 2,
-- w 5 1 2, h 2, w 5 1 2, h 2, w 5 1 2, d 1, d 19, d 3, d 20, h 5, i 4, d 4, b 1, b 1, b 1, b 1, b 1, b 1, b 1, b 1,
-- b 1, b 1, b 1, b 1, b 1, b 1, b 1, b 1, b 1, b 1, b 1, b 1, b 1, b 1, b 1, b 1, b 1, b 1, b 1, b 1, b 1, b 1, b 1,
-- b 1, b 1, b 1, h 4, u 4
abbrev pub rounds_of_sixteen : List Entry
rounds_of_sixteen =
    Calls (Attend true) ∷ Calls (Make 2 0 (a_row [])) ∷ Calls (Make 2 0 (a_row [])) ∷ Calls (Hold 2)
    ∷ Calls (Weaken 5 1 2 0) ∷ Calls (Hold 2) ∷ Calls (Weaken 5 1 2 0) ∷ Calls (Hold 2) ∷ Calls (Weaken 5 1 2 0)
    ∷ Calls (Hold 2) ∷ Calls (Weaken 5 1 2 0) ∷ Calls (Hold 2) ∷ Calls (Weaken 5 1 2 0) ∷ Calls (Hold 2)
    ∷ Calls (Weaken 5 1 2 0) ∷ Calls (Hold 2) ∷ Calls (Weaken 5 1 2 0) ∷ Calls (Hold 2) ∷ Calls (Weaken 5 1 2 0)
    ∷ Calls (Hold 2) ∷ Calls (Weaken 5 1 2 0) ∷ Calls (Hold 2) ∷ Calls (Weaken 5 1 2 0) ∷ Calls (Hold 2)
    ∷ Calls (Weaken 5 1 2 0) ∷ Calls (Hold 2) ∷ Calls (Weaken 5 1 2 0) ∷ Calls (Hold 2) ∷ Calls (Weaken 5 1 2 0)
    ∷ Calls (Hold 2) ∷ Calls (Weaken 5 1 2 0) ∷ Calls (Hold 2) ∷ Calls (Weaken 5 1 2 0) ∷ Calls (Hold 2)
    ∷ Calls (Weaken 5 1 2 0) ∷ Calls (Hold 2) ∷ Calls (Weaken 5 1 2 0) ∷ Calls (Hold 2) ∷ Calls (Weaken 5 1 2 0)
    ∷ Calls (Hold 2) ∷ Calls (Weaken 5 1 2 0) ∷ Calls (Hold 2) ∷ Calls (Weaken 5 1 2 0) ∷ Calls (Hold 2)
    ∷ Calls (Weaken 5 1 2 0) ∷ Calls (Hold 2) ∷ Calls (Weaken 5 1 2 0) ∷ Calls (Hold 2) ∷ Calls (Weaken 5 1 2 0)
    ∷ Calls (Hold 2) ∷ Calls (Weaken 5 1 2 0) ∷ Calls (Hold 2) ∷ Calls (Weaken 5 1 2 0) ∷ Calls (Hold 2)
    ∷ Calls (Weaken 5 1 2 0) ∷ Calls (Hold 2) ∷ Calls (Weaken 5 1 2 0) ∷ Calls (Hold 2) ∷ Calls (Weaken 5 1 2 0)
    ∷ Calls (Hold 2) ∷ Calls (Weaken 5 1 2 0) ∷ Calls (Hold 2) ∷ Calls (Weaken 5 1 2 0) ∷ Calls (Hold 2)
    ∷ Calls (Weaken 5 1 2 0) ∷ Calls (Hold 2) ∷ Calls (Weaken 5 1 2 0) ∷ Calls (Hold 2) ∷ Calls (Weaken 5 1 2 0)
    ∷ Calls (Drop 1 enough) ∷ Calls (Drop 19 enough) ∷ Calls (Drop 3 enough) ∷ Calls (Drop 20 enough) ∷ Calls (Hold 5)
    ∷ Calls (Intern 4) ∷ Calls (Drop 4 enough) ∷ Calls (HandBack 1 enough) ∷ Calls (HandBack 1 enough)
    ∷ Calls (HandBack 1 enough) ∷ Calls (HandBack 1 enough) ∷ Calls (HandBack 1 enough) ∷ Calls (HandBack 1 enough)
    ∷ Calls (HandBack 1 enough) ∷ Calls (HandBack 1 enough) ∷ Calls (HandBack 1 enough) ∷ Calls (HandBack 1 enough)
    ∷ Calls (HandBack 1 enough) ∷ Calls (HandBack 1 enough) ∷ Calls (HandBack 1 enough) ∷ Calls (HandBack 1 enough)
    ∷ Calls (HandBack 1 enough) ∷ Calls (HandBack 1 enough) ∷ Calls (HandBack 1 enough) ∷ Calls (HandBack 1 enough)
    ∷ Calls (HandBack 1 enough) ∷ Calls (HandBack 1 enough) ∷ Calls (HandBack 1 enough) ∷ Calls (HandBack 1 enough)
    ∷ Calls (HandBack 1 enough) ∷ Calls (HandBack 1 enough) ∷ Calls (HandBack 1 enough) ∷ Calls (HandBack 1 enough)
    ∷ Calls (HandBack 1 enough) ∷ Calls (HandBack 1 enough) ∷ Calls (HandBack 1 enough) ∷ Calls (HandBack 1 enough)
    ∷ Calls (HandBack 1 enough) ∷ Calls (HandBack 1 enough) ∷ Calls (HandBack 1 enough) ∷ Calls (HandBack 1 enough)
    ∷ Calls (Hold 4) ∷ Calls (Upgrade 4) ∷ []

-- ok 0, ok 1, ok 2, ok 0, ok 3, ok 0, ok 4, ok 0, ok 5, ok 0, ok 6, ok 0, ok 7, ok 0, ok 8, ok 0, ok 9, ok 0, ok 10,
-- ok 0, ok 11, ok 0, ok 12, ok 0, ok 13, ok 0, ok 14, ok 0, ok 15, ok 0, ok 16, ok 0, ok 17, ok 0, ok 18, ok 0,
-- ok 19, ok 0, ok 20, ok 0, ok 21, ok 0, ok 22, ok 0, ok 23, ok 0, ok 24, ok 0, ok 25, ok 0, ok 26, ok 0, ok 27,
-- ok 0, ok 28, ok 0, ok 29, ok 0, ok 30, ok 0, ok 31, ok 0, ok 32, ok 0, ok 33, ok 0, ok 34, ok 0, ok 35,
-- ok 0 t 1 call 2 35, ok 0 f 19, ok 0 f 3, ok 0, ok 0, ok 0, ok 0, ok 0 t 1 call 2 34, ok 0 t 1 call 2 33,
-- ok 0 t 1 call 2 32, ok 0 t 1 call 2 31, ok 0 t 1 call 2 30, ok 0 t 1 call 2 29, ok 0 t 1 call 2 28,
-- ok 0 t 1 call 2 27, ok 0 t 1 call 2 26, ok 0 t 1 call 2 25, ok 0 t 1 call 2 24, ok 0 t 1 call 2 23,
-- ok 0 t 1 call 2 22, ok 0 t 1 call 2 21, ok 0 t 1 call 2 20, ok 0 f 20 t 1 call 2 18, ok 0 t 1 call 2 17,
-- ok 0 t 1 call 2 16, ok 0 t 1 call 2 15, ok 0 t 1 call 2 14, ok 0 t 1 call 2 13, ok 0 t 1 call 2 12,
-- ok 0 t 1 call 2 11, ok 0 t 1 call 2 10, ok 0 t 1 call 2 9, ok 0 t 1 call 2 8, ok 0 t 1 call 2 7,
-- ok 0 t 1 call 2 6, ok 0 t 1 call 2 5, ok 0 t 1 call 2 4, ok 0 f 1, no 15 1, no 15 1, no 15 1, ok 0, ok 0
abbrev pub rounds_of_sixteen_answers : List Answer
rounds_of_sixteen_answers =
    ok 0 ∷ ok 1 ∷ ok 2 ∷ ok 0 ∷ ok 3 ∷ ok 0 ∷ ok 4 ∷ ok 0 ∷ ok 5 ∷ ok 0 ∷ ok 6 ∷ ok 0 ∷ ok 7 ∷ ok 0 ∷ ok 8 ∷ ok 0
    ∷ ok 9 ∷ ok 0 ∷ ok 10 ∷ ok 0 ∷ ok 11 ∷ ok 0 ∷ ok 12 ∷ ok 0 ∷ ok 13 ∷ ok 0 ∷ ok 14 ∷ ok 0 ∷ ok 15 ∷ ok 0 ∷ ok 16
    ∷ ok 0 ∷ ok 17 ∷ ok 0 ∷ ok 18 ∷ ok 0 ∷ ok 19 ∷ ok 0 ∷ ok 20 ∷ ok 0 ∷ ok 21 ∷ ok 0 ∷ ok 22 ∷ ok 0 ∷ ok 23 ∷ ok 0
    ∷ ok 24 ∷ ok 0 ∷ ok 25 ∷ ok 0 ∷ ok 26 ∷ ok 0 ∷ ok 27 ∷ ok 0 ∷ ok 28 ∷ ok 0 ∷ ok 29 ∷ ok 0 ∷ ok 30 ∷ ok 0 ∷ ok 31
    ∷ ok 0 ∷ ok 32 ∷ ok 0 ∷ ok 33 ∷ ok 0 ∷ ok 34 ∷ ok 0 ∷ ok 35 ∷ ok_turn [] 1 (Callback 2 35) ∷ ok_frees (19 ∷ [])
    ∷ ok_frees (3 ∷ []) ∷ ok 0 ∷ ok 0 ∷ ok 0 ∷ ok 0 ∷ ok_turn [] 1 (Callback 2 34) ∷ ok_turn [] 1 (Callback 2 33)
    ∷ ok_turn [] 1 (Callback 2 32) ∷ ok_turn [] 1 (Callback 2 31) ∷ ok_turn [] 1 (Callback 2 30)
    ∷ ok_turn [] 1 (Callback 2 29) ∷ ok_turn [] 1 (Callback 2 28) ∷ ok_turn [] 1 (Callback 2 27)
    ∷ ok_turn [] 1 (Callback 2 26) ∷ ok_turn [] 1 (Callback 2 25) ∷ ok_turn [] 1 (Callback 2 24)
    ∷ ok_turn [] 1 (Callback 2 23) ∷ ok_turn [] 1 (Callback 2 22) ∷ ok_turn [] 1 (Callback 2 21)
    ∷ ok_turn [] 1 (Callback 2 20) ∷ ok_turn (20 ∷ []) 1 (Callback 2 18) ∷ ok_turn [] 1 (Callback 2 17)
    ∷ ok_turn [] 1 (Callback 2 16) ∷ ok_turn [] 1 (Callback 2 15) ∷ ok_turn [] 1 (Callback 2 14)
    ∷ ok_turn [] 1 (Callback 2 13) ∷ ok_turn [] 1 (Callback 2 12) ∷ ok_turn [] 1 (Callback 2 11)
    ∷ ok_turn [] 1 (Callback 2 10) ∷ ok_turn [] 1 (Callback 2 9) ∷ ok_turn [] 1 (Callback 2 8)
    ∷ ok_turn [] 1 (Callback 2 7) ∷ ok_turn [] 1 (Callback 2 6) ∷ ok_turn [] 1 (Callback 2 5)
    ∷ ok_turn [] 1 (Callback 2 4) ∷ ok_frees (1 ∷ []) ∷ no NotNewest 1 ∷ no NotNewest 1 ∷ no NotNewest 1 ∷ ok 0 ∷ ok 0
    ∷ []

-- ---- no host

-- Without a host no turn opens, and an open one can be handed back:
-- m 3 0, m 2 0, w 5 1 2, d 1, u 3, a 1, m 3 0, m 2 0, w 5 4 5, a 0, d 4, a 7, m 3 0, m 2 0, w 5 7 8, d 7, a 0, b 1,
-- a 1, m 2 0, m 2 0, h 11, w 5 10 11, w 5 10 11, d 10, a 0, b 1
abbrev pub no_host : List Entry
no_host =
    Calls (Make 3 0 (a_row [])) ∷ Calls (Make 2 0 (a_row [])) ∷ Calls (Weaken 5 1 2 0) ∷ Calls (Drop 1 enough)
    ∷ Calls (Upgrade 3) ∷ Calls (Attend true) ∷ Calls (Make 3 0 (a_row [])) ∷ Calls (Make 2 0 (a_row []))
    ∷ Calls (Weaken 5 4 5 0) ∷ Calls (Attend false) ∷ Calls (Drop 4 enough) ∷ Calls (Attend true)
    ∷ Calls (Make 3 0 (a_row [])) ∷ Calls (Make 2 0 (a_row [])) ∷ Calls (Weaken 5 7 8 0) ∷ Calls (Drop 7 enough)
    ∷ Calls (Attend false) ∷ Calls (HandBack 1 enough) ∷ Calls (Attend true) ∷ Calls (Make 2 0 (a_row []))
    ∷ Calls (Make 2 0 (a_row [])) ∷ Calls (Hold 11) ∷ Calls (Weaken 5 10 11 0) ∷ Calls (Weaken 5 10 11 0)
    ∷ Calls (Drop 10 enough) ∷ Calls (Attend false) ∷ Calls (HandBack 1 enough) ∷ []

-- ok 1, ok 2, ok 3, ok 0 f 2 f 1, ok 0, ok 0, ok 4, ok 5, ok 6, ok 0, ok 0 f 5 f 4, ok 0, ok 7, ok 8, ok 9,
-- ok 0 t 1 del 7 3, ok 0, ok 0 f 8 f 7, ok 0, ok 10, ok 11, ok 0, ok 12, ok 13, ok 0 t 1 call 11 13, ok 0,
-- ok 0 f 11 f 10
abbrev pub no_host_answers : List Answer
no_host_answers =
    ok 1 ∷ ok 2 ∷ ok 3 ∷ ok_frees (2 ∷ 1 ∷ []) ∷ ok 0 ∷ ok 0 ∷ ok 4 ∷ ok 5 ∷ ok 6 ∷ ok 0 ∷ ok_frees (5 ∷ 4 ∷ [])
    ∷ ok 0 ∷ ok 7 ∷ ok 8 ∷ ok 9 ∷ ok_turn [] 1 (Del 7 3) ∷ ok 0 ∷ ok_frees (8 ∷ 7 ∷ []) ∷ ok 0 ∷ ok 10 ∷ ok 11 ∷ ok 0
    ∷ ok 12 ∷ ok 13 ∷ ok_turn [] 1 (Callback 11 13) ∷ ok 0 ∷ ok_frees (11 ∷ 10 ∷ []) ∷ []

-- ---- marks

-- A mark keeps an object or a reference that nothing else keeps, and a round holds such a reference too:
-- a 1, m 3 0, i 1, i 1, d 1, d 1, h 1, d 1, w 5 1 0, i 2, d 2, u 2, u 2, d 1, d 1, m 2 0, m 2 0, w 5 3 4, i 5, d 5,
-- d 3, u 5, b 1, u 5, h 5, d 5
abbrev pub marks : List Entry
marks =
    Calls (Attend true) ∷ Calls (Make 3 0 (a_row [])) ∷ Calls (Intern 1) ∷ Calls (Intern 1) ∷ Calls (Drop 1 enough)
    ∷ Calls (Drop 1 enough) ∷ Calls (Hold 1) ∷ Calls (Drop 1 enough) ∷ Calls (Weaken 5 1 0 0) ∷ Calls (Intern 2)
    ∷ Calls (Drop 2 enough) ∷ Calls (Upgrade 2) ∷ Calls (Upgrade 2) ∷ Calls (Drop 1 enough) ∷ Calls (Drop 1 enough)
    ∷ Calls (Make 2 0 (a_row [])) ∷ Calls (Make 2 0 (a_row [])) ∷ Calls (Weaken 5 3 4 0) ∷ Calls (Intern 5)
    ∷ Calls (Drop 5 enough) ∷ Calls (Drop 3 enough) ∷ Calls (Upgrade 5) ∷ Calls (HandBack 1 enough)
    ∷ Calls (Upgrade 5) ∷ Calls (Hold 5) ∷ Calls (Drop 5 enough) ∷ []

-- ok 0, ok 1, ok 0, no 11 1, ok 0, no 4 1, ok 0, ok 0, ok 2, ok 0, ok 0, ok 1, ok 1, ok 0, ok 0, ok 3, ok 4, ok 5,
-- ok 0, ok 0, ok 0 t 1 call 4 5, ok 0, ok 0 f 4 f 3, ok 0, ok 0, ok 0
abbrev pub marks_answers : List Answer
marks_answers =
    ok 0 ∷ ok 1 ∷ ok 0 ∷ no Marked 1 ∷ ok 0 ∷ no NotYours 1 ∷ ok 0 ∷ ok 0 ∷ ok 2 ∷ ok 0 ∷ ok 0 ∷ ok 1 ∷ ok 1 ∷ ok 0
    ∷ ok 0 ∷ ok 3 ∷ ok 4 ∷ ok 5 ∷ ok 0 ∷ ok 0 ∷ ok_turn [] 1 (Callback 4 5) ∷ ok 0 ∷ ok_frees (4 ∷ 3 ∷ []) ∷ ok 0
    ∷ ok 0 ∷ ok 0 ∷ []

-- ---- dying cannot be named

-- An object cannot be named from the beginning of its clearing on:
-- a 1, m 2 0, m 2 0, w 5 1 2, d 1, h 1, d 1, u 1, i 1, w 1 1 0, m 2 1, m 2 0 1, u 3, b 1, h 1
abbrev pub dying_cannot_be_named : List Entry
dying_cannot_be_named =
    Calls (Attend true) ∷ Calls (Make 2 0 (a_row [])) ∷ Calls (Make 2 0 (a_row [])) ∷ Calls (Weaken 5 1 2 0)
    ∷ Calls (Drop 1 enough) ∷ Calls (Hold 1) ∷ Calls (Drop 1 enough) ∷ Calls (Upgrade 1) ∷ Calls (Intern 1)
    ∷ Calls (Weaken 1 1 0 0) ∷ Calls (Make 2 1 (a_row [])) ∷ Calls (Make 2 0 (a_row (1 ∷ []))) ∷ Calls (Upgrade 3)
    ∷ Calls (HandBack 1 enough) ∷ Calls (Hold 1) ∷ []

-- ok 0, ok 1, ok 2, ok 3, ok 0 t 1 call 2 3, no 3 1, no 3 1, no 3 1, no 3 1, no 3 2, no 3 2, no 3 3, ok 0,
-- ok 0 f 2 f 1, no 2 1
abbrev pub dying_cannot_be_named_answers : List Answer
dying_cannot_be_named_answers =
    ok 0 ∷ ok 1 ∷ ok 2 ∷ ok 3 ∷ ok_turn [] 1 (Callback 2 3) ∷ no Dying 1 ∷ no Dying 1 ∷ no Dying 1 ∷ no Dying 1
    ∷ no Dying 2 ∷ no Dying 2 ∷ no Dying 3 ∷ ok 0 ∷ ok_frees (2 ∷ 1 ∷ []) ∷ no NoSuch 1 ∷ []

-- ---- handles counted from the left

-- Handles are counted from the left, and the first argument for which none is left is to blame:
-- m 2 0, d 1, m 2 0, m 2 0 2 0 2, h 2, m 2 2 0 2 2, m 9 2 2 2, m 2 2 2, d 2, w 1 2 2, w 9 2 2
abbrev pub handles_counted_from_the_left : List Entry
handles_counted_from_the_left =
    Calls (Make 2 0 (a_row [])) ∷ Calls (Drop 1 enough) ∷ Calls (Make 2 0 (a_row []))
    ∷ Calls (Make 2 0 (a_row (2 ∷ 0 ∷ 2 ∷ []))) ∷ Calls (Hold 2) ∷ Calls (Make 2 2 (a_row (0 ∷ 2 ∷ 2 ∷ [])))
    ∷ Calls (Make 9 2 (a_row (2 ∷ 2 ∷ []))) ∷ Calls (Make 2 2 (a_row (2 ∷ []))) ∷ Calls (Drop 2 enough)
    ∷ Calls (Weaken 1 2 2 0) ∷ Calls (Weaken 9 2 2 0) ∷ []

-- ok 1, ok 0 f 1, ok 2, no 4 5, ok 0, no 4 5, no 4 4, ok 3, no 4 1, no 4 3, no 4 3
abbrev pub handles_counted_from_the_left_answers : List Answer
handles_counted_from_the_left_answers =
    ok 1 ∷ ok_frees (1 ∷ []) ∷ ok 2 ∷ no NotYours 5 ∷ ok 0 ∷ no NotYours 5 ∷ no NotYours 4 ∷ ok 3 ∷ no NotYours 1
    ∷ no NotYours 3 ∷ no NotYours 3 ∷ []

-- ---- no such place

-- Slots, edges and dictionaries that an object or a class does not have:
-- m 2 0, s 1 2 0, s 1 4294967295 0, x 1 0 0, y 1 1, y 1 0, m 2 0 0 1, x 2 1 0, x 2 2 1, m 2 1, y 3 2, y 3 0,
-- w 6 3 0, v 6 3 0 0, h 3, v 5 3 0 3, v 1 3 0 3, v 6 3 0 3, x 4 0 0, s 4 0 0, m 2 0, y 4 5, n 2 0 9, x 6 0 0,
-- c 2 0 6, x 7 0 0, x 7 1 0
abbrev pub no_such_place : List Entry
no_such_place =
    Calls (Make 2 0 (a_row [])) ∷ Calls (Store 1 2 0) ∷ Calls (Store 1 4294967295 0) ∷ Calls (Swap 1 0 0)
    ∷ Calls (SetDictionary 1 1 enough) ∷ Calls (SetDictionary 1 0 enough) ∷ Calls (Make 2 0 (a_row (0 ∷ 1 ∷ [])))
    ∷ Calls (Swap 2 1 0) ∷ Calls (Swap 2 2 1) ∷ Calls (Make 2 1 (a_row [])) ∷ Calls (SetDictionary 3 2 enough)
    ∷ Calls (SetDictionary 3 0 enough) ∷ Calls (Weaken 6 3 0 0) ∷ Calls (Weaken 6 3 0 0) ∷ Calls (Hold 3)
    ∷ Calls (Weaken 5 3 0 3) ∷ Calls (Weaken 1 3 0 3) ∷ Calls (Weaken 6 3 0 3) ∷ Calls (Swap 4 0 0)
    ∷ Calls (Store 4 0 0) ∷ Calls (Make 2 0 (a_row [])) ∷ Calls (SetDictionary 4 5 enough) ∷ Calls (Make 2 0 a_note)
    ∷ Calls (Swap 6 0 0) ∷ Calls (Make 2 0 (a_cell 6)) ∷ Calls (Swap 7 0 0) ∷ Calls (Swap 7 1 0) ∷ []

-- ok 1, no 9 2, no 9 2, no 9 2, no 9 1, no 2 2, ok 2, ok 1, no 9 2, ok 3, ok 0 f 1, no 2 2, no 9 4, no 9 4, ok 0,
-- no 9 4, no 9 4, ok 4, no 9 2, no 9 2, ok 5, ok 0, ok 6, no 9 2, ok 7, ok 6, no 9 2
abbrev pub no_such_place_answers : List Answer
no_such_place_answers =
    ok 1 ∷ no NoPlace 2 ∷ no NoPlace 2 ∷ no NoPlace 2 ∷ no NoPlace 1 ∷ no NoSuch 2 ∷ ok 2 ∷ ok 1 ∷ no NoPlace 2 ∷ ok 3
    ∷ ok_frees (1 ∷ []) ∷ no NoSuch 2 ∷ no NoPlace 4 ∷ no NoPlace 4 ∷ ok 0 ∷ no NoPlace 4 ∷ no NoPlace 4 ∷ ok 4
    ∷ no NoPlace 2 ∷ no NoPlace 2 ∷ ok 5 ∷ ok 0 ∷ ok 6 ∷ no NoPlace 2 ∷ ok 7 ∷ ok 6 ∷ no NoPlace 2 ∷ []

-- ---- no room while dying

-- A dying object still has its place: a core of three is full until the free:
-- a 1, m 3 0, m 2 0, w 5 1 2, d 1, m 2 0, b 1, m 2 0, b 1, m 2 0, m 2 0
abbrev pub no_room_while_dying : List Entry
no_room_while_dying =
    Calls (Attend true) ∷ Calls (Make 3 0 (a_row [])) ∷ Calls (Make 2 0 (a_row [])) ∷ Calls (Weaken 5 1 2 0)
    ∷ Calls (Drop 1 enough) ∷ Calls (Make 2 0 (a_row [])) ∷ Calls (HandBack 1 enough) ∷ Calls (Make 2 0 (a_row []))
    ∷ Calls (HandBack 1 enough) ∷ Calls (Make 2 0 (a_row [])) ∷ Calls (Make 2 0 (a_row [])) ∷ []

-- ok 0, ok 1, ok 2, ok 3, ok 0 t 1 del 1 3, no 13 0, ok 0 t 1 call 2 3, no 13 0, ok 0 f 2 f 1, ok 4, ok 5
abbrev pub no_room_while_dying_answers : List Answer
no_room_while_dying_answers =
    ok 0 ∷ ok 1 ∷ ok 2 ∷ ok 3 ∷ ok_turn [] 1 (Del 1 3) ∷ no NoRoom 0 ∷ ok_turn [] 1 (Callback 2 3) ∷ no NoRoom 0
    ∷ ok_frees (2 ∷ 1 ∷ []) ∷ ok 4 ∷ ok 5 ∷ []

-- ---- too many places

-- A core of 4,097 places is not opened, and no line is answered:
-- a 1, m 2 0

-- no 1 0
abbrev pub too_many_places_refusal : Option Fault
too_many_places_refusal = Some (record { refusal = BadTable; argument = 0 })
