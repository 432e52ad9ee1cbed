-- What calls and their answers alone tell, counted over a run.
use Rattle.std.specs.Prelude.{ℕ, ◌+◌, Bool, false, ◌&&◌, List, [], ◌∷◌, Some, None, Ok, Err, Option, Result, ◌==◌}
use Rattle.refusal.specs.declared.Fault.{Fault}
use Rattle.definition.specs.Base.{bit, count}
use Rattle.definition.specs.Calls.{Call, Make, Hold, Drop, Store, Swap, SetDictionary, Weaken, Upgrade, ListWeak, Intern, Attend, SetDel, HandBack, Turn, Reply}
use Rattle.law.specs.Run.{Exchange}
use Rattle.law.specs.Settings.{attends_by}

-- ---- what an accepted call does to handles: of which objects it gives one, and of which it takes one over

pub record Handles : Type 0 where
  pub given : List ℕ
  pub taken : List ℕ

abbrev pub gives : List ℕ → Handles
gives l = record { given = l; taken = [] }

abbrev pub takes : List ℕ → Handles
takes l = record { given = []; taken = l }

abbrev pub trades : List ℕ → List ℕ → Handles
trades l m = record { given = l; taken = m }

-- names that are 0 are none
abbrev pub handles_by : Call → Reply → Handles
handles_by (Make class dictionary payload) r = trades (r.number ∷ []) (dictionary ∷ payload.edges)
handles_by (Hold o) r = gives (o ∷ [])
handles_by (Drop o lent) r = takes (o ∷ [])
handles_by (Store o slot content) r = trades (r.number ∷ []) (content ∷ [])
handles_by (Swap o edge content) r = trades (r.number ∷ []) (content ∷ [])
handles_by (SetDictionary o dictionary lent) r = takes (dictionary ∷ [])
handles_by (Weaken class o callback dictionary) r = trades (r.number ∷ []) (callback ∷ dictionary ∷ [])
handles_by (Upgrade w) r = gives (r.number ∷ [])
handles_by (ListWeak o lent) r = gives r.listed
handles_by (Intern o) r = gives []
handles_by (Attend host) r = gives []
handles_by (SetDel class del) r = gives []
handles_by (HandBack turn lent) r = gives []

-- ---- what else is counted

pub data Kind : Type 0 where
  Makes Weakens : Kind
  Interns : ℕ → Kind
  HandsBack Other : Kind

abbrev pub kind_of : Call → Kind
kind_of (Make class dictionary payload) = Makes
kind_of (Hold o) = Other
kind_of (Drop o lent) = Other
kind_of (Store o slot content) = Other
kind_of (Swap o edge content) = Other
kind_of (SetDictionary o dictionary lent) = Other
kind_of (Weaken class o callback dictionary) = Weakens
kind_of (Upgrade w) = Other
kind_of (ListWeak o lent) = Other
kind_of (Intern o) = Interns o
kind_of (Attend host) = Other
kind_of (SetDel class del) = Other
kind_of (HandBack turn lent) = HandsBack

-- an object is made by a make that answers it, and by the weaken that answers it first
abbrev pub made_by : Kind → ℕ → ℕ → ℕ → ℕ
made_by Makes number o before = bit (number == o)
made_by Weakens number o before = bit (number == o && before == 0)
made_by (Interns x) number o before = 0
made_by HandsBack number o before = 0
made_by Other number o before = 0

abbrev pub interned_by : Kind → ℕ → ℕ
interned_by Makes o = 0
interned_by Weakens o = 0
interned_by (Interns x) o = bit (x == o)
interned_by HandsBack o = 0
interned_by Other o = 0

abbrev pub handed_back_by : Kind → ℕ
handed_back_by Makes = 0
handed_back_by Weakens = 0
handed_back_by (Interns x) = 0
handed_back_by HandsBack = 1
handed_back_by Other = 0

abbrev pub shown_by : Option Turn → ℕ
shown_by None = 0
shown_by (Some t) = 1

-- ---- counted over the accepted calls of a run

-- what each call adds, which may depend on what is counted before it
abbrev pub adding : (ℕ → Call → Reply → ℕ) → ℕ → Call → Result Reply Fault → ℕ
adding f before c (Ok r) = f before c r + before
adding f before c (Err fault) = before

unfoldable pub tally : (ℕ → Call → Reply → ℕ) → List Exchange → ℕ
tally f [] = 0
tally f (e ∷ es) = adding f (tally f es) e.call e.answer

abbrev pub makes : ℕ → List Exchange → ℕ
makes o es = tally (λ before c r. made_by (kind_of c) r.number o before) es

-- frees: how often o is listed as freed
abbrev pub frees : ℕ → List Exchange → ℕ
frees o es = tally (λ before c r. count o r.freed) es

abbrev pub handles_given : ℕ → List Exchange → ℕ
handles_given o es = tally (λ before c r. count o (handles_by c r).given) es

abbrev pub handles_taken : ℕ → List Exchange → ℕ
handles_taken o es = tally (λ before c r. count o (handles_by c r).taken) es

abbrev pub interns : ℕ → List Exchange → ℕ
interns o es = tally (λ before c r. interned_by (kind_of c) o) es

abbrev pub turns_shown : List Exchange → ℕ
turns_shown es = tally (λ before c r. shown_by r.turn) es

abbrev pub hand_backs : List Exchange → ℕ
hand_backs es = tally (λ before c r. handed_back_by (kind_of c)) es

-- ---- the host

-- whether a host attends after a call, where one attended or not before; a refused call changes nothing
abbrev pub attending_after : Call → Result Reply Fault → Bool → Bool
attending_after c (Ok r) before = attends_by c before
attending_after c (Err fault) before = before

-- a host attends if the last accepted attend said so; none does before the first
unfoldable pub attending : List Exchange → Bool
attending [] = false
attending (e ∷ es) = attending_after e.call e.answer (attending es)
