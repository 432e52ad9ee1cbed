-- What the core is set to is what calls set, and what an object is made as stays.
use Rattle.std.specs.Prelude.{◌≡◌, ℕ, Bool, false, cond, not, ◌&&◌, ◌⊎◌, List, ◌==◌}
use Rattle.classes.specs.Rows.{Class, class_at, after_set_del}
use Rattle.definition.specs.State.{Absent, Shape, State, is_unfreed}
use Rattle.definition.specs.Calls.{Call, Make, Hold, Drop, Store, Swap, SetDictionary, Weaken, Upgrade, ListWeak, Intern, Attend, SetDel, HandBack, Reply, slot_count}
use Rattle.law.specs.Run.{What, Accepted, Refused, Small}

-- whether a host attends once an accepted call has set it, where one attended or not before
abbrev pub attends_by : Call → Bool → Bool
attends_by (Make class dictionary payload) before = before
attends_by (Hold o) before = before
attends_by (Drop o lent) before = before
attends_by (Store o slot content) before = before
attends_by (Swap o edge content) before = before
attends_by (SetDictionary o dictionary lent) before = before
attends_by (Weaken class o callback dictionary) before = before
attends_by (Upgrade w) before = before
attends_by (ListWeak o lent) before = before
attends_by (Intern o) before = before
attends_by (Attend host) before = host
attends_by (SetDel class del) before = before
attends_by (HandBack turn lent) before = before

-- the class rows once an accepted call has set them
abbrev pub classes_by : Call → List Class → List Class
classes_by (Make class dictionary payload) rows = rows
classes_by (Hold o) rows = rows
classes_by (Drop o lent) rows = rows
classes_by (Store o slot content) rows = rows
classes_by (Swap o edge content) rows = rows
classes_by (SetDictionary o dictionary lent) rows = rows
classes_by (Weaken class o callback dictionary) rows = rows
classes_by (Upgrade w) rows = rows
classes_by (ListWeak o lent) rows = rows
classes_by (Intern o) rows = rows
classes_by (Attend host) rows = rows
classes_by (SetDel class del) rows = after_set_del rows class del
classes_by (HandBack turn lent) rows = rows

-- a call makes the object that it answers as v, unless that stands already; what any other was made as stays
abbrev pub made_as : ℕ → Shape → State → ℕ → Shape
made_as answered v s p = cond (p == answered && not (is_unfreed (s.phase p))) v (s.shape p)

-- what an object is made as, once an accepted call has made what it makes: of its class, with the slots of that class, a make's with
-- its payload's kind and traced or not, and no referent, a weaken's with kind 1, not traced, and the object weakened as its referent
abbrev pub shape_by : Call → Reply → State → ℕ → Shape
shape_by (Make class dictionary payload) r s p = made_as r.number (record { class = class; kind = payload.kind; traced = payload.traced; slots = slot_count (class_at s.classes class); referent = 0 }) s p
shape_by (Hold o) r s p = s.shape p
shape_by (Drop o lent) r s p = s.shape p
shape_by (Store o slot content) r s p = s.shape p
shape_by (Swap o edge content) r s p = s.shape p
shape_by (SetDictionary o dictionary lent) r s p = s.shape p
shape_by (Weaken class o callback dictionary) r s p = made_as r.number (record { class = class; kind = 1; traced = false; slots = slot_count (class_at s.classes class); referent = o }) s p
shape_by (Upgrade w) r s p = s.shape p
shape_by (ListWeak o lent) r s p = s.shape p
shape_by (Intern o) r s p = s.shape p
shape_by (Attend host) r s p = s.shape p
shape_by (SetDel class del) r s p = s.shape p
shape_by (HandBack turn lent) r s p = s.shape p

-- How many places the core has stays. Whether a host attends, the class rows and what objects are made as is what accepted calls
-- set; a refused call and a small step set nothing, but a small step may free an object
abbrev pub Set : What → State → State → Type 0
Set (Accepted c r) s t = (t.capacity ≡ s.capacity) × (t.attends ≡ attends_by c s.attends) × (t.classes ≡ classes_by c s.classes) × ((p : ℕ) → t.shape p ≡ shape_by c r s p)
Set (Refused c fault) s t = (t.capacity ≡ s.capacity) × (t.attends ≡ s.attends) × (t.classes ≡ s.classes) × ((p : ℕ) → t.shape p ≡ s.shape p)
Set Small s t = (t.capacity ≡ s.capacity) × (t.attends ≡ s.attends) × (t.classes ≡ s.classes) × ((p : ℕ) → (t.shape p ≡ s.shape p) ⊎ (t.phase p ≡ Absent))
