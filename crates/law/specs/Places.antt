-- The places of objects that can name another.
use Rattle.std.specs.Prelude.{◌≡◌, ℕ, suc, ◌+◌, Bool, true, false, cond, not, ◌&&◌, ◌⊎◌, List, [], ◌==◌, nat_lt, slice_index}
use Rattle.definition.specs.State.{State, is_unfreed}
use Rattle.definition.specs.Calls.{Call, Make, Hold, Drop, Store, Swap, SetDictionary, Weaken, Upgrade, ListWeak, Intern, Attend, SetDel, HandBack, Reply}
use Rattle.law.specs.Run.{What, Accepted, Refused, Small}
use Rattle.law.specs.Events.{Cleared, Emptying}

pub data Place : Type 0 where
  Dictionary : Place
  Slot Edge : ℕ → Place
  Callback : Place

-- what a place of p names
abbrev pub names : State → ℕ → Place → ℕ
names s p Dictionary = slice_index (s.places p) 0
names s p (Slot i) = cond (nat_lt i (s.shape p).slots) (slice_index (s.places p) (suc i)) 0
names s p (Edge j) = slice_index (s.places p) (suc ((s.shape p).slots + j))
names s p Callback = s.callback p

abbrev pub same_place : Place → Place → Bool
same_place Dictionary Dictionary = true
same_place Dictionary (Slot i) = false
same_place Dictionary (Edge j) = false
same_place Dictionary Callback = false
same_place (Slot i) Dictionary = false
same_place (Slot i) (Slot k) = i == k
same_place (Slot i) (Edge j) = false
same_place (Slot i) Callback = false
same_place (Edge j) Dictionary = false
same_place (Edge j) (Slot i) = false
same_place (Edge j) (Edge k) = j == k
same_place (Edge j) Callback = false
same_place Callback Dictionary = false
same_place Callback (Slot i) = false
same_place Callback (Edge j) = false
same_place Callback Callback = true

-- what a new object's places name: its dictionary, its edges and its callback
abbrev pub new_names : ℕ → List ℕ → ℕ → Place → ℕ
new_names dictionary edges callback Dictionary = dictionary
new_names dictionary edges callback (Slot i) = 0
new_names dictionary edges callback (Edge j) = slice_index edges j
new_names dictionary edges callback Callback = callback

-- a call puts v into one place
abbrev pub into : ℕ → Place → ℕ → State → ℕ → Place → ℕ
into o place v s p q = cond (p == o && same_place q place) v (names s p q)

-- a call makes the object that it answers, unless that stands already
abbrev pub making : ℕ → ℕ → List ℕ → ℕ → State → ℕ → Place → ℕ
making answered dictionary edges callback s p q = cond (p == answered && not (is_unfreed (s.phase p))) (new_names dictionary edges callback q) (names s p q)

-- what a place names once an accepted call has put there what it puts
abbrev pub put_by : Call → Reply → State → ℕ → Place → ℕ
put_by (Make class dictionary payload) r s p q = making r.number dictionary payload.edges 0 s p q
put_by (Hold o) r s p q = names s p q
put_by (Drop o lent) r s p q = names s p q
put_by (Store o slot content) r s p q = into o (Slot slot) content s p q
put_by (Swap o edge content) r s p q = into o (Edge edge) content s p q
put_by (SetDictionary o dictionary lent) r s p q = into o Dictionary dictionary s p q
put_by (Weaken class o callback dictionary) r s p q = making r.number dictionary [] callback s p q
put_by (Upgrade w) r s p q = names s p q
put_by (ListWeak o lent) r s p q = names s p q
put_by (Intern o) r s p q = names s p q
put_by (Attend host) r s p q = names s p q
put_by (SetDel class del) r s p q = names s p q
put_by (HandBack turn lent) r s p q = names s p q

-- a death empties a place of its own object, after its rounds, or the callback place of a reference to it
abbrev pub Emptied : State → ℕ → Place → Type 0
Emptied s p Dictionary = Emptying s p
Emptied s p (Slot i) = Emptying s p
Emptied s p (Edge j) = Emptying s p
Emptied s p Callback = Emptying s p ⊎ Cleared s (s.shape p).referent

-- a place names what an accepted call last put there, until a death empties it
abbrev pub Named : What → State → State → Type 0
Named (Accepted c r) s t = (p : ℕ) (q : Place) → names t p q ≡ put_by c r s p q
Named (Refused c fault) s t = (p : ℕ) (q : Place) → names t p q ≡ names s p q
Named Small s t = (p : ℕ) (q : Place) → (names t p q ≡ names s p q) ⊎ ((names t p q ≡ 0) × Emptied s p q)
