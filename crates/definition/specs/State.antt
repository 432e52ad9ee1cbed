-- The state of a core: what each object has, as functions of its birth, and the deaths under way as a stack.
use Rattle.std.specs.Prelude.{ℕ, Bool, true, false, List}
use Rattle.classes.specs.Rows.{Class}

-- Where an object stands between its making and its free:
-- Absent, no unfreed object has the birth; Resting, not dying; DelOpen, its del turn is open, for the class found;
-- Taking, its clearing has begun and a round takes references off its list; Draining, the round's references lose
-- their callbacks; Calling, a callback turn is open, for a callback and a reference; Freeing, the places before
-- this one are emptied; Leaving, all of them are.
pub data Phase : Type 0 where
  Absent Resting : Phase
  DelOpen : ℕ → Phase
  Taking Draining : Phase
  Calling : ℕ → ℕ → Phase
  Freeing : ℕ → Phase
  Leaving : Phase

-- what stays as it was made: the class, the kind, whether the payload is traced, how many slots there are,
-- and the referent of a weak reference (0 of anything else)
pub record Shape : Type 0 where
  pub class : ℕ
  pub kind : ℕ
  pub traced : Bool
  pub slots : ℕ
  pub referent : ℕ

abbrev pub no_shape : Shape
no_shape = record { class = 0; kind = 0; traced = false; slots = 0; referent = 0 }

-- Of each object: `places` are its dictionary, its slots and its payload's edges, in this order; `weak` are the
-- weak references to it, newest first; `held` is what the round of its death still holds, and `giving` what its
-- death gives up next, both in order. Of the core: the next birth, how many places it has, how many objects are
-- unfreed, how many turns are open, the dying objects, newest first, whether a host attends, and the class rows.
pub record State : Type 0 where
  pub phase : ℕ → Phase
  pub shape : ℕ → Shape
  pub places : ℕ → List ℕ
  pub callback : ℕ → ℕ
  pub weak : ℕ → List ℕ
  pub cached : ℕ → ℕ
  pub strong : ℕ → ℕ
  pub handles : ℕ → ℕ
  pub interned : ℕ → Bool
  pub held : ℕ → List ℕ
  pub giving : ℕ → List ℕ
  pub next : ℕ
  pub capacity : ℕ
  pub unfreed : ℕ
  pub turns : ℕ
  pub stack : List ℕ
  pub attends : Bool
  pub classes : List Class

-- ---- what a phase tells

abbrev pub is_unfreed : Phase → Bool
is_unfreed Absent = false
is_unfreed Resting = true
is_unfreed (DelOpen c) = true
is_unfreed Taking = true
is_unfreed Draining = true
is_unfreed (Calling c w) = true
is_unfreed (Freeing k) = true
is_unfreed Leaving = true

-- live: until its clearing begins
abbrev pub is_live : Phase → Bool
is_live Absent = false
is_live Resting = true
is_live (DelOpen c) = true
is_live Taking = false
is_live Draining = false
is_live (Calling c w) = false
is_live (Freeing k) = false
is_live Leaving = false

abbrev pub is_resting : Phase → Bool
is_resting Absent = false
is_resting Resting = true
is_resting (DelOpen c) = false
is_resting Taking = false
is_resting Draining = false
is_resting (Calling c w) = false
is_resting (Freeing k) = false
is_resting Leaving = false

-- a turn is open, and the death waits for its hand back
abbrev pub is_open : Phase → Bool
is_open Absent = false
is_open Resting = false
is_open (DelOpen c) = true
is_open Taking = false
is_open Draining = false
is_open (Calling c w) = true
is_open (Freeing k) = false
is_open Leaving = false
