-- A state with one thing changed.
use Rattle.std.specs.Prelude.{ℕ, suc, ◌-◌, Bool, false, List, []}
use Rattle.classes.specs.Rows.{Class}
use Rattle.definition.specs.Base.{put}
use Rattle.definition.specs.State.{Phase, Absent, Resting, Shape, no_shape, State}

-- ---- of one object

abbrev pub with_phase : ℕ → Phase → State → State
with_phase o v s = record { phase = put s.phase o v; shape = s.shape; places = s.places; callback = s.callback; weak = s.weak; cached = s.cached; strong = s.strong; handles = s.handles; interned = s.interned; held = s.held; giving = s.giving; next = s.next; capacity = s.capacity; unfreed = s.unfreed; turns = s.turns; stack = s.stack; attends = s.attends; classes = s.classes }

abbrev pub with_places : ℕ → List ℕ → State → State
with_places o v s = record { phase = s.phase; shape = s.shape; places = put s.places o v; callback = s.callback; weak = s.weak; cached = s.cached; strong = s.strong; handles = s.handles; interned = s.interned; held = s.held; giving = s.giving; next = s.next; capacity = s.capacity; unfreed = s.unfreed; turns = s.turns; stack = s.stack; attends = s.attends; classes = s.classes }

abbrev pub with_callback : ℕ → ℕ → State → State
with_callback o v s = record { phase = s.phase; shape = s.shape; places = s.places; callback = put s.callback o v; weak = s.weak; cached = s.cached; strong = s.strong; handles = s.handles; interned = s.interned; held = s.held; giving = s.giving; next = s.next; capacity = s.capacity; unfreed = s.unfreed; turns = s.turns; stack = s.stack; attends = s.attends; classes = s.classes }

abbrev pub with_weak : ℕ → List ℕ → State → State
with_weak o v s = record { phase = s.phase; shape = s.shape; places = s.places; callback = s.callback; weak = put s.weak o v; cached = s.cached; strong = s.strong; handles = s.handles; interned = s.interned; held = s.held; giving = s.giving; next = s.next; capacity = s.capacity; unfreed = s.unfreed; turns = s.turns; stack = s.stack; attends = s.attends; classes = s.classes }

abbrev pub with_cached : ℕ → ℕ → State → State
with_cached o v s = record { phase = s.phase; shape = s.shape; places = s.places; callback = s.callback; weak = s.weak; cached = put s.cached o v; strong = s.strong; handles = s.handles; interned = s.interned; held = s.held; giving = s.giving; next = s.next; capacity = s.capacity; unfreed = s.unfreed; turns = s.turns; stack = s.stack; attends = s.attends; classes = s.classes }

abbrev pub with_strong : ℕ → ℕ → State → State
with_strong o v s = record { phase = s.phase; shape = s.shape; places = s.places; callback = s.callback; weak = s.weak; cached = s.cached; strong = put s.strong o v; handles = s.handles; interned = s.interned; held = s.held; giving = s.giving; next = s.next; capacity = s.capacity; unfreed = s.unfreed; turns = s.turns; stack = s.stack; attends = s.attends; classes = s.classes }

abbrev pub with_handles : ℕ → ℕ → State → State
with_handles o v s = record { phase = s.phase; shape = s.shape; places = s.places; callback = s.callback; weak = s.weak; cached = s.cached; strong = s.strong; handles = put s.handles o v; interned = s.interned; held = s.held; giving = s.giving; next = s.next; capacity = s.capacity; unfreed = s.unfreed; turns = s.turns; stack = s.stack; attends = s.attends; classes = s.classes }

abbrev pub with_interned : ℕ → Bool → State → State
with_interned o v s = record { phase = s.phase; shape = s.shape; places = s.places; callback = s.callback; weak = s.weak; cached = s.cached; strong = s.strong; handles = s.handles; interned = put s.interned o v; held = s.held; giving = s.giving; next = s.next; capacity = s.capacity; unfreed = s.unfreed; turns = s.turns; stack = s.stack; attends = s.attends; classes = s.classes }

abbrev pub with_held : ℕ → List ℕ → State → State
with_held o v s = record { phase = s.phase; shape = s.shape; places = s.places; callback = s.callback; weak = s.weak; cached = s.cached; strong = s.strong; handles = s.handles; interned = s.interned; held = put s.held o v; giving = s.giving; next = s.next; capacity = s.capacity; unfreed = s.unfreed; turns = s.turns; stack = s.stack; attends = s.attends; classes = s.classes }

abbrev pub with_giving : ℕ → List ℕ → State → State
with_giving o v s = record { phase = s.phase; shape = s.shape; places = s.places; callback = s.callback; weak = s.weak; cached = s.cached; strong = s.strong; handles = s.handles; interned = s.interned; held = s.held; giving = put s.giving o v; next = s.next; capacity = s.capacity; unfreed = s.unfreed; turns = s.turns; stack = s.stack; attends = s.attends; classes = s.classes }

-- ---- of every object

abbrev pub with_all_handles : (ℕ → ℕ) → State → State
with_all_handles f s = record { phase = s.phase; shape = s.shape; places = s.places; callback = s.callback; weak = s.weak; cached = s.cached; strong = s.strong; handles = f; interned = s.interned; held = s.held; giving = s.giving; next = s.next; capacity = s.capacity; unfreed = s.unfreed; turns = s.turns; stack = s.stack; attends = s.attends; classes = s.classes }

-- ---- of the core

abbrev pub with_unfreed : ℕ → State → State
with_unfreed v s = record { phase = s.phase; shape = s.shape; places = s.places; callback = s.callback; weak = s.weak; cached = s.cached; strong = s.strong; handles = s.handles; interned = s.interned; held = s.held; giving = s.giving; next = s.next; capacity = s.capacity; unfreed = v; turns = s.turns; stack = s.stack; attends = s.attends; classes = s.classes }

abbrev pub with_turns : ℕ → State → State
with_turns v s = record { phase = s.phase; shape = s.shape; places = s.places; callback = s.callback; weak = s.weak; cached = s.cached; strong = s.strong; handles = s.handles; interned = s.interned; held = s.held; giving = s.giving; next = s.next; capacity = s.capacity; unfreed = s.unfreed; turns = v; stack = s.stack; attends = s.attends; classes = s.classes }

abbrev pub with_stack : List ℕ → State → State
with_stack v s = record { phase = s.phase; shape = s.shape; places = s.places; callback = s.callback; weak = s.weak; cached = s.cached; strong = s.strong; handles = s.handles; interned = s.interned; held = s.held; giving = s.giving; next = s.next; capacity = s.capacity; unfreed = s.unfreed; turns = s.turns; stack = v; attends = s.attends; classes = s.classes }

abbrev pub with_attends : Bool → State → State
with_attends v s = record { phase = s.phase; shape = s.shape; places = s.places; callback = s.callback; weak = s.weak; cached = s.cached; strong = s.strong; handles = s.handles; interned = s.interned; held = s.held; giving = s.giving; next = s.next; capacity = s.capacity; unfreed = s.unfreed; turns = s.turns; stack = s.stack; attends = v; classes = s.classes }

abbrev pub with_classes : List Class → State → State
with_classes v s = record { phase = s.phase; shape = s.shape; places = s.places; callback = s.callback; weak = s.weak; cached = s.cached; strong = s.strong; handles = s.handles; interned = s.interned; held = s.held; giving = s.giving; next = s.next; capacity = s.capacity; unfreed = s.unfreed; turns = s.turns; stack = s.stack; attends = s.attends; classes = v }

-- ---- a birth, and a free

-- a new object, at rest, with one reference, which is the host's handle
abbrev pub born : Shape → List ℕ → ℕ → State → State
born shape places callback s = let o = s.next in record { phase = put s.phase o Resting; shape = put s.shape o shape; places = put s.places o places; callback = put s.callback o callback; weak = s.weak; cached = s.cached; strong = put s.strong o 1; handles = put s.handles o 1; interned = s.interned; held = s.held; giving = s.giving; next = suc s.next; capacity = s.capacity; unfreed = suc s.unfreed; turns = s.turns; stack = s.stack; attends = s.attends; classes = s.classes }

-- nothing is left of an object
abbrev pub erased : ℕ → State → State
erased o s = record { phase = put s.phase o Absent; shape = put s.shape o no_shape; places = put s.places o []; callback = put s.callback o 0; weak = put s.weak o []; cached = put s.cached o 0; strong = put s.strong o 0; handles = put s.handles o 0; interned = put s.interned o false; held = put s.held o []; giving = put s.giving o []; next = s.next; capacity = s.capacity; unfreed = s.unfreed - 1; turns = s.turns; stack = s.stack; attends = s.attends; classes = s.classes }
