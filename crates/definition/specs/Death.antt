-- How references are given up and objects die, one small step at a time.
use Rattle.std.specs.Prelude.{ℕ, zero, suc, ◌+◌, ◌-◌, ◌*◌, min, Bool, true, cond, not, ◌&&◌, List, [], ◌∷◌, ◌++◌, length, ◌==◌, nat_le, nat_lt, slice_index, slice_set}
use Rattle.classes.specs.Rows.{find_del}
use Rattle.definition.specs.Base.{without, sum_to}
use Rattle.definition.specs.State.{Phase, Absent, Resting, DelOpen, Taking, Draining, Calling, Freeing, Leaving, State, is_resting, is_open}
use Rattle.definition.specs.Changes.{with_phase, with_places, with_callback, with_weak, with_cached, with_strong, with_held, with_giving, with_turns, with_stack, erased}

-- ---- counts

-- a reference is there besides the host's handles. Of a reference that is given up this is always so, and a name that
-- nobody has, 0 among them, has none
abbrev pub loose : State → ℕ → Bool
loose s x = nat_lt (s.handles x) (s.strong x)

-- one reference fewer
abbrev pub less : ℕ → State → State
less x s = with_strong x (s.strong x - 1) s

-- one reference more, for a round or a turn; a count has 32 bits, and no run comes near their end
abbrev pub more : ℕ → State → State
more x s = with_strong x (min (s.strong x + 1) 4294967295) s

-- no reference is left, and no mark keeps it
abbrev pub spent : State → ℕ → Bool
spent s x = s.strong x == 0 && not (s.interned x)

-- ---- a death starts

-- the class whose del x would run
abbrev pub found : State → ℕ → ℕ
found s x = find_del s.classes (s.shape x).class

-- x is the newest of the dying
abbrev pub pushed : ℕ → State → State
pushed x s = with_stack (x ∷ s.stack) s

abbrev pub opened : State → State
opened s = with_turns (suc s.turns) s

-- its del turn opens, which counts as a reference
abbrev pub del_opens : ℕ → ℕ → State → State
del_opens x c s = opened (pushed x (with_strong x 1 (with_phase x (DelOpen c) s)))

abbrev pub clearing_begins : ℕ → State → State
clearing_begins x s = with_phase x Taking s

-- a del turn opens exactly if a host attends and a del is found
abbrev pub dies : ℕ → State → State
dies x s = cond (s.attends && not (found s x == 0)) (del_opens x (found s x) s) (pushed x (clearing_begins x s))

-- a reference to x is gone: an object at rest dies if none is left and no mark keeps it
abbrev pub lost : ℕ → State → State
lost x s = cond (is_resting (s.phase x) && spent s x) (dies x s) s

unfoldable pub give_up : ℕ → State → State
give_up x s = cond (loose s x) (lost x (less x s)) s

-- ---- rounds

-- a reference taken off the list of o is no longer cached
abbrev pub uncached : ℕ → ℕ → State → State
uncached w o s = with_cached o (cond (s.cached o == w) 0 (s.cached o)) s

-- the round of o takes the first reference off: it holds it if a reference is left to it or a mark keeps it, else passes over it
abbrev pub takes : ℕ → List ℕ → ℕ → State → State
takes w rest o s =
    let off = with_phase o Taking (with_weak o rest (uncached w o s)) in
    cond (spent s w) off (with_held o (s.held o ++ (w ∷ [])) (more w off))

-- the round is complete: a round that holds none ends the clearing
abbrev pub round_ends : List ℕ → ℕ → State → State
round_ends [] o s = with_phase o (Freeing 0) s
round_ends (w ∷ ws) o s = with_phase o Draining s

-- a round takes references until it holds 16 or the list is empty
abbrev pub taking : List ℕ → ℕ → State → State
taking [] o s = round_ends (s.held o) o s
taking (w ∷ ws) o s = cond (nat_le 16 (length (s.held o))) (round_ends (s.held o) o s) (takes w ws o s)

-- the callback of w is taken out. With a host a turn opens, and holds w as its argument; at its hand back the argument
-- is given up, then the callback, then the round's hold. Else the callback, if there was one, and the hold
abbrev pub drains : ℕ → List ℕ → ℕ → State → State
drains w rest o s =
    let c = s.callback w in
    let out = with_held o rest (with_callback w 0 s) in
    cond (s.attends && not (c == 0))
    (opened (with_phase o (Calling c w) (with_giving o (w ∷ c ∷ w ∷ []) (more w out))))
    (with_giving o (c ∷ w ∷ []) out)

-- after the last reference of a round comes the next round
abbrev pub draining : List ℕ → ℕ → State → State
draining [] o s = taking (s.weak o) o s
draining (w ∷ ws) o s = drains w ws o s

-- ---- freeing

-- a weak reference leaves its referent's list, and its cache
abbrev pub unlisted : ℕ → State → State
unlisted w s = let r = (s.shape w).referent in uncached w r (with_weak r (without w (s.weak r)) s)

-- place by place: each is emptied, and then its content given up; a weak reference then leaves its list and gives up
-- its callback
abbrev pub freeing : ℕ → ℕ → State → State
freeing k o s =
    cond (nat_lt k (length (s.places o)))
    (give_up (slice_index (s.places o) k) (with_phase o (Freeing (suc k)) (with_places o (slice_set (s.places o) k 0) s)))
    (give_up (s.callback o) (with_phase o Leaving (with_callback o 0 (unlisted o s))))

-- the object is freed, and its place with it
abbrev pub leaving : ℕ → List ℕ → State → State
leaving o below s = with_stack below (erased o s)

-- ---- the step

abbrev pub by_phase : Phase → ℕ → List ℕ → State → State
by_phase Absent o below s = s
by_phase Resting o below s = s
by_phase (DelOpen c) o below s = s
by_phase Taking o below s = taking (s.weak o) o s
by_phase Draining o below s = draining (s.held o) o s
by_phase (Calling c w) o below s = s
by_phase (Freeing k) o below s = freeing k o s
by_phase Leaving o below s = leaving o below s

-- what a death has to give up goes first
abbrev pub going_on : List ℕ → ℕ → List ℕ → State → State
going_on [] o below s = by_phase (s.phase o) o below s
going_on (x ∷ xs) o below s = give_up x (with_giving o xs s)

-- the newest death takes a step, unless it waits for a hand back
abbrev pub on_top : List ℕ → State → State
on_top [] s = s
on_top (o ∷ below) s = cond (is_open (s.phase o)) s (going_on (s.giving o) o below s)

unfoldable pub advance : State → State
advance s = on_top s.stack s

-- the birth that the next step frees, if it frees one
abbrev pub frees_by : Phase → List ℕ → ℕ → List ℕ
frees_by Absent giving o = []
frees_by Resting giving o = []
frees_by (DelOpen c) giving o = []
frees_by Taking giving o = []
frees_by Draining giving o = []
frees_by (Calling c w) giving o = []
frees_by (Freeing k) giving o = []
frees_by Leaving [] o = o ∷ []
frees_by Leaving (x ∷ xs) o = []

abbrev pub frees_top : List ℕ → State → List ℕ
frees_top [] s = []
frees_top (o ∷ below) s = frees_by (s.phase o) (s.giving o) o

unfoldable pub frees : State → List ℕ
frees s = frees_top s.stack s

-- ---- going on until a turn opens or no work is left

-- no work is left: nothing is dying, or the newest death waits for a hand back
abbrev pub waits : List ℕ → State → Bool
waits [] s = true
waits (o ∷ below) s = is_open (s.phase o)

abbrev pub rests : State → Bool
rests s = waits s.stack s

-- how many steps the deaths can take at most: each step makes this smaller
abbrev pub weight : Phase → ℕ → ℕ
weight Absent width = 0
weight Resting width = 6 + width
weight (DelOpen c) width = 5 + width
weight Taking width = 4 + width
weight Draining width = 3 + width
weight (Calling c w) width = 3 + width
weight (Freeing k) width = 2 + (width - k)
weight Leaving width = 1

abbrev pub weighs : State → ℕ → ℕ
weighs s o = weight (s.phase o) (length (s.places o)) + length (s.giving o) + 4 * length (s.held o) + 6 * length (s.weak o)

unfoldable pub work : State → ℕ
work s = sum_to s.next (weighs s)

unfoldable pub settle : ℕ → State → State
settle zero s = s
settle (suc n) s = settle n (advance s)

-- the births freed on the way, in order
unfoldable pub freed_in : ℕ → State → List ℕ
freed_in zero s = []
freed_in (suc n) s = frees s ++ freed_in n (advance s)

unfoldable pub settled : State → State
settled s = settle (work s) s

unfoldable pub freed : State → List ℕ
freed s = freed_in (work s) s
