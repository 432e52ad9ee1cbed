-- How a call is refused: the grounds in their order, each with the leftmost argument that offends.
use Rattle.std.specs.Prelude.{ℕ, suc, ◌-◌, Bool, false, cond, not, ◌&&◌, List, [], ◌∷◌, map, Some, None, Option, ◌==◌, nat_le, nat_lt}
use Rattle.refusal.specs.declared.Fault.{Fault}
use Rattle.refusal.specs.declared.Refusal.{Refusal}
use Rattle.refusal.specs.declared.Refusal.TheVariants.{NoSuch, Dying, NotYours}
use Rattle.definition.specs.Base.{put}
use Rattle.definition.specs.State.{State, is_unfreed, is_live}

-- a condition of the table of refusals: whether it is met, and the ordinal of the argument that is to blame
pub record Ground : Type 0 where
  pub refusal : Refusal
  pub argument : ℕ
  pub met : Bool

-- the first condition that is met
abbrev pub first_met : List Ground → Option Fault
first_met [] = None
first_met (g ∷ gs) = cond g.met (Some (record { refusal = g.refusal; argument = g.argument })) (first_met gs)

-- a condition on one argument, or on none
abbrev pub at_argument : Refusal → ℕ → Bool → Ground
at_argument r n b = record { refusal = r; argument = n; met = b }

abbrev pub at_none : Refusal → Bool → Ground
at_none r b = at_argument r 0 b

-- the ordinal of the first that offends, counting from n, or 0
abbrev pub leftmost : ℕ → List Bool → ℕ
leftmost n [] = 0
leftmost n (b ∷ bs) = cond b n (leftmost (suc n) bs)

-- a condition on each argument in turn
abbrev pub at_leftmost : Refusal → List Bool → Ground
at_leftmost r bs = at_argument r (leftmost 1 bs) (not (leftmost 1 bs == 0))

-- ---- arguments that name objects

-- Plain: no name. Names: has to name an object. Gives: likewise, and a handle of it is taken over.
-- Stores: may be 0 for none, else a handle of it is taken over
pub data Argument : Type 0 where
  Plain : Argument
  Names Gives Stores : ℕ → Argument

abbrev pub no_such : State → Argument → Bool
no_such s Plain = false
no_such s (Names o) = not (is_unfreed (s.phase o))
no_such s (Gives o) = not (is_unfreed (s.phase o))
no_such s (Stores o) = not (o == 0) && not (is_unfreed (s.phase o))

abbrev pub not_live : State → ℕ → Bool
not_live s o = is_unfreed (s.phase o) && not (is_live (s.phase o))

abbrev pub dying : State → Argument → Bool
dying s Plain = false
dying s (Names o) = not_live s o
dying s (Gives o) = not_live s o
dying s (Stores o) = not_live s o

-- the handles that are left when one of o is taken over
abbrev pub taken : ℕ → (ℕ → ℕ) → ℕ → ℕ
taken o handles = put handles o (handles o - 1)

-- for each argument, whether no handle is left for it, those before it having taken theirs
abbrev pub past : (ℕ → ℕ) → List Argument → List Bool
past handles [] = []
past handles (Plain ∷ as') = false ∷ past handles as'
past handles (Names o ∷ as') = false ∷ past handles as'
past handles (Gives o ∷ as') = (handles o == 0) ∷ past (taken o handles) as'
past handles (Stores o ∷ as') = (not (o == 0) && handles o == 0) ∷ past (taken o handles) as'

-- the handles after a call has taken over what its arguments give
abbrev pub taken_all : List Argument → (ℕ → ℕ) → ℕ → ℕ
taken_all [] handles = handles
taken_all (Plain ∷ as') handles = taken_all as' handles
taken_all (Names o ∷ as') handles = taken_all as' handles
taken_all (Gives o ∷ as') handles = taken_all as' (taken o handles)
taken_all (Stores o ∷ as') handles = taken_all as' (taken o handles)

-- what every call is checked for first
abbrev pub naming : State → List Argument → List Ground → List Ground
naming s as' rest =
    at_leftmost NoSuch (map (no_such s) as') ∷ at_leftmost Dying (map (dying s) as') ∷ at_leftmost NotYours (past s.handles as') ∷ rest

-- ---- limits

-- hold, upgrade, list and a reference answered again raise no count that is 65,535 or more
abbrev pub count_full : State → ℕ → Bool
count_full s o = nat_le 65535 (s.strong o)

abbrev pub no_room : State → Bool
no_room s = nat_le s.capacity s.unfreed

abbrev pub births_spent : State → Bool
births_spent s = nat_lt 4294967295 s.next
