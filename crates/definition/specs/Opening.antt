-- Opening a core.
use Rattle.std.specs.Prelude.{ℕ, Bool, false, cond, not, ◌&&◌, List, [], Some, None, Option, ◌==◌, nat_lt}
use Rattle.refusal.specs.declared.Fault.{Fault}
use Rattle.refusal.specs.declared.Refusal.TheVariants.{BadTable}
use Rattle.classes.specs.Rows.{Class, good_rows}
use Rattle.definition.specs.State.{Absent, no_shape, State}

-- 1 to 4,096 places, a first birth that is a name, good class rows
abbrev pub can_open : ℕ → ℕ → List Class → Bool
can_open capacity first classes = (nat_lt 0 capacity && not (nat_lt 4096 capacity)) && (not (first == 0) && good_rows classes)

abbrev pub opening_refusal : ℕ → ℕ → List Class → Option Fault
opening_refusal capacity first classes = cond (can_open capacity first classes) None (Some (record { refusal = BadTable; argument = 0 }))

-- no object, no turn, no host
abbrev pub opening : ℕ → ℕ → List Class → State
opening capacity first classes =
    record { phase = λ o. Absent; shape = λ o. no_shape; places = λ o. []; callback = λ o. 0; weak = λ o. []; cached = λ o. 0; strong = λ o. 0; handles = λ o. 0; interned = λ o. false; held = λ o. []; giving = λ o. []; next = first; capacity = capacity; unfreed = 0; turns = 0; stack = []; attends = false; classes = classes }
