-- What the reader's functions say of a line.
use Rattle.std.specs.Prelude.{◌≡◌, ℕ, List, [], ◌∷◌, Ok, Err, Result, vec_items}
use Rattle.list_reader.specs.Calls as calls
use Rattle.list_reader.specs.Calls.{Said, Asks, Quotes, Short}
use Rattle.list_words.specs.Pieces.{words}
use Rattle.list_reader.specs.declared.call.Call.{Call}
use Rattle.list_reader.specs.declared.call.Call.TheVariants.{Attend, Make, Hold, Drop, Weaken, Upgrade, Intern, HandBack}
use Rattle.list_reader.specs.declared.fault.Fault.{Fault}
use Rattle.list_reader.specs.declared.fault.Fault.TheVariants.{Unreadable, TooFew}
use Rattle.list_reader.specs.declared.fault.ReadError.{ReadError}
use Rattle.list_reader.specs.declared.fault.ReadError.TheVariants as error

-- the call that a value of the reader's type stands for
abbrev pub asked : Call → calls.Call
asked (Attend host) = calls.Attend host
asked (Make class dictionary edges) = calls.Make class dictionary (vec_items edges)
asked (Hold object) = calls.Hold object
asked (Drop object) = calls.Drop object
asked (Weaken class object callback) = calls.Weaken class object callback
asked (Upgrade reference) = calls.Upgrade reference
asked (Intern object) = calls.Intern object
asked (HandBack turn) = calls.HandBack turn

-- what a line says that has a fault
abbrev pub faulty : Fault → Said
faulty (Unreadable word) = Quotes word.now
faulty TooFew = Short

-- what a line says of which a part was read, where `then` is what follows from that part
abbrev pub outcome : {X : Type 0} → Result X Fault → (X → Said) → Said
outcome (Ok x) then = then x
outcome (Err fault) then = faulty fault

-- what a line that was read says
abbrev pub said : Result Call Fault → Said
said line = outcome line (λ call. Asks (asked call))

-- a line says what comes of a part of it; `short_of_memory` is what want of memory tells
abbrev pub Reads : {X : Type 0} → Type 0 → Said → Result X ReadError → (X → Said) → Type 0
Reads short_of_memory line (Ok x) then = line ≡ then x
Reads short_of_memory line (Err (error.Fault fault)) then = line ≡ faulty fault
Reads short_of_memory line (Err (error.Memory wanting)) then = short_of_memory

-- only a make can want memory
abbrev pub Makes : List ℕ → Type 0
Makes bs = (rest : List (List ℕ)) × (words bs ≡ (109 ∷ []) ∷ rest)
