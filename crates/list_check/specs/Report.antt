-- What is printed of a list.
use Rattle.std.specs.Prelude.{ℕ, ◌+◌, ◌-◌, Bool, true, false, cond, List, [], ◌∷◌, ◌++◌, map, length, codes, count_by, decimal, ◌==◌}
use Rattle.list_words.specs.Pieces.{lines, counted}
use Rattle.list_reader.specs.Calls.{Call, Attend, Make, Hold, Drop, Weaken, Upgrade, Intern, HandBack, Said, Asks, Quotes, Short, says}
use Rattle.list_reader.specs.Written.{spaced}

abbrev pub hosts : Bool → List ℕ
hosts true = codes "a host attends"
hosts false = codes "no host attends"

-- a name behind what it is, or that there is none
abbrev pub named : List ℕ → ℕ → List ℕ
named what n = cond (n == 0) (codes ", no " ++ what) (codes ", " ++ (what ++ (codes " " ++ decimal n)))

abbrev pub edged : List ℕ → List ℕ
edged [] = codes ", no edges"
edged (n ∷ ns) = codes ", edges" ++ spaced (n ∷ ns)

-- what a call asks for
abbrev pub asking : Call → List ℕ
asking (Attend host) = hosts host
asking (Make class dictionary edges) = codes "make an object of class " ++ (decimal class ++ (named (codes "dictionary") dictionary ++ edged edges))
asking (Hold object) = codes "hold object " ++ decimal object
asking (Drop object) = codes "drop a handle of object " ++ decimal object
asking (Weaken class object callback) = codes "make a weak reference of class " ++ (decimal class ++ (codes " to object " ++ (decimal object ++ named (codes "callback") callback)))
asking (Upgrade reference) = codes "upgrade reference " ++ decimal reference
asking (Intern object) = codes "intern object " ++ decimal object
asking (HandBack turn) = codes "hand back turn " ++ decimal turn

-- what a line says
abbrev pub telling : Said → List ℕ
telling (Asks call) = asking call
telling (Quotes word) = codes "?? " ++ word
telling Short = codes "??"

-- a line behind its number
abbrev pub entry : ℕ → Said → List ℕ
entry n s = decimal n ++ (codes ": " ++ (telling s ++ codes "\n"))

-- the lines, numbered on from n
abbrev pub entries : ℕ → List Said → List ℕ
entries n [] = []
entries n (s ∷ ss) = entry n s ++ entries (n + 1) ss

abbrev pub is_call : Said → Bool
is_call (Asks call) = true
is_call (Quotes word) = false
is_call Short = false

abbrev pub calls : List Said → ℕ
calls ss = count_by is_call ss

-- how many lines, calls and unreadable lines there were
abbrev pub summed : List Said → List ℕ
summed ss = decimal (length ss) ++ (codes " lines, " ++ (decimal (calls ss) ++ (codes " calls, " ++ (decimal (length ss - calls ss) ++ codes " unreadable\n"))))

-- all that is printed
abbrev pub report : List ℕ → List ℕ
report list = let ss = map says (lines (counted list)) in entries 1 ss ++ summed ss
