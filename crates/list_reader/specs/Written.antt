-- A list written out, and read back.
use Rattle.std.specs.Prelude.{◌≡◌, ℕ, ◌^◌, ◌<◌, ◌≤◌, cond, List, [], ◌∷◌, map, length, decimal}
use Rattle.std.specs.List.{AllByRecursion, flat_map}
use Rattle.list_words.specs.Pieces.{ended}
use Rattle.list_reader.specs.Calls.{Call, Attend, Make, Hold, Drop, Weaken, Upgrade, Intern, HandBack, Said, Asks}

-- each number in decimal behind a space
abbrev pub spaced : List ℕ → List ℕ
spaced ns = flat_map (λ n. 32 ∷ decimal n) ns

-- a call as a line
abbrev pub written : Call → List ℕ
written (Attend host) = 97 ∷ spaced (cond host 1 0 ∷ [])
written (Make class dictionary edges) = 109 ∷ spaced (class ∷ dictionary ∷ edges)
written (Hold object) = 104 ∷ spaced (object ∷ [])
written (Drop object) = 100 ∷ spaced (object ∷ [])
written (Weaken class object callback) = 119 ∷ spaced (class ∷ object ∷ callback ∷ [])
written (Upgrade reference) = 117 ∷ spaced (reference ∷ [])
written (Intern object) = 105 ∷ spaced (object ∷ [])
written (HandBack turn) = 98 ∷ spaced (turn ∷ [])

abbrev pub Small : ℕ → Type 0
Small n = n < 2 ^ 32

-- the numbers of a call fit 32 bits, and its edges are 8 at most
abbrev pub Fits : Call → Type 0
Fits (Attend host) = Unit {0}
Fits (Make class dictionary edges) = Small class × Small dictionary × AllByRecursion Small edges × (length edges ≤ 8)
Fits (Hold object) = Small object
Fits (Drop object) = Small object
Fits (Weaken class object callback) = Small class × Small object × Small callback
Fits (Upgrade reference) = Small reference
Fits (Intern object) = Small object
Fits (HandBack turn) = Small turn

-- a list that is calls written out one a line, within the bytes that count, says those calls
abbrev pub ListBack : List ℕ → List Said → Type 0
ListBack list said = (calls : List Call) → AllByRecursion Fits calls → list ≡ ended (map written calls) → length list ≤ 65536 → said ≡ map Asks calls
