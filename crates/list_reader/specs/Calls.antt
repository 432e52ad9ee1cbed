-- What a line asks for.
use Rattle.std.specs.Prelude.{ℕ, zero, suc, Bool, cond, not, List, [], ◌∷◌, Some, None, Option, ◌==◌}
use Rattle.list_words.specs.Numbers.{number}
use Rattle.list_words.specs.Pieces.{words}

pub data Call : Type 0 where
  Attend : Bool → Call
  Make : ℕ → ℕ → List ℕ → Call
  Hold Drop : ℕ → Call
  Weaken : ℕ → ℕ → ℕ → Call
  Upgrade Intern HandBack : ℕ → Call

-- a line is a call, or quotes its first unreadable word, or has too few words, each of them readable
pub data Said : Type 0 where
  Asks : Call → Said
  Quotes : List ℕ → Said
  Short : Said

-- a word that has to be a number, and what follows from it
abbrev pub as_number : Option ℕ → List ℕ → (ℕ → Said) → Said
as_number None word then = Quotes word
as_number (Some n) word then = then n

-- the next word has to be a number
abbrev pub one_number : List (List ℕ) → (ℕ → List (List ℕ) → Said) → Said
one_number [] then = Short
one_number (w ∷ ws) then = as_number (number w) w (λ n. then n ws)

-- no word is left, or the next is one too many
abbrev pub no_more : List (List ℕ) → Said → Said
no_more [] line = line
no_more (w ∷ ws) line = Quotes w

-- at most so many numbers, and no word behind them
abbrev pub numbers : ℕ → List (List ℕ) → (List ℕ → Said) → Said
numbers most [] then = then []
numbers zero (w ∷ ws) then = Quotes w
numbers (suc most) (w ∷ ws) then = as_number (number w) w (λ n. numbers most ws (λ ns. then (n ∷ ns)))

abbrev pub single : (ℕ → Call) → List (List ℕ) → Said
single call ws = one_number ws (λ n rest. no_more rest (Asks (call n)))

abbrev pub attend : List (List ℕ) → Said
attend ws = single (λ n. Attend (not (n == 0))) ws

abbrev pub make : List (List ℕ) → Said
make ws = one_number ws (λ class rest. one_number rest (λ dictionary more. numbers 8 more (λ edges. Asks (Make class dictionary edges))))

abbrev pub weaken : List (List ℕ) → Said
weaken ws =
    one_number ws (λ class rest. one_number rest (λ object more. one_number more (λ callback end. no_more end (Asks (Weaken class object callback)))))

-- the call that a letter stands for: a m h d w u i b
abbrev pub by_letter : ℕ → List (List ℕ) → Said
by_letter c ws =
    cond (c == 97) (attend ws)
    (cond (c == 109) (make ws)
    (cond (c == 104) (single Hold ws)
    (cond (c == 100) (single Drop ws)
    (cond (c == 119) (weaken ws)
    (cond (c == 117) (single Upgrade ws)
    (cond (c == 105) (single Intern ws)
    (cond (c == 98) (single HandBack ws)
    (Quotes (c ∷ [])))))))))

-- the first word has to be one letter
abbrev pub by_words : List (List ℕ) → Said
by_words [] = Short
by_words ([] ∷ ws) = Quotes []
by_words ((c ∷ []) ∷ ws) = by_letter c ws
by_words ((c ∷ d ∷ ds) ∷ ws) = Quotes (c ∷ d ∷ ds)

-- what a line says
abbrev pub says : List ℕ → Said
says bs = by_words (words bs)
