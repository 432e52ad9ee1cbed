-- What the cursor yields of the words that are left of a line.
use Rattle.std.specs.Prelude.{◌≡◌, ℕ, List, [], ◌∷◌, Some, None, Option}
use Rattle.list_words.specs.Numbers.{number}
use Rattle.list_words.specs.declared.word.Word.{Word}
use Rattle.list_words.specs.declared.word.Word.TheVariants.{Number, Other}

-- the first of the words goes, told apart by whether it is a number, and the others are left
abbrev pub Yields : List (List ℕ) → Option Word → List (List ℕ) → Type 0
Yields ws None rest = (ws ≡ []) × (rest ≡ [])
Yields ws (Some (Number n w)) rest = (ws ≡ w.now ∷ rest) × (number w.now ≡ Some n)
Yields ws (Some (Other w)) rest = (ws ≡ w.now ∷ rest) × (number w.now ≡ None)
