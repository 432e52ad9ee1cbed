-- The lines of a list and the words of a line.
use Rattle.std.specs.Prelude.{◌≡◌, ℕ, ◌≤◌, cond, List, [], ◌∷◌, ◌++◌, length, take, Some, None, Option, ◌==◌, ◌≢◌}
use Rattle.std.specs.Borrow.{Bor}
use Rattle.std.specs.List.{AllByRecursion}

-- the byte in front of the first piece
abbrev pub joined : ℕ → List (List ℕ) → List (List ℕ)
joined b [] = (b ∷ []) ∷ []
joined b (p ∷ ps) = (b ∷ p) ∷ ps

-- the pieces between separators; `last` are the pieces where nothing is left
abbrev pub pieces : ℕ → List (List ℕ) → List ℕ → List (List ℕ)
pieces separator last [] = last
pieces separator last (b ∷ bs) = cond (b == separator) ([] ∷ pieces separator last bs) (joined b (pieces separator last bs))

-- a newline (10) ends each line; behind the last one stands a line only if a byte stands there
abbrev pub lines : List ℕ → List (List ℕ)
lines bs = pieces 10 [] bs

-- words are what stands between single spaces (32), so there is always one
abbrev pub words : List ℕ → List (List ℕ)
words bs = pieces 32 ([] ∷ []) bs

-- the words that are still to come, where the bytes that are left may be none
abbrev pub words_left : Option (Bor (List ℕ)) → List (List ℕ)
words_left None = []
words_left (Some bs) = words bs.now

-- only the first 65,536 bytes of a list count
abbrev pub counted : List ℕ → List ℕ
counted bs = take 65536 bs

-- each line with a newline behind it
abbrev pub ended : List (List ℕ) → List ℕ
ended [] = []
ended (l ∷ ls) = l ++ (10 ∷ ended ls)

-- what stands behind the last newline is a line if a byte stands there
abbrev pub final : List ℕ → List (List ℕ)
final [] = []
final (b ∷ bs) = (b ∷ bs) ∷ []

-- bytes cut at their first separator: what stands before it, and what behind it if there is one
abbrev pub Cut : ℕ → List ℕ → List ℕ → Option (Bor (List ℕ)) → Type 0
Cut separator bs first None = (first ≡ bs) × (pieces separator ([] ∷ []) bs ≡ bs ∷ []) × (pieces separator [] bs ≡ final bs)
Cut separator bs first (Some rest) = (last : List (List ℕ)) → pieces separator last bs ≡ first ∷ pieces separator last rest.now

abbrev pub Without : ℕ → List ℕ → Type 0
Without separator bs = AllByRecursion (λ b. b ≢ separator) bs

-- lines that hold no newline, joined by newlines, are split into those lines again
abbrev pub SplitAgain : List ℕ → List (List ℕ) → Type 0
SplitAgain bs split =
    (ls : List (List ℕ)) (last : List ℕ) → AllByRecursion (Without 10) ls → Without 10 last → bs ≡ ended ls ++ last → length bs ≤ 65536 → split ≡ ls ++ final last
