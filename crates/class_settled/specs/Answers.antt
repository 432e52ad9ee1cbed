-- Answers that are kept.
use Rattle.std.specs.Prelude.{ℕ, ◌+◌, ◌<◌, ◌≡◌, List, length, get_or}
use Rattle.classes.specs.Rows.{Class, find_del}

-- for each of the numbers 1 to 64, what find del answers
abbrev pub Settled : List Class → List ℕ → Type 0
Settled rows answers = (length answers ≡ 64) × ((k : ℕ) → k < 64 → get_or answers k 0 ≡ find_del rows (k + 1))
