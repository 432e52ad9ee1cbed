-- Numbers read one after another.
use Rattle.std.proofs.Common.{◌≡◌, ℕ, List, ◌++◌}
use Rattle.list_reader.specs.Calls.{Said, numbers}

-- from `all` the numbers xs are read, k more may come, and the words ws are left
abbrev pub IsReading : ℕ → List (List ℕ) → List ℕ → ℕ → List (List ℕ) → Type 0
IsReading most all xs k ws = (then : List ℕ → Said) → numbers most all then ≡ numbers k ws (λ ns. then (xs ++ ns))
