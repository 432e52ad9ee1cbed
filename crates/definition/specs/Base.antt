-- Functions changed at one point, how often a number stands in a list, sums below a number.
use Rattle.std.specs.Prelude.{ℕ, zero, suc, ◌+◌, Bool, true, false, cond, List, [], ◌∷◌, ◌==◌}

-- f, but v at o
abbrev pub put : {A : Type 0} → (ℕ → A) → ℕ → A → ℕ → A
put f o v x = cond (x == o) v (f x)

abbrev pub bit : Bool → ℕ
bit true = 1
bit false = 0

-- how often x stands in the list
abbrev pub count : ℕ → List ℕ → ℕ
count x [] = 0
count x (y ∷ ys) = cond (x == y) (suc (count x ys)) (count x ys)

-- the list without the first x in it
abbrev pub without : ℕ → List ℕ → List ℕ
without x [] = []
without x (y ∷ ys) = cond (y == x) ys (y ∷ without x ys)

-- those of the list that pass a test
abbrev pub those : (ℕ → Bool) → List ℕ → List ℕ
those test [] = []
those test (x ∷ xs) = cond (test x) (x ∷ those test xs) (those test xs)

-- f 0 + .. + f (n - 1)
abbrev pub sum_to : ℕ → (ℕ → ℕ) → ℕ
sum_to zero f = 0
sum_to (suc n) f = f n + sum_to n f
