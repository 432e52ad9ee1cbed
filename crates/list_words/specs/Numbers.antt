-- Decimal numbers.
use Rattle.std.specs.Prelude.{ℕ, ◌+◌, ◌-◌, ◌*◌, ◌^◌, Bool, true, cond, ◌&&◌, List, [], ◌∷◌, Some, None, Option, nat_le, nat_lt}

-- 0 to 9 are the bytes 48 to 57
abbrev pub digit : ℕ → Bool
digit b = nat_le 48 b && nat_le b 57

abbrev pub digits : List ℕ → Bool
digits [] = true
digits (b ∷ bs) = digit b && digits bs

-- the value of digits behind those that gave n
abbrev pub value : ℕ → List ℕ → ℕ
value n [] = n
value n (b ∷ bs) = value (n * 10 + (b - 48)) bs

-- a word is a number if it has a digit, nothing but digits, and a value of 32 bits
abbrev pub number : List ℕ → Option ℕ
number [] = None
number (b ∷ bs) = cond (digits (b ∷ bs) && nat_lt (value 0 (b ∷ bs)) (2 ^ 32)) (Some (value 0 (b ∷ bs))) None

-- n with one digit more behind it, if it still has 32 bits
abbrev pub longer : ℕ → ℕ → Option ℕ
longer n b = cond (digit b && nat_lt (n * 10 + (b - 48)) (2 ^ 32)) (Some (n * 10 + (b - 48))) None
