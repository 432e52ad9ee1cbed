-- A number, read digit by digit.
use Rattle.std.proofs.Common.{◌≡◌, ℕ, ◌+◌, ◌-◌, ◌*◌, ◌^◌, ◌<◌, ◌≤◌, Bool, true, false, cond, ◌&&◌, ltb, List, [], ◌∷◌, length, Some, None, Option, sym, refl, arith}
use Rattle.std.proofs.lemmas.Bool.{lt-ltb, le-ltb, ltb-true, ltb-false, cond-false, and_right}
use Rattle.list_words.specs.Numbers.{digit, digits, value, number}

-- what is left of a word, behind digits of value n
abbrev pub reads : ℕ → List ℕ → Option ℕ
reads n [] = Some n
reads n (b ∷ bs) = cond (digit b && ltb (n * 10 + (b - 48)) (2 ^ 32)) (reads (n * 10 + (b - 48)) bs) None

value_grows : (n : ℕ) (bs : List ℕ) → n ≤ value n bs
value_grows n [] = omega arith
value_grows n (b ∷ bs) = omega (arith, value_grows (n * 10 + (b - 48)) bs)

module _ (n b : ℕ) (bs : List ℕ) where
  abbrev next : ℕ
  next = n * 10 + (b - 48)

  abbrev whole : Option ℕ
  whole = cond (digits (b ∷ bs) && ltb (value n (b ∷ bs)) (2 ^ 32)) (Some (value n (b ∷ bs))) None

  abbrev rest : Option ℕ
  rest = cond (digits bs && ltb (value next bs) (2 ^ 32)) (Some (value next bs)) None

  by_digit : (d : Bool) → digit b ≡ d → (l : Bool) → ltb next (2 ^ 32) ≡ l → (next < 2 ^ 32 → reads next bs ≡ rest) → reads n (b ∷ bs) ≡ whole
  by_digit true ed true el ih = rw (ed, el) (ih (ltb-true next (2 ^ 32) el))
  by_digit true ed false el ih = rw (ed, el) (sym (cond-false (digits bs && ltb (value next bs) (2 ^ 32)) (Some (value next bs)) None (and_right (digits bs) (ltb (value next bs) (2 ^ 32)) (le-ltb (value next bs) (2 ^ 32) (omega (arith, ltb-false next (2 ^ 32) el, value_grows next bs))))))
  by_digit false ed l el ih = rw ed refl

reads_whole : (n : ℕ) (bs : List ℕ) → n < 2 ^ 32 → reads n bs ≡ cond (digits bs && ltb (value n bs) (2 ^ 32)) (Some (value n bs)) None
reads_whole n [] h = rw (lt-ltb n (2 ^ 32) h) refl
reads_whole n (b ∷ bs) h = by_digit n b bs (digit b) refl (ltb (n * 10 + (b - 48)) (2 ^ 32)) refl (λ l. reads_whole (n * 10 + (b - 48)) bs l)

pub reads_number : (b : ℕ) (bs : List ℕ) → reads 0 (b ∷ bs) ≡ number (b ∷ bs)
reads_number b bs = reads_whole 0 (b ∷ bs) (omega arith)

pub reads_begins : (w : List ℕ) → 0 < length w → reads 0 w ≡ number w
reads_begins [] h = absurd (omega arith)
reads_begins (b ∷ bs) h = reads_number b bs
