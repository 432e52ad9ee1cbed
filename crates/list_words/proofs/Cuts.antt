-- A cut at the first separator, or where none stands.
use Rattle.std.proofs.Common.{◌≡◌, ℕ, zero, suc, ◌+◌, ◌-◌, ◌<◌, ◌≤◌, Bool, true, false, ◌==◌, ◌≢◌, List, [], ◌∷◌, length, get_or, take, drop, Some, None, position, refl, ap, add-one, arith}
use Rattle.std.proofs.lemmas.List.{at_drop_all, at_drop_more, take_rest}
use Rattle.std.proofs.lemmas.List.Quantifiers.{position-Some}
use Rattle.std.proofs.lemmas.Bool.{eqb-false}
use Rattle.std.specs.List.{position_or_len}
use Rattle.std.proofs.ByRecursion.{All-from_get_or}
use Rattle.std.proofs.lemmas.List.Sums.{fails_before_first}
use Rattle.std.proofs.lemmas.Grind.{common_steps}
use Rattle.list_words.specs.Pieces.{joined, pieces, Without}

module _ (s : ℕ) where
  abbrev is : ℕ → Bool
  is b = b == s

  -- where the first one is, told of what lies from the i-th byte on
  abbrev pub IsPast : List ℕ → ℕ → Type 0
  IsPast bs i = position_or_len is bs ≡ i + position_or_len is (drop i bs)

  pub here : (bs : List ℕ) (i : ℕ) → IsPast bs i → i < length bs → get_or bs i 0 ≡ s → position is bs ≡ Some i
  here bs i past h e = let step = at_drop_more (position_or_len is) bs i 0 h in grind (arith, common_steps)

  pub on : (bs : List ℕ) (i : ℕ) → IsPast bs i → i < length bs → get_or bs i 0 ≢ s → IsPast bs (i + 1)
  on bs i past h ne = let step = at_drop_more (position_or_len is) bs i 0 h in grind (arith, common_steps)

  pub nowhere : (bs : List ℕ) (i : ℕ) → IsPast bs i → length bs ≤ i → position is bs ≡ None
  nowhere bs i past h = let rest = at_drop_all (position_or_len is) bs i h in grind (arith, common_steps)

  found : (last : List (List ℕ)) (bs : List ℕ) (i : ℕ) → i < length bs → is (get_or bs i 0) ≡ true → ((k : ℕ) → k < i → is (get_or bs k 0) ≡ false) → pieces s last bs ≡ take i bs ∷ pieces s last (drop (suc i) bs)
  found last [] i h e before = absurd (omega arith)
  found last (b ∷ bs) zero h e before = rw e refl
  found last (b ∷ bs) (suc i) h e before = rw (before 0 (omega arith)) (ap (joined b) (found last bs i (omega arith) e (λ k l. before (suc k) (omega arith))))

  -- in the words of a part of a slice
  pub cut_at : (last : List (List ℕ)) (bs : List ℕ) (i : ℕ) → position is bs ≡ Some i → pieces s last bs ≡ take i bs ∷ pieces s last (take (length bs - (i + 1)) (drop (i + 1) bs))
  cut_at last bs i e = let at = position-Some is bs i 0 e in rw (take_rest, add-one) (found last bs i at.0 at.1 at.2)

  pub without : (bs : List ℕ) → position is bs ≡ None → Without s bs
  without bs none =
      let past : length bs ≤ position_or_len is bs = grind (arith, common_steps) in
      All-from_get_or (λ b. b ≢ s) bs 0 (λ k h. eqb-false (get_or bs k 0) s (fails_before_first is bs k 0 (omega arith)))
