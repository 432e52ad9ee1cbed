-- A new object keeps the invariant.
use Rattle.std.proofs.Common.{◌≡◌, ℕ, suc, ◌+◌, ◌<◌, ◌≤◌, false, eqb, ◌⊎◌, List, [], ◌∷◌, length, inl, inr, arith}
use Rattle.std.proofs.lemmas.Bool.{ne_eqb}
use Rattle.definition.specs.Base.{put, bit, count}
use Rattle.definition.specs.State.{Phase, Absent, Resting, Shape, State, is_unfreed, is_open}
use Rattle.definition.specs.Changes.{born}
use Rattle.definition.proofs.Sums.{same, point, sum_same, count_length}
use Rattle.law.proofs.Invariant.{Good, placed_by, lent_by, placed, lent, GoodAt, unfreed_sum, open_sum, Framed, Inv, retold}
use Rattle.law.proofs.Steps.{falling_more}

-- ---- one object's numbers

-- of a birth that nobody has, nothing is named, held or on the stack
nobody : {p : Phase} {s m h q l w e r g k : ℕ} → p ≡ Absent → Good p s m h q l w e r g k → (s ≡ 0) × (m ≡ 0) × (q ≡ 0) × (l ≡ 0) × (w ≡ 0) × (r ≡ 0) × (g ≡ 0) × (k ≡ 0)
nobody e i = let q = rw e at i in (omega (arith, q), omega (arith, q), omega (arith, q), omega (arith, q), omega (arith, q), omega (arith, q), omega (arith, q), omega (arith, q))

module _ (shape : Shape) (places : List ℕ) (callback : ℕ) (s : State) (owed : List ℕ) (i : Inv s owed) where
  -- the next birth is nobody's yet
  absent : s.phase s.next ≡ Absent
  absent = i.frame.fresh s.next (inr (omega arith))

  -- so nothing names it
  bare : (s.strong s.next ≡ 0) × (bit (s.interned s.next) ≡ 0) × (placed s s.next ≡ 0) × (lent s s.next ≡ 0) × (count s.next owed ≡ 0) × (length (s.held s.next) ≡ 0) × (length (s.giving s.next) ≡ 0) × (count s.next s.stack ≡ 0)
  bare = nobody absent (i.good s.next i.frame.first)

  off : eqb 0 s.next ≡ false
  off = ne_eqb 0 s.next (λ q. omega (arith, i.frame.first))

  -- what the new object's places and its callback name is named once more
  born_placed : (y : ℕ) → placed (born shape places callback s) y ≡ placed s y + count y places + count y (callback ∷ [])
  unfolding placed
  born_placed y =
      let new : placed_by (born shape places callback s) y s.next ≡ count y places + count y (callback ∷ []) = rw (same s.next) in
      omega (arith, sum_same s.next (placed_by (born shape places callback s) y) (placed_by s y) (λ k l. rw (ne_eqb k s.next (λ q. omega arith))))

  -- and it holds nothing
  born_lent : (y : ℕ) → lent (born shape places callback s) y ≡ lent s y
  unfolding lent
  born_lent y =
      let b = bare in
      let none : lent_by s y s.next ≡ 0 = omega (arith, count_length y (s.held s.next), count_length y (s.giving s.next)) in
      omega arith

  -- one object more is unfreed, and no turn opens
  born_frame : s.unfreed < s.capacity → Framed (born shape places callback s)
  unfolding unfreed_sum open_sum
  born_frame room =
      let f = i.frame in
      let u : bit (is_unfreed (put s.phase s.next Resting s.next)) ≡ 1 = rw (same s.next) in
      let t : bit (is_open (put s.phase s.next Resting s.next)) ≡ 0 = rw (same s.next) in
      record {
        first = omega arith;
        fresh = λ y h. rw (ne_eqb y s.next (apart y h)) (f.fresh y (before y h));
        unfreed = omega (arith, f.unfreed, sum_same s.next (λ p. bit (is_unfreed (put s.phase s.next Resting p))) (λ p. bit (is_unfreed (s.phase p))) (λ k l. rw (ne_eqb k s.next (λ q. omega arith))));
        turns = omega (arith, f.turns, sum_same s.next (λ p. bit (is_open (put s.phase s.next Resting p))) (λ p. bit (is_open (s.phase p))) (λ k l. rw (ne_eqb k s.next (λ q. omega arith))));
        room = omega arith;
        small = f.small;
        plain = f.plain;
      }
    where
      apart : (y : ℕ) → (y ≡ 0) ⊎ (suc s.next ≤ y) → y ≡ s.next → ⊥
      apart y (inl z) q = omega (arith, i.frame.first)
      apart y (inr l) q = omega arith

      before : (y : ℕ) → (y ≡ 0) ⊎ (suc s.next ≤ y) → (y ≡ 0) ⊎ (s.next ≤ y)
      before y (inl z) = inl z
      before y (inr l) = inr (omega arith)

  -- What goes into its places and its callback is owed no longer. There is room for it, and counts stay small
  pub born_inv :
      (owed' : List ℕ)
      → s.unfreed < s.capacity
      → ((y : ℕ) → 0 < y → count y owed ≡ count y owed' + count y places + count y (callback ∷ []))
      → ((y : ℕ) → 0 < y → s.strong y ≤ 65535 + lent s y + count y owed')
      → Inv (born shape places callback s) owed'
  born_inv owed' room c few =
      record {
        good = point (λ y. 0 < y → GoodAt (born shape places callback s) owed' y) s.next (λ py. rw (same s.next) new) (λ y ne py. rw (ne_eqb y s.next ne) (retold _ _ _ _ (i.good y py) (moved y py) (omega (arith, few y py, born_lent y))));
        zeroth = rw off i.zeroth;
        lists = λ o. falling_more s.next (suc s.next) (s.weak o) (omega arith) (i.lists o);
        frame = born_frame room;
      }
    where
      moved : (y : ℕ) → 0 < y → s.handles y + placed (born shape places callback s) y + lent (born shape places callback s) y + count y owed' ≡ s.handles y + placed s y + lent s y + count y owed
      moved y py = omega (arith, born_placed y, born_lent y, c y py)

      new : Good Resting 1 (bit (s.interned s.next)) 1 (placed (born shape places callback s) s.next) (lent (born shape places callback s) s.next) (count s.next owed') 0 (length (s.held s.next)) (length (s.giving s.next)) (count s.next s.stack)
      new =
          let b = bare in
          let p = born_placed s.next in
          let l = born_lent s.next in
          let n = c s.next i.frame.first in
          omega arith
