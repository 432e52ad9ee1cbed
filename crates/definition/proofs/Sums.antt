-- Sums below a number, and how often a number stands in a list.
use Rattle.std.proofs.Common.{◌≡◌, ℕ, zero, suc, ◌+◌, ◌<◌, ◌≤◌, Bool, true, false, eqb, ◌⊎◌, List, [], ◌∷◌, ◌++◌, length, get_or, set, sym, refl, ap, subst, inl, inr, arith}
use Rattle.std.proofs.lemmas.Bool.{eq-eqb, ne_eqb, cases_eq, cond_both}
use Rattle.definition.specs.Base.{put, count, without, sum_to}

pub same : (x : ℕ) → eqb x x ≡ true
same x = eq-eqb x x refl

-- what holds at x and at every other number holds everywhere
pub point : (P : ℕ → Type 0) (x : ℕ) → P x → ((y : ℕ) → (y ≡ x → ⊥) → P y) → (y : ℕ) → P y
point P x here there y = go (cases_eq y x)
  where
    go : (y ≡ x) ⊎ (y ≡ x → ⊥) → P y
    go (inl q) = subst P (sym q) here
    go (inr ne) = there y ne

-- ---- sums

-- a sum whose terms below n do not change
pub sum_same : (n : ℕ) (f g : ℕ → ℕ) → ((k : ℕ) → k < n → f k ≡ g k) → sum_to n f ≡ sum_to n g
sum_same zero f g h = refl
sum_same (suc n) f g h = omega (arith, h n (omega arith), sum_same n f g (λ k l. h k (omega arith)))

-- one term changes
pub sum_point : (n o : ℕ) (f g : ℕ → ℕ) → o < n → ((k : ℕ) → (k ≡ o → ⊥) → f k ≡ g k) → sum_to n f + g o ≡ sum_to n g + f o
sum_point zero o f g h d = absurd (omega arith)
sum_point (suc n) o f g h d = go (cases_eq n o) (λ l. sum_point n o f g l d)
  where
    go : (n ≡ o) ⊎ (n ≡ o → ⊥) → (o < n → sum_to n f + g o ≡ sum_to n g + f o) → sum_to (suc n) f + g o ≡ sum_to (suc n) g + f o
    go (inl e) r =
        let s : sum_to n f ≡ sum_to n g = sum_same n f g (λ k l. d k (λ q. omega arith)) in
        omega (arith, ap f e, ap g e)
    go (inr ne) r = let l : o < n = omega arith in omega (arith, r l, d n ne)

-- a term is at most the sum
pub term_le_sum : (n o : ℕ) (f : ℕ → ℕ) → o < n → f o ≤ sum_to n f
term_le_sum zero o f h = absurd (omega arith)
term_le_sum (suc n) o f h = go (cases_eq n o) (λ l. term_le_sum n o f l)
  where
    go : (n ≡ o) ⊎ (n ≡ o → ⊥) → (o < n → f o ≤ sum_to n f) → f o ≤ sum_to (suc n) f
    go (inl e) r = omega (arith, ap f e)
    go (inr ne) r = let l : o < n = omega arith in omega (arith, r l)

pub sum_le : (n : ℕ) (f g : ℕ → ℕ) → ((k : ℕ) → f k ≤ g k) → sum_to n f ≤ sum_to n g
sum_le zero f g h = omega arith
sum_le (suc n) f g h = omega (arith, h n, sum_le n f g h)

-- a sum above 0 has a term above 0
pub sum_has : (n : ℕ) (f : ℕ → ℕ) → 0 < sum_to n f → (k : ℕ) × (k < n) × (0 < f k)
sum_has zero f h = absurd (omega arith)
sum_has (suc n) f h = go (f n) refl (λ l. sum_has n f l)
  where
    go : (v : ℕ) → f n ≡ v → (0 < sum_to n f → (k : ℕ) × (k < n) × (0 < f k)) → (k : ℕ) × (k < suc n) × (0 < f k)
    go zero e r = let q = r (omega arith) in (q.0, omega (arith, q.1), q.2)
    go (suc v) e r = (n, omega arith, omega arith)

-- the same at a point update: what the sum gains and loses
pub sum_put : {A : Type 0} (n o : ℕ) (w : A → ℕ) (f : ℕ → A) (v : A) → o < n → sum_to n (λ p. w (put f o v p)) + w (f o) ≡ sum_to n (λ p. w (f p)) + w v
sum_put n o w f v h =
    let e : w (put f o v o) ≡ w v = rw (same o) in
    omega (arith, e, sum_point n o (λ p. w (put f o v p)) (λ p. w (f p)) h (λ k ne. rw (ne_eqb k o ne)))

-- ---- counts

pub count_cons : (y x : ℕ) (l : List ℕ) → count y (x ∷ l) ≡ count y (x ∷ []) + count y l
count_cons y x l = go (eqb y x) refl
  where
    go : (b : Bool) → eqb y x ≡ b → count y (x ∷ l) ≡ count y (x ∷ []) + count y l
    go true e = rw e (omega arith)
    go false e = rw e (omega arith)

pub count_append : (y : ℕ) (l m : List ℕ) → count y (l ++ m) ≡ count y l + count y m
count_append y [] m = omega arith
count_append y (x ∷ l) m = omega (arith, count_cons y x (l ++ m), count_cons y x l, count_append y l m)

pub count_here : (x : ℕ) (l : List ℕ) → 0 < count x (x ∷ l)
count_here x l = rw (same x) (omega arith)

pub count_other : (y x : ℕ) → (y ≡ x → ⊥) → count y (x ∷ []) ≡ 0
count_other y x ne = rw (ne_eqb y x ne)

pub count_length : (y : ℕ) (l : List ℕ) → count y l ≤ length l
count_length y [] = omega arith
count_length y (x ∷ l) = cond_both (eqb y x) (suc (count y l)) (count y l) (λ n. n ≤ suc (length l)) (λ e. omega (arith, count_length y l)) (λ e. omega (arith, count_length y l))

-- one place of a list gets another content
pub count_set : (y : ℕ) (l : List ℕ) (k c : ℕ) → k < length l → count y (set l k c) + count y (get_or l k 0 ∷ []) ≡ count y l + count y (c ∷ [])
count_set y [] k c h = absurd (omega arith)
count_set y (x ∷ xs) zero c h = omega (arith, count_cons y c xs, count_cons y x xs)
count_set y (x ∷ xs) (suc k) c h = omega (arith, count_cons y x (set xs k c), count_cons y x xs, count_set y xs k c (omega arith))

pub length_without : (x : ℕ) (l : List ℕ) → length (without x l) ≤ length l
length_without x [] = omega arith
length_without x (y ∷ ys) = cond_both (eqb y x) ys (y ∷ without x ys) (λ (w : List ℕ). length w ≤ suc (length ys)) (λ e. omega arith) (λ e. omega (arith, length_without x ys))
