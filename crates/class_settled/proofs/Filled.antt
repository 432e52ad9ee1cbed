-- What `from_fn` gives, at any place.
use Rattle.std.proofs.Common.{◌≡◌, ℕ, zero, suc, ◌+◌, ◌<◌, ◌≤◌, List, get_or, sym, subst, ⊎_elim, arith}
use Rattle.std.specs.Array.{IsFromFnResultFrom, IsFromFnResult}
use Rattle.std.specs.Fn.{Called}
use Rattle.std.proofs.lemmas.Bool.{cases_eq}
use denote.Param.Members.{Mut}

-- calls that leave the closure as it was, at the numbers below m
module _ {F B : Type 0} (g : Mut F (ℕ × Unit {0}) B) (f : F) (R : ℕ → B → Type 0) (m : ℕ) (call : (i : ℕ) (y : B) (q : F) → i < m → Called g f (i, tt) y q → (q ≡ f) × R i y) where
  at_each : (ys : List B) (n i k : ℕ) (d : B) → IsFromFnResultFrom g f ys i n → i + n ≡ m → i ≤ k → k < m → R k (get_or ys k d)
  at_each ys zero i k d e all low high = absurd (omega arith)
  at_each ys (suc n) i k d e all low high =
      let here = call i e.1 e.0 (omega arith) e.3 in
      ⊎_elim
      (λ same. subst (λ j. R j (get_or ys j d)) same (subst (R i) (sym (e.2.1 d)) here.1))
      (λ other. at_each ys n (i + 1) k d (subst (λ p. IsFromFnResultFrom g p ys (i + 1) n) here.0 e.4) (omega arith) (omega arith) high)
      (cases_eq i k)

  pub gives : (ys : List B) → IsFromFnResult g f ys m → (k : ℕ) (d : B) → k < m → R k (get_or ys k d)
  gives ys made k d h = at_each ys m 0 k d made.each (omega arith) (omega arith) h
