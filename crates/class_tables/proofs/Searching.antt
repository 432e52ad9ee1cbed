-- The search for a del.
use Rattle.std.proofs.Common.{◌≡◌, ℕ, zero, suc, List, [], ◌∷◌, ◌++◌, replicate, false, refl, sym, ap, ◌∙◌, arith}
use Rattle.std.specs.List.{find}
use Rattle.std.specs.Option.{unwrap_or}
use Rattle.std.proofs.lemmas.Bool.{cond-false}
use Rattle.std.proofs.lemmas.Grind.{common_steps}
use Rattle.classes.specs.Rows.{Class, class_at, first_del, find_del}

-- 0 is no class, and has no del
no_dels : (rows : List Class) (n : ℕ) → first_del rows (replicate n 0) ≡ 0
no_dels rows zero = refl
no_dels rows (suc n) = no_dels rows n

first_of_kept : (rows : List Class) (cs : List ℕ) (n : ℕ) → unwrap_or (find (λ c. (class_at rows c).del) cs) 0 ≡ first_del rows (cs ++ replicate n 0)
first_of_kept rows [] n = sym (no_dels rows n)
first_of_kept rows (c ∷ cs) n = let ih = first_of_kept rows cs n in grind (arith, common_steps)

-- a class that has no del of its own runs that of its first ancestor that has one
pub by_ancestors : (rows : List Class) (c : ℕ) (k : Class) (cs : List ℕ) (n : ℕ) → k ≡ class_at rows c → k.del ≡ false → k.ancestors ≡ cs ++ replicate n 0
    → unwrap_or (find (λ c. (class_at rows c).del) cs) 0 ≡ find_del rows c
by_ancestors rows c k cs n is none kept =
    first_of_kept rows cs n
    ∙ ap (first_del rows) (sym kept ∙ ap (λ (k : Class). k.ancestors) is)
    ∙ sym (cond-false (class_at rows c).del c (first_del rows (class_at rows c).ancestors) (ap (λ (k : Class). k.del) (sym is) ∙ none))
