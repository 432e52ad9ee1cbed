-- The tests of rows, by places.
use Rattle.std.proofs.Common.{◌≡◌, ℕ, ◌+◌, Bool, ◌&&◌, List, [], ◌∷◌, length, get_or, sym, refl, ap, ◌∙◌, add-one}
use Rattle.std.specs.List.{list_all, range_with_len}
use Rattle.std.proofs.lemmas.List.Folds.{list_all-map}
use Rattle.std.proofs.lemmas.List.FromFn.{fill_by_all}
use Rattle.classes.specs.Rows.{Class, no_class, class_at, known, all_known, good_row, all_good}

by_place : {X : Type 0} (p : X → Bool) (xs : List X) (d : X) → list_all (λ i. p (get_or xs i d)) (range_with_len 0 (length xs)) ≡ list_all p xs
by_place p xs d =
    sym (list_all-map p (λ i. get_or xs i d) (range_with_len 0 (length xs)))
    ∙ ap (list_all p) (sym (fill_by_all (λ i. get_or xs i d) xs (length xs) d refl (λ k h. refl)))

known_each : (rows : List Class) (cs : List ℕ) → list_all (known rows) cs ≡ all_known rows cs
known_each rows [] = refl
known_each rows (c ∷ cs) = ap (λ (b : Bool). known rows c && b) (known_each rows cs)

good_each : (rows ks : List Class) → list_all (good_row rows) ks ≡ all_good rows ks
good_each rows [] = refl
good_each rows (k ∷ ks) = ap (λ (b : Bool). good_row rows k && b) (good_each rows ks)

pub known_by_place : (rows : List Class) (cs : List ℕ) → list_all (λ i. known rows (get_or cs i 0)) (range_with_len 0 (length cs)) ≡ all_known rows cs
known_by_place rows cs = by_place (known rows) cs 0 ∙ known_each rows cs

pub good_by_place : (rows : List Class) → list_all (λ i. good_row rows (get_or rows i no_class)) (range_with_len 0 (length rows)) ≡ all_good rows rows
good_by_place rows = by_place (good_row rows) rows no_class ∙ good_each rows rows

pub class_at_next : (rows : List Class) (i : ℕ) → class_at rows (i + 1) ≡ get_or rows i no_class
class_at_next rows i = ap (class_at rows) (add-one i)
