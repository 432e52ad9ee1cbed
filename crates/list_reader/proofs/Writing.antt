-- What is written is read back.
use Rattle.std.proofs.Common.{◌≡◌, ℕ, zero, suc, ◌^◌, ◌<◌, ◌≤◌, true, false, leb, List, [], ◌∷◌, ◌++◌, map, length, Some, decimal, sym, refl, ap, ◌∙◌, arith, rules}
use Rattle.std.proofs.lemmas.Fmt.{decimal_nonempty, digits_decimal, digits_value-decimal}
use Rattle.std.proofs.lemmas.Str.Parse.{IsNumeralModel, numerals_by_fold}
use Rattle.std.proofs.lemmas.Bool.{lt-ltb, leb-true, and_parts}
use Rattle.std.proofs.ByRecursion.{All-append}
use Rattle.std.proofs.lemmas.List.{append-nil}
use Rattle.std.specs.List.{AllByRecursion}
use Rattle.list_words.specs.Numbers.{digit, digits, value, number}
use Rattle.list_words.specs.Pieces.{lines, words, counted, ended, Without}
use Rattle.list_words.proofs.Joins.{piece, last_word, split_again}
use Rattle.list_reader.specs.Calls.{Call, Attend, Make, Hold, Drop, Weaken, Upgrade, Intern, HandBack, Said, Asks, says, by_words, numbers}
use Rattle.list_reader.specs.Written.{spaced, written, Small, Fits, ListBack}

own : IsNumeralModel (λ ds. digits ds ≡ true) (value 0)
own = numerals_by_fold _ (search rules) value (search rules)

number_some : (w : List ℕ) → 0 < length w → digits w ≡ true → value 0 w < 2 ^ 32 → number w ≡ Some (value 0 w)
number_some [] l d s = absurd (omega arith)
number_some (b ∷ bs) l d s = rw (d, lt-ltb (value 0 (b ∷ bs)) (2 ^ 32) s) refl

pub number_decimal : (n : ℕ) → Small n → number (decimal n) ≡ Some n
number_decimal n h =
    let e = digits_value-decimal own n (omega arith) in
    number_some (decimal n) (decimal_nonempty n (omega arith)) (digits_decimal own n (omega arith)) (omega (arith, e)) ∙ ap Some e

-- ---- words
digits_apart : (s : ℕ) (ds : List ℕ) → s < 48 → digits ds ≡ true → Without s ds
digits_apart s [] l h = tt
digits_apart s (d ∷ ds) l h =
    let p = and_parts (digit d) (digits ds) h in
    let q = and_parts (leb 48 d) (leb d 57) p.0 in
    (λ e. absurd (omega (arith, leb-true 48 d q.0, e)), digits_apart s ds l p.1)

decimal_apart : (s n : ℕ) → s < 48 → Small n → Without s (decimal n)
decimal_apart s n l h = digits_apart s (decimal n) l (digits_decimal own n (omega arith))

words_spaced : (w ns : List ℕ) → Without 32 w → AllByRecursion Small ns → words (w ++ spaced ns) ≡ w ∷ map decimal ns
words_spaced w [] h small = rw append-nil (last_word 32 w h)
words_spaced w (n ∷ ns) h small =
    piece 32 ([] ∷ []) w (decimal n ++ spaced ns) h ∙ ap (λ (ws : List (List ℕ)). w ∷ ws) (words_spaced (decimal n) ns (decimal_apart 32 n (omega arith) small.0) small.1)

-- ---- numbers
numbers_back : (most : ℕ) (ns : List ℕ) (then : List ℕ → Said) → length ns ≤ most → AllByRecursion Small ns → numbers most (map decimal ns) then ≡ then ns
numbers_back zero [] then l h = refl
numbers_back (suc most) [] then l h = refl
numbers_back zero (n ∷ ns) then l h = absurd (omega arith)
numbers_back (suc most) (n ∷ ns) then l h = rw (number_decimal n h.0) (numbers_back most ns (λ ms. then (n ∷ ms)) (omega arith) h.1)

-- ---- calls
not_32 : (c : ℕ) → 32 < c → Without 32 (c ∷ [])
not_32 c h = (λ e. absurd (omega (arith, e)), tt)

back : (c : ℕ) (ns : List ℕ) → 32 < c → AllByRecursion Small ns → says (c ∷ spaced ns) ≡ by_words ((c ∷ []) ∷ map decimal ns)
back c ns h small = ap by_words (words_spaced (c ∷ []) ns (not_32 c h) small)

calls_back : (call : Call) → Fits call → says (written call) ≡ Asks call
calls_back (Attend true) f = back 97 (1 ∷ []) (omega arith) (omega arith, tt) ∙ rw (number_decimal 1 (omega arith)) refl
calls_back (Attend false) f = back 97 (0 ∷ []) (omega arith) (omega arith, tt) ∙ rw (number_decimal 0 (omega arith)) refl
calls_back (Make class dictionary edges) f =
    back 109 (class ∷ dictionary ∷ edges) (omega arith) (f.0, (f.1, f.2))
    ∙ rw (number_decimal class f.0, number_decimal dictionary f.1) (numbers_back 8 edges (λ es. Asks (Make class dictionary es)) f.3 f.2)
calls_back (Hold object) f = back 104 (object ∷ []) (omega arith) (f, tt) ∙ rw (number_decimal object f) refl
calls_back (Drop object) f = back 100 (object ∷ []) (omega arith) (f, tt) ∙ rw (number_decimal object f) refl
calls_back (Weaken class object callback) f =
    back 119 (class ∷ object ∷ callback ∷ []) (omega arith) (f.0, (f.1, (f.2, tt))) ∙ rw (number_decimal class f.0, number_decimal object f.1, number_decimal callback f.2) refl
calls_back (Upgrade reference) f = back 117 (reference ∷ []) (omega arith) (f, tt) ∙ rw (number_decimal reference f) refl
calls_back (Intern object) f = back 105 (object ∷ []) (omega arith) (f, tt) ∙ rw (number_decimal object f) refl
calls_back (HandBack turn) f = back 98 (turn ∷ []) (omega arith) (f, tt) ∙ rw (number_decimal turn f) refl

-- ---- a whole list
spaced_apart : (ns : List ℕ) → AllByRecursion Small ns → Without 10 (spaced ns)
spaced_apart [] h = tt
spaced_apart (n ∷ ns) h = (λ e. absurd (omega (arith, e)), All-append (λ b. b ≡ 10 → ⊥) (decimal n) (spaced ns) (decimal_apart 10 n (omega arith) h.0) (spaced_apart ns h.1))

line_apart : (c : ℕ) (ns : List ℕ) → 32 < c → AllByRecursion Small ns → Without 10 (c ∷ spaced ns)
line_apart c ns l h = (λ e. absurd (omega (arith, e)), spaced_apart ns h)

written_apart : (call : Call) → Fits call → Without 10 (written call)
written_apart (Attend true) f = line_apart 97 (1 ∷ []) (omega arith) (omega arith, tt)
written_apart (Attend false) f = line_apart 97 (0 ∷ []) (omega arith) (omega arith, tt)
written_apart (Make class dictionary edges) f = line_apart 109 (class ∷ dictionary ∷ edges) (omega arith) (f.0, (f.1, f.2))
written_apart (Hold object) f = line_apart 104 (object ∷ []) (omega arith) (f, tt)
written_apart (Drop object) f = line_apart 100 (object ∷ []) (omega arith) (f, tt)
written_apart (Weaken class object callback) f = line_apart 119 (class ∷ object ∷ callback ∷ []) (omega arith) (f.0, (f.1, (f.2, tt)))
written_apart (Upgrade reference) f = line_apart 117 (reference ∷ []) (omega arith) (f, tt)
written_apart (Intern object) f = line_apart 105 (object ∷ []) (omega arith) (f, tt)
written_apart (HandBack turn) f = line_apart 98 (turn ∷ []) (omega arith) (f, tt)

all_apart : (calls : List Call) → AllByRecursion Fits calls → AllByRecursion (Without 10) (map written calls)
all_apart [] f = tt
all_apart (c ∷ cs) f = (written_apart c f.0, all_apart cs f.1)

all_back : (calls : List Call) → AllByRecursion Fits calls → map says (map written calls) ≡ map Asks calls
all_back [] f = refl
all_back (c ∷ cs) f = ap (λ (x : Said). x ∷ map says (map written cs)) (calls_back c f.0) ∙ ap (λ (xs : List Said). Asks c ∷ xs) (all_back cs f.1)

pub list_back : (bs : List ℕ) (said : List Said) → said ≡ map says (lines (counted bs)) → ListBack bs said
list_back bs said e calls f eb short =
    let all = all_apart calls f in
    e
    ∙ ap (map says) (split_again bs (lines (counted bs)) refl (map written calls) [] all tt (eb ∙ sym (append-nil (ended (map written calls)))) short ∙ append-nil (map written calls))
    ∙ all_back calls f
