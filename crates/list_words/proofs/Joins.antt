-- Pieces joined by separators are cut at them again.
use Rattle.std.proofs.Common.{◌≡◌, ℕ, List, [], ◌∷◌, ◌++◌, refl, ap, ◌∙◌, append_assoc}
use Rattle.std.proofs.lemmas.List.{take_all}
use Rattle.std.proofs.lemmas.Bool.{eq-eqb, ne_eqb}
use Rattle.std.specs.List.{AllByRecursion}
use Rattle.list_words.specs.Pieces.{joined, pieces, lines, counted, ended, final, Without, SplitAgain}

pub piece : (s : ℕ) (last : List (List ℕ)) (w rest : List ℕ) → Without s w → pieces s last (w ++ (s ∷ rest)) ≡ w ∷ pieces s last rest
piece s last [] rest h = rw (eq-eqb s s refl) refl
piece s last (b ∷ w) rest h = rw (ne_eqb b s h.0) (ap (joined b) (piece s last w rest h.1))

pub last_word : (s : ℕ) (w : List ℕ) → Without s w → pieces s ([] ∷ []) w ≡ w ∷ []
last_word s [] h = refl
last_word s (b ∷ w) h = rw (ne_eqb b s h.0) (ap (joined b) (last_word s w h.1))

pub last_line : (s : ℕ) (w : List ℕ) → Without s w → pieces s [] w ≡ final w
last_line s [] h = refl
last_line s (b ∷ []) h = rw (ne_eqb b s h.0) refl
last_line s (b ∷ c ∷ w) h = rw (ne_eqb b s h.0) (ap (joined b) (last_line s (c ∷ w) h.1))

lines_ended : (ls : List (List ℕ)) (last : List ℕ) → AllByRecursion (Without 10) ls → Without 10 last → lines (ended ls ++ last) ≡ ls ++ final last
lines_ended [] last h hl = last_line 10 last hl
lines_ended (l ∷ ls) last h hl =
    ap lines (append_assoc l (10 ∷ ended ls) last) ∙ piece 10 [] l (ended ls ++ last) h.0 ∙ ap (λ (ws : List (List ℕ)). l ∷ ws) (lines_ended ls last h.1 hl)

pub split_again : (bs : List ℕ) (split : List (List ℕ)) → split ≡ lines (counted bs) → SplitAgain bs split
split_again bs split e ls last h hl eb short = e ∙ ap lines (take_all 65536 bs short ∙ eb) ∙ lines_ended ls last h hl
