-- An answer that is looked up.
use Rattle.std.proofs.Common.{◌≡◌, ℕ, List, [], ◌∷◌, Some, arith}
use Rattle.class_layer.specs.declared.answers.Answer.{Answer}
use Rattle.classes.specs.Rows.{Class, find_del}
use Rattle.class_layer.specs.Layer.{looked_up, Right}

-- what is found is what find del answers
pub found_right : (rows : List Class) (kept : List Answer) (c d : ℕ) → Right rows kept → looked_up kept c ≡ Some d → d ≡ find_del rows c
found_right rows [] c d right e = cc
found_right rows (a ∷ as') c d right e = let ih = found_right rows as' c d right.1 in grind arith
