-- The meanings of the payloads.
use Rattle.std.specs.Prelude.{ℕ, true, false, List, [], ◌∷◌, take}
use Rattle.payload.specs.Meaning.{Meaning}
use Rattle.payload.specs.declared.kinds.Note.{Note}
use Rattle.payload.specs.declared.kinds.Cell.{Cell}
use Rattle.payload.specs.declared.kinds.Row.{Row}
use Rattle.payload.specs.declared.kinds.Mixed.{Mixed}
use Rattle.payload.specs.declared.kinds.Mixed.TheVariants.{Left, Right}

-- by their edges
abbrev pub a_note : Meaning
a_note = record { kind = 2; traced = false; edges = [] }

abbrev pub a_cell : ℕ → Meaning
a_cell e = record { kind = 3; traced = false; edges = e ∷ [] }

abbrev pub a_row : List ℕ → Meaning
a_row es = record { kind = 4; traced = true; edges = es }

-- as they are kept
abbrev pub note_meaning : Note → Meaning
note_meaning n = a_note

abbrev pub cell_meaning : Cell → Meaning
cell_meaning c = a_cell c.edge

abbrev pub row_meaning : Row → Meaning
row_meaning r = a_row (take r.width r.edges)

-- a mixed payload means what it holds
abbrev pub mixed_meaning : {A B : Type 0} → (A → Meaning) → (B → Meaning) → Mixed A B → Meaning
mixed_meaning f g (Left a) = f a
mixed_meaning f g (Right b) = g b
