-- The meaning of each payload is a proper one.
use Rattle.std.proofs.Common.{arith, length-take}
use Rattle.std.proofs.ByRecursion.{All-take}
use Rattle.std.proofs.lemmas.List.Elements.{recursion_from_All}
use Rattle.payload.specs.Meaning.{Meaning, Proper}
use Rattle.payload.specs.Kinds.{note_meaning, cell_meaning, row_meaning, mixed_meaning}
use Rattle.payload.specs.declared.kinds.Note.{Note}
use Rattle.payload.specs.declared.kinds.Cell.{Cell}
use Rattle.payload.specs.declared.kinds.Row.{Row}
use Rattle.payload.specs.declared.kinds.Mixed.{Mixed}
use Rattle.payload.specs.declared.kinds.Mixed.TheVariants.{Left, Right}

pub note_proper : (note : Note) → Proper (note_meaning note)
note_proper note = record { above = omega arith; few = omega arith; names = tt }

pub cell_proper : (cell : Cell) → Proper (cell_meaning cell)
cell_proper cell = record { above = omega arith; few = omega arith; names = (cell.name, tt) }

pub row_proper : (row : Row) → Proper (row_meaning row)
row_proper row = record {
  above = omega arith;
  few = simp length-take (omega arith);
  names = All-take _ row.width row.edges (recursion_from_All _ row.edges row.names);
}

pub mixed_proper :
    {A B : Type 0} (f : A → Meaning) (g : B → Meaning)
    → ((a : A) → Proper (f a))
    → ((b : B) → Proper (g b))
    → (mixed : Mixed A B)
    → Proper (mixed_meaning f g mixed)
mixed_proper f g left right (Left a) = left a
mixed_proper f g left right (Right b) = right b
