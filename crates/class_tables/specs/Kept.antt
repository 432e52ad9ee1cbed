-- The rows that a table keeps.
use Rattle.std.specs.Prelude.{◌≡◌, ℕ, ◌-◌, ◌<◌, ◌≤◌, List, ◌++◌, map, length, take, replicate, true, false, Ok, Err, Result}
use Rattle.refusal.specs.declared.Fault.{Fault}
use Rattle.refusal.specs.declared.Refusal.TheVariants.{BadTable}
use Rattle.classes.specs.Rows.{Class, no_class, class_at, known}
use Rattle.class_tables.specs.Ancestors.{ancestors_of}
use Rattle.class_tables.specs.declared.types.ClassRow.{ClassRow}
use Rattle.class_tables.specs.declared.types.SearchingTable.{SearchingTable}

-- the first 8 of some ancestors, and 0 in place of each one beyond
abbrev pub first_eight : List ℕ → List ℕ
first_eight given = take 8 given ++ replicate (length given - 8) 0

abbrev pub class_of : ClassRow → Class
class_of r = record { members = r.members; dictionary = r.dictionary; weak = r.weak; immutable = r.immutable; del = r.del; ancestors = ancestors_of r.ancestors }

abbrev pub rows_of : SearchingTable → List Class
rows_of t = map class_of (take t.last t.rows)

-- a class is the number of this row, or of none
abbrev pub Has : List Class → ℕ → Class → Type 0
Has rows c k = (known rows c ≡ true) × (k ≡ class_at rows c)

abbrev pub HasNone : List Class → ℕ → Type 0
HasNone rows c = (known rows c ≡ false) × (class_at rows c ≡ no_class)

-- a table is built of up to 64 rows, and means them; more are refused
abbrev pub Builds : {T : Type 0} → (T → List Class) → List ClassRow → Result T Fault → Type 0
Builds means given (Ok t) = (length given ≤ 64) × (means t ≡ map class_of given)
Builds means given (Err e) = (64 < length given) × (e ≡ record { refusal = BadTable; argument = 0 })
