-- The rows of the settled table.
use Rattle.std.specs.Prelude.{List}
use Rattle.classes.specs.Rows.{Class}
use Rattle.class_tables.specs.Kept.{rows_of}
use Rattle.class_settled.specs.declared.table.SettledTable.{SettledTable}

abbrev pub settled_rows : SettledTable → List Class
settled_rows t = rows_of t.rows
