-- What the ancestors that are kept mean.
use Rattle.std.specs.Prelude.{ℕ, ◌-◌, List, ◌++◌, take, replicate}
use Rattle.class_tables.specs.declared.types.Ancestors.{Ancestors}

-- those kept, and 0 in place of each one beyond
abbrev pub ancestors_of : Ancestors → List ℕ
ancestors_of a = take a.count a.first ++ replicate (a.count - 8) 0
