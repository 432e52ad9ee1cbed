-- The class rows of the lists.
use Rattle.std.specs.Prelude.{true, false, List, [], ◌∷◌, ◌++◌}
use Rattle.classes.specs.Rows.{Class}

-- those of a list runner: plain weak references, two slots, a del of its own, the ancestor 3, weak
abbrev pub runner_rows : List Class
runner_rows =
    record { members = 0; dictionary = false; weak = true; immutable = true; del = false; ancestors = [] }
    ∷ record { members = 2; dictionary = false; weak = false; immutable = false; del = false; ancestors = [] }
    ∷ record { members = 0; dictionary = false; weak = false; immutable = false; del = true; ancestors = [] }
    ∷ record { members = 0; dictionary = false; weak = false; immutable = false; del = false; ancestors = 3 ∷ [] }
    ∷ record { members = 0; dictionary = false; weak = true; immutable = false; del = false; ancestors = [] }
    ∷ []

-- these, and more: dictionaries, weak classes with slots and a del, rows with several ancestors
abbrev pub wide_rows : List Class
wide_rows =
    runner_rows ++ (record { members = 0; dictionary = true; weak = true; immutable = false; del = false; ancestors = [] }
    ∷ record { members = 1; dictionary = false; weak = true; immutable = false; del = true; ancestors = [] }
    ∷ record { members = 2; dictionary = true; weak = true; immutable = false; del = false; ancestors = 3 ∷ [] }
    ∷ record { members = 8; dictionary = true; weak = false; immutable = true; del = true; ancestors = [] }
    ∷ record { members = 1; dictionary = false; weak = false; immutable = false; del = false; ancestors = 4 ∷ 2 ∷ 3 ∷ [] }
    ∷ record { members = 0; dictionary = false; weak = false; immutable = false; del = false; ancestors = 11 ∷ 10 ∷ 2 ∷ 4 ∷ [] }
    ∷ [])
