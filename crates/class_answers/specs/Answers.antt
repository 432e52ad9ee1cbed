-- What a class table answers, from its rows.
use Rattle.std.specs.Prelude.{List, [], ◌∷◌, length, slice_index}
use Rattle.classes.specs.Rows.{Class, class_at, find_del, set_del, after_set_del}
use Rattle.classes.specs.Entries.{entries_of}
use Rattle.class_answers.specs.declared.asking.Answer.{Answer}
use Rattle.class_answers.specs.declared.asking.Answer.TheVariants as answer
use Rattle.class_answers.specs.declared.asking.Request.{Request}
use Rattle.class_answers.specs.declared.asking.Request.TheVariants.{Last, Entries, Members, HasDictionary, IsWeak, IsImmutable, HasDel, AncestorCount, Ancestor, FindDel, SetDel}

abbrev pub answer_of : List Class → Request → Answer
answer_of rows Last = answer.Number (length rows)
answer_of rows (Entries c) = answer.Entries (entries_of (class_at rows c))
answer_of rows (Members c) = answer.Number (class_at rows c).members
answer_of rows (HasDictionary c) = answer.Flag (class_at rows c).dictionary
answer_of rows (IsWeak c) = answer.Flag (class_at rows c).weak
answer_of rows (IsImmutable c) = answer.Flag (class_at rows c).immutable
answer_of rows (HasDel c) = answer.Flag (class_at rows c).del
answer_of rows (AncestorCount c) = answer.Count (length (class_at rows c).ancestors)
answer_of rows (Ancestor c i) = answer.Number (slice_index (class_at rows c).ancestors i)
answer_of rows (FindDel c) = answer.Number (find_del rows c)
answer_of rows (SetDel c b) = answer.SetDel (set_del rows c)

-- only a set del changes rows
abbrev pub rows_after : List Class → Request → List Class
rows_after rows (SetDel c b) = after_set_del rows c b
rows_after rows Last = rows
rows_after rows (Entries c) = rows
rows_after rows (Members c) = rows
rows_after rows (HasDictionary c) = rows
rows_after rows (IsWeak c) = rows
rows_after rows (IsImmutable c) = rows
rows_after rows (HasDel c) = rows
rows_after rows (AncestorCount c) = rows
rows_after rows (Ancestor c i) = rows
rows_after rows (FindDel c) = rows

-- one request after another
abbrev pub answers_of : List Class → List Request → List Answer
answers_of rows [] = []
answers_of rows (r ∷ rs) = answer_of rows r ∷ answers_of (rows_after rows r) rs

abbrev pub rows_after_all : List Class → List Request → List Class
rows_after_all rows [] = rows
rows_after_all rows (r ∷ rs) = rows_after_all (rows_after rows r) rs
