-- The number of each refusal.
use Rattle.std.specs.Prelude.{ℕ}
use Rattle.refusal.specs.declared.Refusal.{Refusal}
use Rattle.refusal.specs.declared.Refusal.TheVariants.{BadTable, NoSuch, Dying, NotYours, NoClass, WrongClass, FixedClass, NotWeak, NoPlace, BrokenClass, Marked, CountFull, NoRoom, BirthsSpent, NotNewest, ListShort}

abbrev pub number : Refusal → ℕ
number BadTable = 1
number NoSuch = 2
number Dying = 3
number NotYours = 4
number NoClass = 5
number WrongClass = 6
number FixedClass = 7
number NotWeak = 8
number NoPlace = 9
number BrokenClass = 10
number Marked = 11
number CountFull = 12
number NoRoom = 13
number BirthsSpent = 14
number NotNewest = 15
number ListShort = 16
