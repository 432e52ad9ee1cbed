-- What a class table means: rows, numbered from 1.
use Rattle.std.specs.Prelude.{ℕ, zero, suc, Bool, true, false, cond, not, ◌&&◌, List, [], ◌∷◌, length, Ok, Err, Result, ◌==◌, nat_le, nat_lt, slice_index_or, slice_set}
use Rattle.refusal.specs.declared.Fault.{Fault}
use Rattle.refusal.specs.declared.Refusal.TheVariants.{NoClass, FixedClass}

-- a row: how many slots objects of the class have, whether they have a dictionary, whether the class is weak,
-- whether it is immutable, whether it has a del of its own, and its ancestors in the order in which they are tried
pub record Class : Type 0 where
  pub members : ℕ
  pub dictionary : Bool
  pub weak : Bool
  pub immutable : Bool
  pub del : Bool
  pub ancestors : List ℕ

-- what stands where there is no row
abbrev pub no_class : Class
no_class = record { members = 0; dictionary = false; weak = false; immutable = false; del = false; ancestors = [] }

-- the row of a class
abbrev pub class_at : List Class → ℕ → Class
class_at rows zero = no_class
class_at rows (suc i) = slice_index_or rows i no_class

-- the class is the number of a row
abbrev pub known : List Class → ℕ → Bool
known rows c = nat_lt 0 c && nat_le c (length rows)

-- the first of some classes that has a del of its own, or 0
abbrev pub first_del : List Class → List ℕ → ℕ
first_del rows [] = 0
first_del rows (c ∷ cs) = cond (class_at rows c).del c (first_del rows cs)

-- the class whose del objects of a class run: the class itself, or its first ancestor that has one, or 0
abbrev pub find_del : List Class → ℕ → ℕ
find_del rows c = first_del rows (c ∷ (class_at rows c).ancestors)

-- the rows with one own del flag changed
abbrev pub with_flag : Class → Bool → Class
with_flag k b = record { members = k.members; dictionary = k.dictionary; weak = k.weak; immutable = k.immutable; del = b; ancestors = k.ancestors }

abbrev pub with_del : List Class → ℕ → Bool → List Class
with_del rows zero b = rows
with_del rows (suc i) b = slice_set rows i (with_flag (slice_index_or rows i no_class) b)

-- set del: what it answers, and the rows after it
abbrev pub set_del : List Class → ℕ → Result Unit Fault
set_del rows c =
    cond (not (known rows c)) (Err (record { refusal = NoClass; argument = 1 }))
    (cond (class_at rows c).immutable (Err (record { refusal = FixedClass; argument = 1 }))
    (Ok tt))

abbrev pub after_set_del : List Class → ℕ → Bool → List Class
after_set_del rows c b = cond (known rows c && not (class_at rows c).immutable) (with_del rows c b) rows

-- ---- rows that a core can be opened with

abbrev pub all_known : List Class → List ℕ → Bool
all_known rows [] = true
all_known rows (c ∷ cs) = known rows c && all_known rows cs

-- at most 8 members, and at most 8 ancestors, each the number of a row
abbrev pub good_row : List Class → Class → Bool
good_row rows k = nat_le k.members 8 && (nat_le (length k.ancestors) 8 && all_known rows k.ancestors)

abbrev pub all_good : List Class → List Class → Bool
all_good rows [] = true
all_good rows (k ∷ ks) = good_row rows k && all_good rows ks

-- the class of plain weak references: weak, immutable, and nothing else
abbrev pub plain_weak : Class → Bool
plain_weak k = k.weak && (k.immutable && (k.members == 0 && (not k.dictionary && (not k.del && length k.ancestors == 0))))

-- there is a row, the first is the class of plain weak references, and each is good
abbrev pub good_rows : List Class → Bool
good_rows rows = nat_lt 0 (length rows) && (plain_weak (class_at rows 1) && all_good rows rows)
