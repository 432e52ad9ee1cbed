-- One row rewritten.
use Rattle.std.proofs.Common.{◌≡◌, ℕ, zero, suc, ◌-◌, ◌<◌, ◌≤◌, Bool, true, false, List, map, length, get_or, take, set, sym, ap, ◌∙◌, arith, length-take}
use lib.Seq.{take-set-lt}
use Rattle.std.proofs.lemmas.Bool.{false≢true}
use Rattle.std.proofs.lemmas.List.{get_or-map, get_or-take, length-map, map-set}
use Rattle.classes.specs.Rows.{Class, no_class, class_at, known, with_flag, after_set_del}
use Rattle.class_tables.specs.Kept.{class_of, rows_of}
use Rattle.class_tables.specs.declared.types.ClassRow.{ClassRow}
use Rattle.class_tables.specs.declared.types.SearchingTable.{SearchingTable}

abbrev flagged : ClassRow → Bool → ClassRow
flagged r b = record { members = r.members; dictionary = r.dictionary; weak = r.weak; immutable = r.immutable; del = b; ancestors = r.ancestors }

after_set : (ks : List Class) (c : ℕ) (b : Bool) → known ks c ≡ true → (class_at ks c).immutable ≡ false → set ks (c - 1) (with_flag (get_or ks (c - 1) no_class) b) ≡ after_set_del ks c b
after_set ks zero b e f = absurd (false≢true e)
after_set ks (suc i) b e f = let p : suc i - 1 ≡ i = omega arith in rw p (grind arith)

pub row_set : (t : SearchingTable) (c : ℕ) (b : Bool) (d : ClassRow) → known (rows_of t) c ≡ true → (class_at (rows_of t) c).immutable ≡ false
    → map class_of (take t.last (set t.rows (c - 1) (flagged (get_or t.rows (c - 1) d) b))) ≡ after_set_del (rows_of t) c b
row_set t c b d is fixed =
    let i = c - 1 in
    let rows = take t.last t.rows in
    let h : 0 < c = grind arith in
    let long : length (rows_of t) ≡ t.last = simp (length-map, length-take) (omega (arith, t.few, t.room)) in
    let k : c ≤ length (rows_of t) = grind arith in
    let low : i < t.last = omega (arith, h, k, long) in
    let row : class_of (get_or t.rows i d) ≡ get_or (rows_of t) i no_class =
    ap class_of (sym (get_or-take t.last t.rows i d low)) ∙ sym (get_or-map class_of rows i d no_class (simp length-take (omega (arith, low, t.few, t.room)))) in
    ap (map class_of) (take-set-lt t.last t.rows i (flagged (get_or t.rows i d) b) low)
    ∙ map-set class_of rows i (flagged (get_or t.rows i d) b)
    ∙ ap (λ (r : Class). set (rows_of t) i (with_flag r b)) row
    ∙ after_set (rows_of t) c b is fixed
