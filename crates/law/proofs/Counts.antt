-- What the invariant says of counts; that an opened core has it; that the newest turn can be handed back.
use Rattle.std.proofs.Common.{◌≡◌, ℕ, zero, suc, ◌+◌, ◌<◌, ◌≤◌, true, false, not, ◌&&◌, eqb, ltb, List, [], length, None, refl, inl, arith}
use Rattle.std.proofs.lemmas.Bool.{eqb-false, ne_eqb, and_parts, not-true, ltb-false, le-ltb}
use Rattle.classes.specs.Rows.{Class, class_at, all_good, good_rows, plain_weak}
use Rattle.definition.specs.Base.{bit, sum_to}
use Rattle.definition.specs.State.{Phase, Absent, Resting, DelOpen, Taking, Draining, Calling, Freeing, Leaving, State, is_live}
use Rattle.definition.specs.Opening.{can_open, opening}
use Rattle.definition.specs.Calls.{HandBack, refusal}
use Rattle.definition.proofs.Sums.{same, count_other}
use Rattle.law.specs.Events.{Live}
use Rattle.law.specs.Law.{named_by, references, Counted}
use Rattle.law.proofs.Invariant.{Falling, placed_by, lent_by, placed, lent, unfreed_sum, open_sum, Good, Inv, live_born, live_counted}
use Rattle.law.proofs.Arguments.{Arguments}
use Rattle.law.proofs.Moves.{lent_small}

-- ---- a core that has just been opened

sum_none : (n : ℕ) (f : ℕ → ℕ) → ((k : ℕ) → f k ≡ 0) → sum_to n f ≡ 0
sum_none zero f e = refl
sum_none (suc n) f e = omega (arith, e n, sum_none n f e)

-- the rows of a core have no dictionary for plain weak references
plain_first : (classes : List Class) → good_rows classes ≡ true → (class_at classes 1).dictionary ≡ false
plain_first classes e =
    let k = class_at classes 1 in
    let a = (and_parts (ltb 0 (length classes)) (plain_weak k && all_good classes classes) e).1 in
    let b = (and_parts (plain_weak k) (all_good classes classes) a).0 in
    let c = (and_parts k.weak _ b).1 in
    let d = (and_parts k.immutable _ c).1 in
    let f = (and_parts (eqb k.members 0) _ d).1 in
    not-true k.dictionary (and_parts (not k.dictionary) _ f).0

pub opening_inv : (capacity first : ℕ) (classes : List Class) → can_open capacity first classes ≡ true → Inv (opening capacity first classes) []
unfolding placed lent unfreed_sum open_sum Falling
opening_inv capacity first classes e =
    let a = and_parts (ltb 0 capacity && not (ltb 4096 capacity)) (not (eqb first 0) && good_rows classes) e in
    let b = and_parts (ltb 0 capacity) (not (ltb 4096 capacity)) a.0 in
    let c = and_parts (not (eqb first 0)) (good_rows classes) a.1 in
    let small : capacity ≤ 4096 = ltb-false 4096 capacity (not-true (ltb 4096 capacity) b.1) in
    let some : first ≡ 0 → ⊥ = eqb-false first 0 (not-true (eqb first 0) c.0) in
    let start = opening capacity first classes in
    record {
      good = λ x px. let q = sum_none first (placed_by start x) (λ p. omega (arith, count_other x 0 (λ z. omega arith))) in record { counted = omega (arith, q, sum_none first (lent_by start x) (λ p. refl)); left = (refl, refl, refl); gone = refl; stacked = refl; few = omega arith };
      zeroth = refl;
      lists = λ o. tt;
      frame =
          record {
            first = omega arith;
            fresh = λ x h. refl;
            unfreed = omega (arith, sum_none first (λ p. 0) (λ p. refl));
            turns = omega (arith, sum_none first (λ p. 0) (λ p. refl));
            room = omega arith;
            small = small;
            plain = plain_first classes c.1;
          };
    }

-- ---- what the invariant says of counts

sum_plus : (n : ℕ) (f g h : ℕ → ℕ) → ((k : ℕ) → h k ≡ f k + g k) → sum_to n h ≡ sum_to n f + sum_to n g
sum_plus zero f g h e = refl
sum_plus (suc n) f g h e = omega (arith, e n, sum_plus n f g h e)

-- what is not live has no reference and no mark
cold : {p : Phase} {s m h q l w e r g k : ℕ} → Good p s m h q l w e r g k → is_live p ≡ false → s + m ≡ 0
cold {p = Absent} i z = omega (arith, i)
cold {p = Resting} i z = let y : ◌≡◌ {A = ℕ} 0 1 = cc in absurd (omega arith)
cold {p = (DelOpen c)} i z = let y : ◌≡◌ {A = ℕ} 0 1 = cc in absurd (omega arith)
cold {p = Taking} i z = omega (arith, i)
cold {p = Draining} i z = omega (arith, i)
cold {p = (Calling c x)} i z = omega (arith, i)
cold {p = (Freeing n)} i z = omega (arith, i)
cold {p = Leaving} i z = omega (arith, i)

-- counts are references, and more
pub counted_at : (s : State) → Inv s [] → Arguments s → Counted s
unfolding references placed lent open_sum unfreed_sum
counted_at s i a = record { counts = counts; handles = handles; live = live; width = width; unheld = λ x px. cold (i.good x px); turns = i.frame.turns; number = i.frame.unfreed; stacked = λ o po. (i.good o po).stacked; calling = a }
  where
    counts : (x : ℕ) → 0 < x → s.strong x ≡ references s x
    counts x px = omega (arith, i.good x px, sum_plus s.next (placed_by s x) (lent_by s x) (named_by s x) (λ p. omega arith))

    handles : (x : ℕ) → s.handles x ≤ s.strong x
    handles zero = omega (arith, i.zeroth)
    handles (suc x) = omega (arith, i.good (suc x) (omega arith))

    live : (x : ℕ) → Live s x → 0 < s.strong x + bit (s.interned x)
    live zero l = absurd (live_born (s.phase 0) l (i.frame.fresh 0 (inl refl)))
    live (suc x) l = live_counted (i.good (suc x) (omega arith)) l

    width : (x : ℕ) → s.strong x < 4294967295
    width zero = omega (arith, i.zeroth)
    width (suc x) = omega (arith, (i.good (suc x) (omega arith)).few, lent_small s [] i (suc x))

-- ---- a hand back is accepted

-- while a turn is open, the newest can be handed back, with a list as long as there are unfreed objects
pub back_accepted : (s : State) (lent : ℕ) → 0 < s.turns → s.unfreed ≤ lent → refusal (HandBack s.turns lent) s ≡ None
unfolding refusal
back_accepted s lent some enough = rw (ne_eqb s.turns 0 (λ q. omega arith), same s.turns, le-ltb lent s.unfreed enough) refl
