-- What holds of every object between any two steps.
use Rattle.std.proofs.Common.{◌≡◌, ℕ, zero, suc, ◌+◌, ◌-◌, ◌<◌, ◌≤◌, Bool, true, false, cond, not, ◌&&◌, eqb, ◌⊎◌, List, [], ◌∷◌, length, take, refl, ap, inl, inr, arith}
use Rattle.std.proofs.lemmas.Bool.{eqb-true, eq-eqb, ne_eqb, cases_eq, cases_lt, and_parts, both_ways, ltb-true, ltb-false}
use Rattle.classes.specs.Rows.{Class, class_at}
use Rattle.definition.specs.Base.{put, bit, count, sum_to}
use Rattle.definition.specs.State.{Phase, Absent, Resting, DelOpen, Taking, Draining, Calling, Freeing, Leaving, State, is_unfreed, is_live, is_resting, is_open}
use Rattle.definition.specs.Death.{less, spent, found, pushed, del_opens, clearing_begins, give_up}
use Rattle.definition.proofs.Sums.{same, point, sum_put}
use Rattle.definition.proofs.Advance.{is_dying, give_up_cases}
use Rattle.law.specs.Law.{del_turn}

-- how many of the list are names
abbrev pub filled : List ℕ → ℕ
filled [] = 0
filled (x ∷ xs) = cond (eqb x 0) (filled xs) (suc (filled xs))

-- what a phase says is empty: of nobody everything, of one that is freed the places passed, at the end all
abbrev pub emptied : Phase → List ℕ → ℕ → ℕ
emptied Absent l c = length l + c
emptied Resting l c = 0
emptied (DelOpen d) l c = 0
emptied Taking l c = 0
emptied Draining l c = 0
emptied (Calling d w) l c = 0
emptied (Freeing k) l c = filled (take k l)
emptied Leaving l c = filled l + c

-- the count with the mark (m), the round (h), what is to be given up (g)
abbrev pub Left : Phase → ℕ → ℕ → ℕ → Type 0
Left Absent m h g = (m ≡ 0) × (h ≡ 0) × (g ≡ 0)
Left Resting m h g = (0 < m) × (h ≡ 0) × (g ≡ 0)
Left (DelOpen c) m h g = (0 < m) × (h ≡ 0) × (g ≡ 0)
Left Taking m h g = (m ≡ 0) × (h ≤ 16) × (g ≡ 0)
Left Draining m h g = (m ≡ 0) × (h ≤ 16) × (g ≤ 3)
Left (Calling c w) m h g = (m ≡ 0) × (h ≤ 16) × (g ≤ 3)
Left (Freeing k) m h g = (m ≡ 0) × (h ≡ 0) × (g ≡ 0)
Left Leaving m h g = (m ≡ 0) × (h ≡ 0) × (g ≡ 0)

-- of one object: its count, its mark, the host's handles, the places that name it, what rounds and deaths hold of it, what is
-- being given up of it; what its phase says is empty, its round, what it has to give up, and how often it is on the stack
pub record Good (p : Phase) (strong mark handles placed lent owed empty held giving on_stack : ℕ) : Type 0 where
  pub counted : strong ≡ handles + placed + lent + owed + del_turn p
  pub left : Left p (strong + mark) held giving
  pub gone : empty ≡ 0
  pub stacked : on_stack ≡ bit (is_dying p)
  pub few : strong ≤ 65535 + lent + owed

abbrev pub placed_by : State → ℕ → ℕ → ℕ
placed_by s x p = count x (s.places p) + count x (s.callback p ∷ [])

abbrev pub lent_by : State → ℕ → ℕ → ℕ
lent_by s x p = count x (s.held p) + count x (s.giving p)

unfoldable pub placed : State → ℕ → ℕ
placed s x = sum_to s.next (placed_by s x)

unfoldable pub lent : State → ℕ → ℕ
lent s x = sum_to s.next (lent_by s x)

abbrev pub empty : State → ℕ → ℕ
empty s x = emptied (s.phase x) (s.places x) (s.callback x)

abbrev pub GoodAt : State → List ℕ → ℕ → Type 0
GoodAt s owed x = Good (s.phase x) (s.strong x) (bit (s.interned x)) (s.handles x) (placed s x) (lent s x) (count x owed) (empty s x) (length (s.held x)) (length (s.giving x)) (count x s.stack)

-- what birth 0 has
abbrev pub zero_has : State → ℕ
zero_has s = s.strong 0 + s.handles 0 + bit (s.interned 0) + length (s.places 0) + s.callback 0 + length (s.held 0) + length (s.giving 0) + count 0 s.stack

unfoldable pub unfreed_sum : (ℕ → Phase) → ℕ → ℕ
unfreed_sum phase next = sum_to next (λ p. bit (is_unfreed (phase p)))

unfoldable pub open_sum : (ℕ → Phase) → ℕ → ℕ
open_sum phase next = sum_to next (λ p. bit (is_open (phase p)))

-- what rests on no count and on no place
pub record Frame (phase : ℕ → Phase) (next u t capacity : ℕ) (classes : List Class) : Type 0 where
  pub first : 0 < next
  pub fresh : (x : ℕ) → (x ≡ 0) ⊎ (next ≤ x) → phase x ≡ Absent
  pub unfreed : u ≡ unfreed_sum phase next
  pub turns : t ≡ open_sum phase next
  pub room : u ≤ capacity
  pub small : capacity ≤ 4096
  pub plain : (class_at classes 1).dictionary ≡ false

abbrev pub Framed : State → Type 0
Framed s = Frame s.phase s.next s.unfreed s.turns s.capacity s.classes

-- births fall, all below n: newest first, none twice
unfoldable pub Falling : ℕ → List ℕ → Type 0
Falling n [] = Unit {0}
Falling n (w ∷ ws) = (w < n) × Falling w ws

pub record Inv (s : State) (owed : List ℕ) : Type 0 where
  pub good : (x : ℕ) → 0 < x → GoodAt s owed x
  pub zeroth : zero_has s ≡ 0
  pub lists : (o : ℕ) → Falling s.next (s.weak o)
  pub frame : Framed s

-- ---- one object's numbers

pub now_spent : (n : ℕ) (b : Bool) → (eqb n 0 && not b) ≡ true → (n ≡ 0) × (bit b ≡ 0)
now_spent n true e = let z : ◌≡◌ {A = ℕ} 0 1 = cc (and_parts (eqb n 0) false e).1 in absurd (omega arith)
now_spent n false e = (eqb-true n 0 (and_parts (eqb n 0) true e).0, refl)

pub not_spent : (n : ℕ) (b : Bool) → (eqb n 0 && not b) ≡ false → 0 < n + bit b
not_spent n true e = omega arith
not_spent zero false e = let z : ◌≡◌ {A = ℕ} 0 1 = cc in absurd (omega arith)
not_spent (suc n) false e = omega arith

pub spent_from : (n : ℕ) (b : Bool) → n ≡ 0 → bit b ≡ 0 → (eqb n 0 && not b) ≡ true
spent_from n true e z = absurd (omega arith)
spent_from n false e z = rw (eq-eqb n 0 e) refl

-- what is counted or marked is live
pub alive : {p : Phase} {s m h q l w e r g k : ℕ} → Good p s m h q l w e r g k → 0 < s + m → is_live p ≡ true
alive {p = Absent} i z = absurd (omega arith)
alive {p = Resting} i z = refl
alive {p = (DelOpen c)} i z = refl
alive {p = Taking} i z = absurd (omega arith)
alive {p = Draining} i z = absurd (omega arith)
alive {p = (Calling c x)} i z = absurd (omega arith)
alive {p = (Freeing n)} i z = absurd (omega arith)
alive {p = Leaving} i z = absurd (omega arith)

pub live_counted : {p : Phase} {s m h q l w e r g k : ℕ} → Good p s m h q l w e r g k → is_live p ≡ true → 0 < s + m
live_counted {p = Absent} i z = let y : ◌≡◌ {A = ℕ} 0 1 = cc in absurd (omega arith)
live_counted {p = Resting} i z = omega arith
live_counted {p = (DelOpen c)} i z = omega arith
live_counted {p = Taking} i z = let y : ◌≡◌ {A = ℕ} 0 1 = cc in absurd (omega arith)
live_counted {p = Draining} i z = let y : ◌≡◌ {A = ℕ} 0 1 = cc in absurd (omega arith)
live_counted {p = (Calling c x)} i z = let y : ◌≡◌ {A = ℕ} 0 1 = cc in absurd (omega arith)
live_counted {p = (Freeing n)} i z = let y : ◌≡◌ {A = ℕ} 0 1 = cc in absurd (omega arith)
live_counted {p = Leaving} i z = let y : ◌≡◌ {A = ℕ} 0 1 = cc in absurd (omega arith)

-- other references, with the same sum
pub retold : {p : Phase} {s m h q l w e r g k : ℕ} (h' q' l' w' : ℕ) → Good p s m h q l w e r g k → h' + q' + l' + w' ≡ h + q + l + w → s ≤ 65535 + l' + w' → Good p s m h' q' l' w' e r g k
retold h' q' l' w' i e n = record { counted = omega (arith, i.counted); left = i.left; gone = i.gone; stacked = i.stacked; few = n }

-- one reference is gone, and another or the mark is left
fewer : {p : Phase} {s m h q l w e r g k : ℕ} (w' : ℕ) → Good p s m h q l w e r g k → w ≡ suc w' → 0 < (s - 1) + m → Good p (s - 1) m h q l w' e r g k
fewer {p = Absent} w' i e z = omega arith
fewer {p = Resting} w' i e z = omega arith
fewer {p = (DelOpen c)} w' i e z = omega arith
fewer {p = Taking} w' i e z = omega arith
fewer {p = Draining} w' i e z = omega arith
fewer {p = (Calling c x)} w' i e z = omega arith
fewer {p = (Freeing n)} w' i e z = omega arith
fewer {p = Leaving} w' i e z = omega arith

-- the last reference to an object is gone, which was at rest
last_resting : {p : Phase} {s m h q l w e r g k : ℕ} → Good p s m h q l w e r g k → 0 < w → s - 1 ≡ 0 → m ≡ 0 → p ≡ Resting
last_resting {p = Absent} i z y x = absurd (omega arith)
last_resting {p = Resting} i z y x = refl
last_resting {p = (DelOpen c)} i z y x = absurd (omega arith)
last_resting {p = Taking} i z y x = absurd (omega arith)
last_resting {p = Draining} i z y x = absurd (omega arith)
last_resting {p = (Calling c v)} i z y x = absurd (omega arith)
last_resting {p = (Freeing n)} i z y x = absurd (omega arith)
last_resting {p = Leaving} i z y x = absurd (omega arith)

starts_del : {s m h q l w e r g k : ℕ} (c w' : ℕ) → Good Resting s m h q l w e r g k → w ≡ suc w' → s - 1 ≡ 0 → m ≡ 0 → Good (DelOpen c) 1 m h q l w' 0 r g (suc k)
starts_del c w' i e y x = omega arith

starts_clearing : {s m h q l w e r g k : ℕ} (w' : ℕ) → Good Resting s m h q l w e r g k → w ≡ suc w' → s - 1 ≡ 0 → m ≡ 0 → Good Taking (s - 1) m h q l w' 0 r g (suc k)
starts_clearing w' i e y x = omega arith

-- ---- births and phases

-- births between
pub between : (s : State) (owed : List ℕ) → Inv s owed → (o : ℕ) → (s.phase o ≡ Absent → ⊥) → (0 < o) × (o < s.next)
between s owed i o ne = (some (cases_eq o 0), below (cases_lt o s.next))
  where
    some : (o ≡ 0) ⊎ (o ≡ 0 → ⊥) → 0 < o
    some (inl q) = absurd (ne (i.frame.fresh o (inl q)))
    some (inr h) = omega arith

    below : (o < s.next) ⊎ (s.next ≤ o) → o < s.next
    below (inl h) = h
    below (inr h) = absurd (ne (i.frame.fresh o (inr h)))

pub live_born : (p : Phase) → is_live p ≡ true → p ≡ Absent → ⊥
live_born p l q = let z : ◌≡◌ {A = ℕ} 0 1 = cc in omega arith

-- one phase changes, and the numbers with it
pub phase_frame :
    (s : State) → Framed s → (o : ℕ) (p : Phase) (unfreed turns : ℕ) → 0 < o → o < s.next
    → unfreed + bit (is_unfreed (s.phase o)) ≡ s.unfreed + bit (is_unfreed p) → turns + bit (is_open (s.phase o)) ≡ s.turns + bit (is_open p) → unfreed ≤ s.capacity
    → Frame (put s.phase o p) s.next unfreed turns s.capacity s.classes
unfolding unfreed_sum open_sum
phase_frame s f o p unfreed turns po lo eu et room =
    record {
      first = f.first;
      fresh = λ y h. rw (ne_eqb y o (λ q. omega arith)) (f.fresh y h);
      unfreed = omega (arith, f.unfreed, sum_put s.next o (λ q. bit (is_unfreed q)) s.phase p lo);
      turns = omega (arith, f.turns, sum_put s.next o (λ q. bit (is_open q)) s.phase p lo);
      room = room;
      small = f.small;
      plain = f.plain;
    }

-- ---- giving up a reference

module _ (s : State) (owed : List ℕ) (x : ℕ) (pos : 0 < x) (i : Inv s (x ∷ owed)) where
  other : (y : ℕ) → (y ≡ x → ⊥) → 0 < y → GoodAt s owed y
  other y ne py = rw (ne_eqb y x ne) at (i.good y py)

  here : Good (s.phase x) (s.strong x) (bit (s.interned x)) (s.handles x) (placed s x) (lent s x) (suc (count x owed)) (empty s x) (length (s.held x)) (length (s.giving x)) (count x s.stack)
  here = rw (same x) at (i.good x pos)

  some_one : s.phase x ≡ Absent → ⊥
  some_one = live_born (s.phase x) (alive here (omega (arith, here)))

  lx : x < s.next
  lx = (between s (x ∷ owed) i x some_one).1

  off : eqb 0 x ≡ false
  off = ne_eqb 0 x (λ q. omega arith)

  less_inv : (is_resting (s.phase x) && spent (less x s) x) ≡ false → Inv (less x s) owed
  unfolding placed lent
  less_inv e =
      record {
        good = point (λ y. 0 < y → GoodAt (less x s) owed y) x (λ py. rw (same x) (fewer (count x owed) here refl (stays (cases_lt 0 ((s.strong x - 1) + bit (s.interned x)))))) (λ y ne py. rw (ne_eqb y x ne) (other y ne py));
        zeroth = rw off i.zeroth;
        lists = i.lists;
        frame = i.frame;
      }
    where
      stays : (0 < (s.strong x - 1) + bit (s.interned x)) ⊎ ((s.strong x - 1) + bit (s.interned x) ≤ 0) → 0 < (s.strong x - 1) + bit (s.interned x)
      stays (inl h) = h
      stays (inr h) =
          let ph = last_resting here (omega arith) (omega arith) (omega arith) in
          let sp : spent (less x s) x ≡ true = rw (same x) (spent_from (s.strong x - 1) (s.interned x) (omega arith) (omega arith)) in
          absurd (both_ways (is_resting (s.phase x) && spent (less x s) x) e (rw (ph, sp) refl))

  starts_inv : s.phase x ≡ Resting → spent (less x s) x ≡ true → Inv (del_opens x (found s x) (less x s)) owed × Inv (pushed x (clearing_begins x (less x s))) owed
  unfolding placed lent
  starts_inv ph sp =
      let z = now_spent (s.strong x - 1) (s.interned x) (rw (same x) at sp) in
      let q : Good Resting (s.strong x) (bit (s.interned x)) (s.handles x) (placed s x) (lent s x) (suc (count x owed)) 0 (length (s.held x)) (length (s.giving x)) (count x s.stack) = rw ph at here in (
        record {
          good = point (λ y. 0 < y → GoodAt (del_opens x (found s x) (less x s)) owed y) x (λ py. rw (same x) (starts_del (found s x) (count x owed) q refl z.0 z.1)) (λ y ne py. rw (ne_eqb y x ne) (other y ne py));
          zeroth = rw off i.zeroth;
          lists = i.lists;
          frame = phase_frame s i.frame x (DelOpen (found s x)) s.unfreed (suc s.turns) pos lx (rw ph refl) (rw ph (omega arith)) i.frame.room;
        },
        record {
          good = point (λ y. 0 < y → GoodAt (pushed x (clearing_begins x (less x s))) owed y) x (λ py. rw (same x) (starts_clearing (count x owed) q refl z.0 z.1)) (λ y ne py. rw (ne_eqb y x ne) (other y ne py));
          zeroth = rw off i.zeroth;
          lists = i.lists;
          frame = phase_frame s i.frame x Taking s.unfreed s.turns pos lx (rw ph refl) (rw ph refl) i.frame.room;
        },
      )

-- 0 names nobody, so it is owed to nobody
pub none_inv : (s : State) (owed : List ℕ) → Inv s (0 ∷ owed) → Inv s owed
none_inv s owed i = record { good = λ y py. rw (ne_eqb y 0 (λ q. omega arith)) at (i.good y py); zeroth = i.zeroth; lists = i.lists; frame = i.frame }

pub give_up_inv : (s : State) (owed : List ℕ) (x : ℕ) → Inv s (x ∷ owed) → Inv (give_up x s) owed
give_up_inv s owed x i = go (cases_eq x 0)
  where
    go : (x ≡ 0) ⊎ (x ≡ 0 → ⊥) → Inv (give_up x s) owed
    go (inl q) =
        give_up_cases s x (λ t. Inv t owed) (λ lo. none_inv s owed (rw q at i))
        (λ lo e. let h = ltb-true (s.handles x) (s.strong x) lo in absurd (omega (arith, i.zeroth, ap s.strong q)))
        (λ lo ph e. let h = ltb-true (s.handles x) (s.strong x) lo in absurd (omega (arith, i.zeroth, ap s.strong q)))
    go (inr ne) =
        let pos : 0 < x = omega arith in
        give_up_cases s x (λ t. Inv t owed)
        (λ lo. let h = ltb-false (s.handles x) (s.strong x) lo in absurd (omega (arith, here s owed x pos i)))
        (λ lo e. less_inv s owed x pos i e)
        (λ lo ph e. let r = starts_inv s owed x pos i ph e in (λ a. r.0, λ a. r.1))
