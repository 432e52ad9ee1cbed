-- A handle more, which is a reference more.
use Rattle.std.proofs.Common.{◌≡◌, ℕ, ◌+◌, ◌<◌, true, List, arith}
use Rattle.std.proofs.lemmas.Bool.{ne_eqb}
use Rattle.definition.specs.State.{Phase, Absent, Resting, DelOpen, Taking, Draining, Calling, Freeing, Leaving, State, is_live}
use Rattle.definition.specs.Calls.{hold}
use Rattle.definition.proofs.Sums.{same, point}
use Rattle.law.proofs.Invariant.{Good, placed, lent, GoodAt, Inv, between, live_born}

-- a live object's numbers with a handle more
one_held : {p : Phase} {s m h q l w e r g k : ℕ} → Good p s m h q l w e r g k → is_live p ≡ true → s < 65535 → Good p (s + 1) m (h + 1) q l w e r g k
one_held {p = Absent} i z few = let y : ◌≡◌ {A = ℕ} 0 1 = cc in absurd (omega arith)
one_held {p = Resting} i z few = omega arith
one_held {p = (DelOpen c)} i z few = omega arith
one_held {p = Taking} i z few = let y : ◌≡◌ {A = ℕ} 0 1 = cc in absurd (omega arith)
one_held {p = Draining} i z few = let y : ◌≡◌ {A = ℕ} 0 1 = cc in absurd (omega arith)
one_held {p = (Calling c x)} i z few = let y : ◌≡◌ {A = ℕ} 0 1 = cc in absurd (omega arith)
one_held {p = (Freeing n)} i z few = let y : ◌≡◌ {A = ℕ} 0 1 = cc in absurd (omega arith)
one_held {p = Leaving} i z few = let y : ◌≡◌ {A = ℕ} 0 1 = cc in absurd (omega arith)

-- the host gets a handle of a live object whose count is not full
pub hold_inv : (s : State) (owed : List ℕ) → Inv s owed → (o : ℕ) → is_live (s.phase o) ≡ true → s.strong o < 65535 → Inv (hold o s) owed
unfolding placed lent
hold_inv s owed i o l few =
    let po = (between s owed i o (live_born (s.phase o) l)).0 in
    record {
      good = point (λ y. 0 < y → GoodAt (hold o s) owed y) o (λ py. rw (same o) (one_held (i.good o po) l few)) (λ y ne py. rw (ne_eqb y o ne) (i.good y py));
      zeroth = rw (ne_eqb 0 o (λ q. omega arith)) i.zeroth;
      lists = i.lists;
      frame = i.frame;
    }
