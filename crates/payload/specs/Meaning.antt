-- What a payload means.
use Rattle.std.specs.Prelude.{ℕ, ◌^◌, ◌<◌, ◌≤◌, Bool, List, length, slice_set}
use Rattle.std.specs.List.{AllByRecursion}

-- a kind, whether it is traced, and its edges, each a birth or 0 for none
pub record Meaning : Type 0 where
  pub kind : ℕ
  pub traced : Bool
  pub edges : List ℕ

-- kind 1 is that of weak references, so a payload's is above; edges are 8 at most, and names have 32 bits
pub record Proper (m : Meaning) : Type 0 where
  pub above : 1 < m.kind
  pub few : length m.edges ≤ 8
  pub names : AllByRecursion (λ e. e < 2 ^ 32) m.edges

-- the meaning with one edge replaced; beyond the width nothing is
abbrev pub with_edge : Meaning → ℕ → ℕ → Meaning
with_edge m i v = record { kind = m.kind; traced = m.traced; edges = slice_set m.edges i v }
