-- What happens between one moment and the next, told by what is so at each.
use Rattle.std.specs.Prelude.{◌≡◌, ℕ, ◌<◌, true, false, ◌⊎◌, List, [], ◌∷◌}
use Rattle.definition.specs.Base.{count}
use Rattle.definition.specs.State.{DelOpen, Calling, Freeing, Leaving, State, is_unfreed, is_live, is_resting, is_open}
use Rattle.law.specs.Run.{Step}

-- ---- at a moment

abbrev pub Unfreed : State → ℕ → Type 0
Unfreed s o = is_unfreed (s.phase o) ≡ true

abbrev pub Live : State → ℕ → Type 0
Live s o = is_live (s.phase o) ≡ true

-- unfreed, and its clearing has begun
abbrev pub Cleared : State → ℕ → Type 0
Cleared s o = (is_unfreed (s.phase o) ≡ true) × (is_live (s.phase o) ≡ false)

abbrev pub Resting : State → ℕ → Type 0
Resting s o = is_resting (s.phase o) ≡ true

-- its death has started, and it is neither freed nor kept
abbrev pub Dying : State → ℕ → Type 0
Dying s o = (is_unfreed (s.phase o) ≡ true) × (is_resting (s.phase o) ≡ false)

-- its places are being emptied, or all of them are
abbrev pub Emptying : State → ℕ → Type 0
Emptying s o = ((k : ℕ) × (s.phase o ≡ Freeing k)) ⊎ (s.phase o ≡ Leaving)

abbrev pub NoTurnOf : State → ℕ → Type 0
NoTurnOf s o = is_open (s.phase o) ≡ false

abbrev pub Refers : State → ℕ → ℕ → Type 0
Refers s w o = (s.shape w).referent ≡ o

-- the round of the death of o holds w
abbrev pub Holds : State → ℕ → ℕ → Type 0
Holds s o w = 0 < count w (s.held o)

-- ---- between two moments

-- a death of o starts
abbrev pub Dies : Step → ℕ → Type 0
Dies st o = Resting st.before o × Dying st.after o

-- its del has kept it
abbrev pub Kept : Step → ℕ → Type 0
Kept st o = Dying st.before o × Resting st.after o

-- its clearing begins: it is live no longer
abbrev pub Clears : Step → ℕ → Type 0
Clears st o = Live st.before o × Cleared st.after o

abbrev pub Freed : Step → ℕ → Type 0
Freed st o = Unfreed st.before o × (is_unfreed (st.after.phase o) ≡ false)

-- the round of o takes w
abbrev pub Takes : Step → ℕ → ℕ → Type 0
Takes st o w = (Holds st.before o w → ⊥) × Holds st.after o w

-- w loses its callback c
abbrev pub Loses : Step → ℕ → ℕ → Type 0
Loses st w c = (0 < c) × (st.before.callback w ≡ c) × (st.after.callback w ≡ 0)

-- w, alive, loses it to the death of its referent o
abbrev pub Drained : Step → ℕ → ℕ → ℕ → Type 0
Drained st o w c = Loses st w c × Live st.before w × Refers st.before w o × Cleared st.before o

abbrev pub OpensDel : Step → ℕ → ℕ → Type 0
OpensDel st o class = NoTurnOf st.before o × (st.after.phase o ≡ DelOpen class)

abbrev pub OpensCall : Step → ℕ → ℕ → ℕ → Type 0
OpensCall st o c w = NoTurnOf st.before o × (st.after.phase o ≡ Calling c w)

-- ---- in a history, the newest step first

pub data Once (P : Step → Type 0) : List Step → Type 0 where
  here : {st : Step} {h : List Step} → P st → Once P (st ∷ h)
  before : {st : Step} {h : List Step} → Once P h → Once P (st ∷ h)

abbrev pub Never : (Step → Type 0) → List Step → Type 0
Never P h = Once P h → ⊥

-- what has to hold of each step, given those before it
unfoldable pub Every : (Step → List Step → Type 0) → List Step → Type 0
Every P [] = Unit {0}
Every P (st ∷ h) = P st h × Every P h

-- p started to die after o last did
unfoldable pub Newer : List Step → ℕ → ℕ → Type 0
Newer [] p o = ⊥
Newer (st ∷ h) p o = Dies st p ⊎ ((Dies st o → ⊥) × Newer h p o)

-- w had the callback c when the clearing of o, its referent, began
abbrev pub Watched : List Step → ℕ → ℕ → ℕ → Type 0
Watched h o w c = Once (λ st. Clears st o × Refers st.before w o × (st.before.callback w ≡ c)) h
