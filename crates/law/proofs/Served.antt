-- Over every run: what upgrades answer, what dels keep, how callbacks are lost and turns for them opened, what frees leave.
use Rattle.std.proofs.Common.{◌≡◌, ℕ, ◌<◌, ◌≤◌, ◌⊎◌, List, [], ◌∷◌, length, MatchBool, refl, arith}
use Rattle.classes.specs.Rows.{Class}
use Rattle.definition.specs.State.{Taking, State}
use Rattle.definition.specs.Calls.{Call, Upgrade, Reply}
use Rattle.definition.specs.Opening.{opening}
use Rattle.law.specs.Run.{Accepted, Step, run, history}
use Rattle.law.specs.Events.{Live, Cleared, Emptying, NoTurnOf, Kept, Clears, Freed, Takes, Loses, Drained, OpensCall, Once, Never, Every, Watched}
use Rattle.law.proofs.Invariant.{Falling, Inv}
use Rattle.law.proofs.StepKinds.{Moment, granting, refusing, moving}
use Rattle.law.proofs.Moments.{Between, each_between, change_always}
use Rattle.law.proofs.WithHistory.{Made, own, refused, small, made_before, made_after, every_step}
use Rattle.law.proofs.Told.{Told, told_kept, kept, upgrades}
use Rattle.law.proofs.Lists.{Lists}
use Rattle.law.proofs.Linked.{Linked, loses, call_opens, drained, shorter, takes, rounds_over, freed, frees}
use Rattle.law.proofs.Ways.{linked_after}

-- of each step, given the steps before it: nine fields of what lives come to, and that a round that is drained gets shorter
pub record Served (st : Step) (h : List Step) : Type 0 where
  pub kept : (o : ℕ) → Kept st o → Never (λ e. (c : ℕ) × (w : ℕ) × OpensCall e o c w) h
  pub upgrades : (w : ℕ) (r : Reply) → st.what ≡ Accepted (Upgrade w) r → 0 < r.number → Live st.before r.number × Never (λ e. Clears e r.number) h
  pub loses : (w c : ℕ) → Loses st w c → Cleared st.before w ⊎ ((o : ℕ) × Drained st o w c)
  pub drained : (o w c : ℕ) → Drained st o w c → Watched h o w c × ((v d : ℕ) → Once (λ e. Drained e o v d) h → w < v) × MatchBool st.before.attends (OpensCall st o c w) (NoTurnOf st.after o)
  pub shorter : (o w c : ℕ) → Drained st o w c → length (st.after.held o) < length (st.before.held o)
  pub call_opens : (o c w : ℕ) → OpensCall st o c w → Drained st o w c
  pub takes : (o w : ℕ) → Takes st o w → (length (st.after.held o) ≤ 16) × ((st.before.phase o ≡ Taking) ⊎ (st.before.held o ≡ []))
  pub rounds_over : (o w c : ℕ) → Emptying st.before o → 0 < c → Watched h o w c → Once (λ e. Drained e o w c) h ⊎ (Never (λ e. Takes e o w) h × (Live st.before w → ⊥))
  pub freed : (o : ℕ) → Freed st o → (w c : ℕ) → 0 < c → Watched h o w c → Once (λ e. Drained e o w c) h ⊎ (Never (λ e. Takes e o w) h × (Live st.before w → ⊥))
  pub frees : (o : ℕ) → Freed st o → Emptying st.before o

-- what is kept along a run
abbrev pub Story : State → List Step → Type 0
Story s h = Told s h × Linked s h

-- every step keeps it
pub story_kept : (st : Step) (h : List Step) → Moment st → Inv st.before [] → Inv st.after [] → Story st.before h → Story st.after (st ∷ h)
story_kept st h m i j k = (told_kept st h m i j k.0, linked_after st h m i j k.0 k.1)

-- and these fields follow from it
pub story_served : (st : Step) (h : List Step) → Moment st → Inv st.before [] → Inv st.after [] → Story st.before h → Served st h
story_served st h m i j k = record {
  kept = kept st h m k.0;
  upgrades = upgrades st h m k.0;
  loses = loses st h m i j k.0 k.1;
  drained = drained st h m i j k.0 k.1;
  shorter = shorter st h m i j k.0 k.1;
  call_opens = call_opens st h m i j k.0 k.1;
  takes = takes st h m i j k.0 k.1;
  rounds_over = rounds_over st h m i j k.0 k.1;
  freed = freed st h m i j k.0 k.1;
  frees = frees st h m i j k.0 k.1;
}

-- a core that has just been opened has no story
pub opening_story : (capacity first : ℕ) (classes : List Class) → Story (opening capacity first classes) []
unfolding Falling
opening_story capacity first classes = (λ o y b. elim b [ ], record { lists = lists; watched = λ o w a b r p. absurd (omega arith); order = λ o v d w b n. elim b [ ]; way = λ o w c p b x y. elim b [ ] })
  where
    lists : Lists (opening capacity first classes)
    lists = record {
      falls = λ o. tt;
      refers_weak = λ o w h. absurd (omega arith);
      refers_held = λ o w h. absurd (omega arith);
      named = λ o w h. absurd (omega arith);
      standing = λ o w h. absurd (omega arith);
      bare = λ o w h k. refl;
      below = λ w h. absurd (omega arith);
      listed = λ w h k. absurd (omega arith);
    }

-- the kind of a step that a run makes
kind : {K : State → Type 0} (st : Step) → Made K st → Moment st
kind _ (own c s i k g j) = granting c s g
kind _ (refused c fault s i k e) = refusing c fault s
kind _ (small s i r) = moving s r

served_kept : (st : Step) (h : List Step) → Made Between st → Story st.before h → Served st h × Story st.after (st ∷ h)
served_kept st h m j =
    let moment = kind st m in (story_served st h moment (made_before st m) (made_after st m) j, story_kept st h moment (made_before st m) (made_after st m) j)

-- over every run
pub every_served : (cs : List Call) (s : State) → Between s → Story s [] → Every Served (history (run cs s))
every_served cs s b = every_step Between (λ c s i k g. (change_always c s k g).inv) (λ c s i k. each_between c s k) (λ h s. Story s h) Served served_kept cs s b.always.inv b
