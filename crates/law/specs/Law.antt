-- The law of the core, over every run: nothing is lost and nothing is kept by mistake; how objects live and die; hand backs end.
use Rattle.std.specs.Prelude.{◌≡◌, ℕ, ◌+◌, ◌<◌, ◌≤◌, true, false, not, ◌&&◌, ◌⊎◌, List, [], ◌∷◌, ◌++◌, length, map, Some, None, Ok, Err, MatchBool, Option, Result, ◌==◌, ◌≢◌}
use Rattle.refusal.specs.declared.Fault.{Fault}
use Rattle.classes.specs.Rows.{Class}
use Rattle.definition.specs.Base.{bit, count, sum_to}
use Rattle.definition.specs.State.{Phase, DelOpen, Taking, State, is_unfreed, is_live, is_open, is_resting, Calling}
use Rattle.definition.specs.Death.{found, rests}
use Rattle.definition.specs.Calls.{Call, Upgrade, HandBack, Del, Callback, Asked, Turn, Reply, refusal}
use Rattle.definition.specs.Opening.{can_open, opening}
use Rattle.law.specs.Run.{What, Accepted, Step, Exchange, run, end, history, Chain}
use Rattle.law.specs.Tallies.{makes, frees, handles_given, handles_taken, interns, turns_shown, hand_backs, attending}
use Rattle.law.specs.Events.{Live, Cleared, Dying, NoTurnOf, Dies, Kept, Clears, Freed, Takes, Loses, Drained, OpensDel, OpensCall, Once, Never, Every, Newer, Watched, Emptying}
use Rattle.law.specs.Places.{Place, names, Named}
use Rattle.law.specs.Settings.{Set}

-- ==== nothing lost, nothing kept

-- what holds o when a run has come to s: a handle, its mark, or a place of an unfreed object
pub data Holder (es : List Exchange) (s : State) (o : ℕ) : Type 0 where
  handle : handles_taken o es < handles_given o es → Holder es s o
  mark : 0 < interns o es → Holder es s o
  place : (p : ℕ) (q : Place) → frees p es < makes p es → names s p q ≡ o → Holder es s o

pub record NothingLostOrKept (es : List Exchange) (s : State) : Type 0 where
  -- while no turn is open, makes and frees of an object are equal exactly when nothing holds it
  pub kept : (o : ℕ) → 0 < o → turns_shown es ≡ hand_backs es → Holder es s o → makes o es ≢ frees o es
  pub lost : (o : ℕ) → 0 < o → turns_shown es ≡ hand_backs es → (Holder es s o → ⊥) → makes o es ≡ frees o es
  -- while something holds it, it is not freed
  pub held : (o : ℕ) → 0 < o → Holder es s o → frees o es ≡ 0

-- ==== lives

-- an accepted hand back leads from one moment to the next
abbrev pub HandedBack : What → Type 0
HandedBack what = (turn : ℕ) × (lent : ℕ) × (r : Reply) × (what ≡ Accepted (HandBack turn lent) r)

-- the death of o takes no step
pub record Still (s t : State) (o : ℕ) : Type 0 where
  pub phase : t.phase o ≡ s.phase o
  pub round : t.held o ≡ s.held o
  pub giving : t.giving o ≡ s.giving o
  -- and once its clearing has begun, its places and its callback stay
  pub places : Cleared s o → t.places o ≡ s.places o
  pub callback : Cleared s o → t.callback o ≡ s.callback o

-- an open del turn counts as a reference
abbrev pub del_turn : Phase → ℕ
del_turn p = bit (is_open p && is_live p)

-- what is so of each step of a run, given the steps before it
pub record Lives (st : Step) (h : List Step) : Type 0 where
  -- A death starts with the last reference to an object that is not interned. Its del turn opens exactly when a host
  -- attends and its class finds a del; else its clearing begins
  pub starts : (o : ℕ) → Dies st o → (st.before.strong o ≡ 1) × (st.before.interned o ≡ false) × MatchBool (st.before.attends && not (found st.before o == 0)) (OpensDel st o (found st.before o)) (Clears st o)
  -- and so opens every del turn
  pub del_opens : (o class : ℕ) → OpensDel st o class → Dies st o
  -- when a death has started, the last reference has gone: the count is that of the del turn alone
  pub started : (o : ℕ) → Dies st o → st.after.strong o ≡ del_turn (st.after.phase o)
  -- a del turn ends with its hand back: the object is kept if a reference or its mark is left, and else its clearing begins
  pub del_ends : (o class : ℕ) → st.before.phase o ≡ DelOpen class → (st.after.phase o ≡ DelOpen class) ⊎ (HandedBack st.what × MatchBool (st.after.strong o == 0 && not (st.after.interned o)) (Clears st o) (Kept st o))
  -- clearing begins in these two ways only
  pub clears : (o : ℕ) → Clears st o → Dies st o ⊎ ((class : ℕ) × (st.before.phase o ≡ DelOpen class))
  -- what its del keeps has had no callback turn
  pub kept : (o : ℕ) → Kept st o → Never (λ e. (c : ℕ) × (w : ℕ) × OpensCall e o c w) h
  -- what an upgrade answers has not been cleared, ever
  pub upgrades : (w : ℕ) (r : Reply) → st.what ≡ Accepted (Upgrade w) r → 0 < r.number → Live st.before r.number × Never (λ e. Clears e r.number) h
  -- a reference loses its callback in its own death, or alive, to the death of its referent
  pub loses : (w c : ℕ) → Loses st w c → Cleared st.before w ⊎ ((o : ℕ) × Drained st o w c)
  -- To the death of its referent only if it had the callback when clearing began, and newest first. A turn for the
  -- callback and the reference opens exactly when a host attends
  pub drained : (o w c : ℕ) → Drained st o w c → Watched h o w c × ((v d : ℕ) → Once (λ e. Drained e o v d) h → w < v) × MatchBool st.before.attends (OpensCall st o c w) (NoTurnOf st.after o)
  -- and so opens every callback turn
  pub call_opens : (o c w : ℕ) → OpensCall st o c w → Drained st o w c
  -- a callback turn ends with its hand back, and not before
  pub call_ends : (o c w : ℕ) → st.before.phase o ≡ Calling c w → (st.after.phase o ≡ Calling c w) ⊎ (HandedBack st.what × NoTurnOf st.after o)
  -- a round holds 16 at most, and takes only until it begins to drain
  pub takes : (o w : ℕ) → Takes st o w → (length (st.after.held o) ≤ 16) × ((st.before.phase o ≡ Taking) ⊎ (st.before.held o ≡ []))
  -- When an object's places are being emptied, each reference that had a callback when clearing began has lost it to this
  -- death, or its own clearing had begun and no round took it
  pub rounds_over : (o w c : ℕ) → Emptying st.before o → 0 < c → Watched h o w c → Once (λ e. Drained e o w c) h ⊎ (Never (λ e. Takes e o w) h × (Live st.before w → ⊥))
  -- When an object is freed, each reference that had a callback when clearing began has lost it to this death, or its own
  -- clearing has begun and no round took it
  pub freed : (o : ℕ) → Freed st o → (w c : ℕ) → 0 < c → Watched h o w c → Once (λ e. Drained e o w c) h ⊎ (Never (λ e. Takes e o w) h × (Live st.before w → ⊥))
  -- an object is freed only by its own death, once its places are being emptied
  pub frees : (o : ℕ) → Freed st o → Emptying st.before o
  -- deaths nest: until a newer death has ended, by a free or a keeping, an older one takes no step, and no reference
  -- loses its callback to it
  pub nested : (o p : ℕ) → (o ≢ p) → Dying st.before o → Dying st.before p → Newer h p o → Still st.before st.after o × ((w c : ℕ) → Drained st o w c → ⊥)

-- ---- turns and frees are those of the replies

-- the births that the steps free, in order
pub data Lists : List Step → List ℕ → Type 0 where
  none : Lists [] []
  quiet : {st : Step} {h : List Step} {l : List ℕ} → ((o : ℕ) → Freed st o → ⊥) → Lists h l → Lists (st ∷ h) l
  one : {st : Step} {h : List Step} {l : List ℕ} (x : ℕ) → Freed st x → ((o : ℕ) → Freed st o → o ≡ x) → Lists h l → Lists (st ∷ h) (l ++ (x ∷ []))

abbrev pub Opens : Step → Asked → Type 0
Opens st (Del o class) = OpensDel st o class
Opens st (Callback c w) = (o : ℕ) × OpensCall st o c w

-- a step opens no turn
abbrev pub Quiet : Step → Type 0
Quiet st = (asked : Asked) → Opens st asked → ⊥

abbrev pub AllQuiet : List Step → Type 0
AllQuiet [] = Unit {0}
AllQuiet (st ∷ h) = Quiet st × AllQuiet h

-- the turn that a reply shows is the one that the last step of its call opens, and no other step of it opens any
abbrev pub Shows : List Step → Option Turn → Type 0
Shows h None = AllQuiet h
Shows [] (Some t) = ⊥
Shows (st ∷ h) (Some t) = Opens st t.asked × (t.depth ≡ st.after.turns) × AllQuiet h

-- a refused call changes nothing
abbrev pub Unchanged : List Step → Type 0
Unchanged [] = Unit {0}
Unchanged (st ∷ h) = (st.after ≡ st.before) × Unchanged h

abbrev pub Tells : List Step → Result Reply Fault → Type 0
Tells h (Ok r) = Lists h r.freed × Shows h r.turn
Tells h (Err fault) = Unchanged h

abbrev pub AllTell : List Exchange → Type 0
AllTell [] = Unit {0}
AllTell (e ∷ es) = Tells e.steps e.answer × AllTell es

-- ==== hand backs end

pub record Back : Type 0 where
  pub turn : ℕ
  pub lent : ℕ

abbrev pub back : Back → Call
back b = HandBack b.turn b.lent

-- what stands when only hand backs follow: open turns, unfreed objects, callbacks held
abbrev pub callbacks : State → ℕ
callbacks s = sum_to s.next (λ w. bit (not (s.callback w == 0)))

abbrev pub standing : State → ℕ
standing s = s.turns + s.unfreed + callbacks s

pub record HandBacksEnd (s : State) : Type 0 where
  -- no more are accepted than that, and then no turn is open
  pub few : (bs : List Back) → hand_backs (run (map back bs) s) ≤ standing s
  pub ended : (bs : List Back) → standing s ≤ hand_backs (run (map back bs) s) → (end (map back bs) s).turns ≡ 0
  -- while a turn is open, the newest is accepted with a list as long as there are unfreed objects
  pub accepted : (bs : List Back) (lent : ℕ) → 0 < (end (map back bs) s).turns → (end (map back bs) s).unfreed ≤ lent → refusal (HandBack (end (map back bs) s).turns lent) (end (map back bs) s) ≡ None

-- ==== what is so at every moment

-- all references to x: handles, places, what rounds and turns hold, and an open del turn
abbrev pub named_by : State → ℕ → ℕ → ℕ
named_by s x p = count x (s.places p) + count x (s.callback p ∷ []) + count x (s.held p) + count x (s.giving p)

unfoldable pub references : State → ℕ → ℕ
references s x = s.handles x + sum_to s.next (named_by s x) + del_turn (s.phase x)

pub record Counted (s : State) : Type 0 where
  pub counts : (x : ℕ) → 0 < x → s.strong x ≡ references s x
  pub handles : (x : ℕ) → s.handles x ≤ s.strong x
  pub live : (x : ℕ) → Live s x → 0 < s.strong x + bit (s.interned x)
  pub width : (x : ℕ) → s.strong x < 4294967295
  -- nothing names or marks what is not live
  pub unheld : (x : ℕ) → 0 < x → is_live (s.phase x) ≡ false → s.strong x + bit (s.interned x) ≡ 0
  -- as many turns are open as deaths wait for one
  pub turns : s.turns ≡ sum_to s.next (λ o. bit (is_open (s.phase o)))
  -- the number of unfreed objects
  pub number : s.unfreed ≡ sum_to s.next (λ o. bit (is_unfreed (s.phase o)))
  -- the stack is of the dying, each once
  pub stacked : (o : ℕ) → 0 < o → count o s.stack ≡ bit (is_unfreed (s.phase o) && not (is_resting (s.phase o)))
  -- while a callback turn is open, the death holds its argument, its callback and the round's reference
  pub calling : (o c w : ℕ) → s.phase o ≡ Calling c w → s.giving o ≡ w ∷ c ∷ w ∷ []

-- what the tallies say of the state that a run has come to
pub record Tallied (es : List Exchange) (s : State) : Type 0 where
  pub turns : s.turns + hand_backs es ≡ turns_shown es
  pub handles : (o : ℕ) → 0 < o → s.handles o + handles_taken o es ≡ handles_given o es
  pub marks : (o : ℕ) → bit (s.interned o) ≡ interns o es
  pub unfreed : (o : ℕ) → 0 < o → frees o es + bit (is_unfreed (s.phase o)) ≡ makes o es
  pub once : (o : ℕ) → 0 < o → makes o es ≤ 1
  -- a host attends exactly if the last accepted attend said so
  pub attends : s.attends ≡ attending es

-- ==== the whole

pub record Law (cs : List Call) (start : State) : Type 0 where
  pub nothing_lost_or_kept : NothingLostOrKept (run cs start) (end cs start)
  pub lives : Every Lives (history (run cs start))
  pub replies : AllTell (run cs start)
  pub hand_backs_end : HandBacksEnd (end cs start)
  pub counted : Every (λ st h. Counted st.after) (history (run cs start))
  pub places : Every (λ st h. Named st.what st.before st.after) (history (run cs start))
  -- a host attends, and rows and objects are, as calls said
  pub settings : Every (λ st h. Set st.what st.before st.after) (history (run cs start))
  pub tallies : Tallied (run cs start) (end cs start)
  pub moments : Chain (history (run cs start)) start (end cs start)
  -- no work is left: nothing is dying, or the newest death waits for a hand back
  pub finished : rests (end cs start) ≡ true

-- what is so of each run: for every core that can be opened, and every list of calls, of the calls with their answers and of the
-- state that they have come to
abbrev pub OfEveryRun : (List Exchange → State → Type 0) → Type 0
OfEveryRun P =
    (capacity first : ℕ) (classes : List Class) → can_open capacity first classes ≡ true → (cs : List Call) → P (run cs (opening capacity first classes)) (end cs (opening capacity first classes))

-- for every core that can be opened, and every list of calls
abbrev pub HoldsOfEveryRun : Type 0
HoldsOfEveryRun = (capacity first : ℕ) (classes : List Class) → can_open capacity first classes ≡ true → (cs : List Call) → Law cs (opening capacity first classes)
