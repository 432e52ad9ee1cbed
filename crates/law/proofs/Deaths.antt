-- How deaths start, how del turns open and end, and how clearing begins: the fields of the law that concern one step alone.
use Rattle.std.proofs.Common.{◌≡◌, ℕ, false, not, ◌&&◌, eqb, ◌⊎◌, sym, refl, ◌∙◌, inl, inr, MatchBool}
use Rattle.std.proofs.lemmas.Bool.{both_ways}
use Rattle.definition.specs.State.{DelOpen, is_unfreed, is_live, is_resting, is_open}
use Rattle.definition.specs.Death.{found}
use Rattle.definition.proofs.Advance.{resting_phase}
use Rattle.law.specs.Run.{Step}
use Rattle.law.specs.Events.{Dies, Kept, Clears, OpensDel}
use Rattle.law.specs.Law.{HandedBack, del_turn}
use Rattle.law.proofs.Living.{Happens, goes, comes, asks, clears, ends, Changes}

-- five fields of the record Lives
pub record OneStep (st : Step) : Type 0 where
  pub starts : (o : ℕ) → Dies st o → (st.before.strong o ≡ 1) × (st.before.interned o ≡ false) × MatchBool (st.before.attends && not (eqb (found st.before o) 0)) (OpensDel st o (found st.before o)) (Clears st o)
  pub started : (o : ℕ) → Dies st o → st.after.strong o ≡ del_turn (st.after.phase o)
  pub del_opens : (o class : ℕ) → OpensDel st o class → Dies st o
  pub del_ends : (o class : ℕ) → st.before.phase o ≡ DelOpen class → (st.after.phase o ≡ DelOpen class) ⊎ (HandedBack st.what × MatchBool (eqb (st.after.strong o) 0 && not (st.after.interned o)) (Clears st o) (Kept st o))
  pub clears : (o : ℕ) → Clears st o → Dies st o ⊎ ((class : ℕ) × (st.before.phase o ≡ DelOpen class))

module _ (st : Step) (ch : Changes st.what st.before st.after) where
  -- a death starts with the last reference, and with a del turn if a host attends and a del is found
  starts : (o : ℕ) → Dies st o → (st.before.strong o ≡ 1) × (st.before.interned o ≡ false) × MatchBool (st.before.attends && not (eqb (found st.before o) 0)) (OpensDel st o (found st.before o)) (Clears st o)
  starts o d = go (ch.phases o)
    where
      go : Happens st.what st.before st.after o → (st.before.strong o ≡ 1) × (st.before.interned o ≡ false) × MatchBool (st.before.attends && not (eqb (found st.before o) 0)) (OpensDel st o (found st.before o)) (Clears st o)
      go (goes (inl e)) = absurd (both_ways (is_resting (st.after.phase o)) d.1.1 (rw e d.0))
      go (goes (inr c)) = absurd (both_ways (is_live (st.before.phase o)) c.0.1 (rw (resting_phase (st.before.phase o) d.0) refl))
      go (comes a b) = absurd (both_ways (is_resting (st.before.phase o)) (rw a refl) d.0)
      go (asks l e ph k n) = (l.one, l.unmarked, rw e (rw l.rests refl, ph))
      go (clears l e ph k n) = (l.one, l.unmarked, rw e (rw l.rests refl, rw ph (refl, refl)))
      go (ends class ph h e) = absurd (both_ways (is_resting (st.before.phase o)) (rw ph refl) d.0)

  -- and then no other reference is left than that del turn
  started : (o : ℕ) → Dies st o → st.after.strong o ≡ del_turn (st.after.phase o)
  started o d = go (ch.phases o)
    where
      go : Happens st.what st.before st.after o → st.after.strong o ≡ del_turn (st.after.phase o)
      go (goes (inl e)) = absurd (both_ways (is_resting (st.after.phase o)) d.1.1 (rw e d.0))
      go (goes (inr c)) = absurd (both_ways (is_live (st.before.phase o)) c.0.1 (rw (resting_phase (st.before.phase o) d.0) refl))
      go (comes a b) = absurd (both_ways (is_resting (st.before.phase o)) (rw a refl) d.0)
      go (asks l e ph k n) = rw ph n
      go (clears l e ph k n) = rw ph n
      go (ends class ph h e) = absurd (both_ways (is_resting (st.before.phase o)) (rw ph refl) d.0)

  -- no del turn opens otherwise
  del_opens : (o class : ℕ) → OpensDel st o class → Dies st o
  del_opens o class d = go (ch.phases o)
    where
      go : Happens st.what st.before st.after o → Dies st o
      go (goes (inl e)) = absurd (both_ways (is_open (st.before.phase o)) d.0 (rw (sym e ∙ d.1) refl))
      go (goes (inr c)) = absurd (both_ways (is_live (st.after.phase o)) c.1 (rw d.1 refl))
      go (comes a b) = absurd (both_ways (is_resting (st.after.phase o)) (rw d.1 refl) (rw b refl))
      go (asks l e ph k n) = (rw l.rests refl, rw ph (refl, refl))
      go (clears l e ph k n) = (rw l.rests refl, rw ph (refl, refl))
      go (ends class' ph h e) = absurd (both_ways (is_open (st.before.phase o)) d.0 (rw ph refl))

  -- a del turn stays open, or its hand back ends it
  del_ends : (o class : ℕ) → st.before.phase o ≡ DelOpen class → (st.after.phase o ≡ DelOpen class) ⊎ (HandedBack st.what × MatchBool (eqb (st.after.strong o) 0 && not (st.after.interned o)) (Clears st o) (Kept st o))
  del_ends o class d = go (ch.phases o)
    where
      go : Happens st.what st.before st.after o → (st.after.phase o ≡ DelOpen class) ⊎ (HandedBack st.what × MatchBool (eqb (st.after.strong o) 0 && not (st.after.interned o)) (Clears st o) (Kept st o))
      go (goes (inl e)) = inl (e ∙ d)
      go (goes (inr c)) = absurd (both_ways (is_live (st.before.phase o)) c.0.1 (rw d refl))
      go (comes a b) = absurd (both_ways (is_unfreed (st.before.phase o)) (rw a refl) (rw d refl))
      go (asks l e ph k n) = absurd (both_ways (is_resting (st.before.phase o)) (rw d refl) (rw l.rests refl))
      go (clears l e ph k n) = absurd (both_ways (is_resting (st.before.phase o)) (rw d refl) (rw l.rests refl))
      go (ends class' ph h e) = inr (h, e)

  -- clearing begins with a death or with the end of a del turn
  clearing : (o : ℕ) → Clears st o → Dies st o ⊎ ((class : ℕ) × (st.before.phase o ≡ DelOpen class))
  clearing o d = go (ch.phases o)
    where
      go : Happens st.what st.before st.after o → Dies st o ⊎ ((class : ℕ) × (st.before.phase o ≡ DelOpen class))
      go (goes (inl e)) = absurd (both_ways (is_live (st.after.phase o)) d.1.1 (rw e d.0))
      go (goes (inr c)) = absurd (both_ways (is_live (st.before.phase o)) c.0.1 d.0)
      go (comes a b) = absurd (both_ways (is_live (st.before.phase o)) (rw a refl) d.0)
      go (asks l e ph k n) = inl (rw l.rests refl, rw ph (refl, refl))
      go (clears l e ph k n) = inl (rw l.rests refl, rw ph (refl, refl))
      go (ends class' ph h e) = inr (class', ph)

  -- the five of them
  pub one_step : OneStep st
  one_step = record { starts = starts; started = started; del_opens = del_opens; del_ends = del_ends; clears = clearing }
