-- What an accepted call changes of phases and of the stack.
use Rattle.std.proofs.Common.{◌≡◌, ℕ, ◌+◌, ◌-◌, true, false, List, [], ◌∷◌, set, refl, ap, subst, inl, inr, arith}
use Rattle.std.proofs.lemmas.Bool.{ne_eqb, both_ways, cond_both}
use Rattle.definition.specs.State.{Phase, Absent, Resting, DelOpen, Taking, Draining, Calling, Freeing, Leaving, State, is_unfreed, is_live}
use Rattle.definition.specs.Changes.{with_phase, with_places, with_handles, with_turns, with_stack}
use Rattle.definition.specs.Death.{loose, less, spent, clearing_begins}
use Rattle.definition.specs.Calls.{Call, Make, Hold, Drop, Store, Swap, SetDictionary, Weaken, Upgrade, ListWeak, Intern, Attend, SetDel, HandBack, Answers, content, dictionary_of, standing, reused, answering, handed, hold, hold_all, exchanged, new_reference, del_ends, handed_back, newest_back, replied, outcome}
use Rattle.definition.proofs.Sums.{same, point}
use Rattle.law.specs.Events.{Live, Cleared, Dying}
use Rattle.law.specs.Run.{What, Accepted, own_change}
use Rattle.law.specs.Law.{HandedBack}
use Rattle.law.proofs.Invariant.{Inv}
use Rattle.law.proofs.Granted.{Granted, names_live}
use Rattle.law.proofs.Living.{Goes, DelEnded, Happens, goes, comes, ends, stays, pops, Quiet, quiet, Changes, give_up_changes}
use Rattle.law.proofs.Smalls.{alike}

-- ---- calls that leave every death where it is

-- no phase changes, no round, nothing of what is given up, no callback, and no place of an object whose clearing has begun
pub record Same (s t : State) : Type 0 where
  pub phase : t.phase ≡ s.phase
  pub held : t.held ≡ s.held
  pub giving : t.giving ≡ s.giving
  pub stack : t.stack ≡ s.stack
  pub places : (o : ℕ) → Cleared s o → t.places o ≡ s.places o
  pub callback : t.callback ≡ s.callback

-- such a call starts and ends no death
unmoved : (s t : State) → Same s t → Quiet s t
unmoved s t m = record {
  phases = λ o. inl (ap (λ (f : ℕ → Phase). f o) m.phase);
  stack = m.stack;
  stills = λ o d n. record { phase = ap (λ (f : ℕ → Phase). f o) m.phase; round = ap (λ (f : ℕ → List ℕ). f o) m.held; giving = ap (λ (f : ℕ → List ℕ). f o) m.giving; places = m.places o; callback = λ c. ap (λ (f : ℕ → ℕ). f o) m.callback };
}

-- a count or a mark alone changes
plainly : (s t : State) → t.phase ≡ s.phase → t.held ≡ s.held → t.giving ≡ s.giving → t.stack ≡ s.stack → t.places ≡ s.places → t.callback ≡ s.callback → Same s t
plainly s t ph hd gv st pl cb = record { phase = ph; held = hd; giving = gv; stack = st; places = λ o c. ap (λ (f : ℕ → List ℕ). f o) pl; callback = cb }

-- handles given change nothing of this
hold_all_same : (s : State) (os : List ℕ) (t : State) → Same s t → Same s (hold_all os t)
hold_all_same s [] t m = m
hold_all_same s (o ∷ os) t m = hold_all_same s os (hold o t) (record { phase = m.phase; held = m.held; giving = m.giving; stack = m.stack; places = m.places; callback = m.callback })

-- a live object is not one whose clearing has begun
apart : (s : State) (o : ℕ) → Live s o → (y : ℕ) → Cleared s y → y ≡ o → ⊥
apart s o l y c e = both_ways (is_live (s.phase o)) (subst (λ v. is_live (s.phase v) ≡ false) e c.1) l

-- a place of a live object changes
placed_same : (s t : State) (o : ℕ) (l : List ℕ) → Live s o → t.phase ≡ s.phase → t.held ≡ s.held → t.giving ≡ s.giving → t.stack ≡ s.stack → t.places ≡ s.places → t.callback ≡ s.callback → Same s (with_places o l t)
placed_same s t o l lo ph hd gv st pl cb = record { phase = ph; held = hd; giving = gv; stack = st; places = λ y c. rw (ne_eqb y o (apart s o lo y c)) (ap (λ (f : ℕ → List ℕ). f y) pl); callback = cb }

-- one place of a live object is exchanged
exchanged_same : (s t : State) (o k v : ℕ) → Live s o → t.phase ≡ s.phase → t.held ≡ s.held → t.giving ≡ s.giving → t.stack ≡ s.stack → t.places ≡ s.places → t.callback ≡ s.callback → Same s (exchanged o k v t)
exchanged_same s t o k v lo ph hd gv st pl cb =
    let u = with_places o (set (t.places o) k v) t in
    let x = content t o k in
    let m = placed_same s t o (set (t.places o) k v) lo ph hd gv st pl cb in
    cond_both (loose u x) (with_handles x (u.handles x + 1) u) u (Same s) (λ e. record { phase = m.phase; held = m.held; giving = m.giving; stack = m.stack; places = m.places; callback = m.callback }) (λ e. m)

-- ---- a birth

-- what is dying is not the next to be born
older : (s : State) → Inv s [] → (o : ℕ) → Dying s o → o ≡ s.next → ⊥
older s i o d e = let a : is_unfreed Absent ≡ true = rw (i.frame.fresh s.next (inr (omega arith))) at (subst (Dying s) e d).0 in let z : ◌≡◌ {A = ℕ} 0 1 = cc in omega arith

-- one object more, at rest, and else nothing
born_changes : (what : What) (s t : State) → Inv s [] → t.phase s.next ≡ Resting → ((y : ℕ) → (y ≡ s.next → ⊥) → t.phase y ≡ s.phase y) → t.held ≡ s.held → t.giving ≡ s.giving → t.stack ≡ s.stack → ((y : ℕ) → (y ≡ s.next → ⊥) → t.places y ≡ s.places y) → ((y : ℕ) → (y ≡ s.next → ⊥) → t.callback y ≡ s.callback y) → Changes what s t
born_changes what s t i new ph hd gv st pl cb = record {
  phases = point (Happens what s t) s.next (comes (i.frame.fresh s.next (inr (omega arith))) new) (λ y ne. goes (inl (ph y ne)));
  stacks = stays st;
  stills = λ o d n. let ne = older s i o d in record { phase = ph o ne; round = ap (λ (f : ℕ → List ℕ). f o) hd; giving = ap (λ (f : ℕ → List ℕ). f o) gv; places = λ c. pl o ne; callback = λ c. cb o ne };
}

-- ---- a hand back

module _ (what : What) (back : HandedBack what) (s : State) (o : ℕ) (below : List ℕ) (st : s.stack ≡ o ∷ below) where
  -- a del turn ends: the object's clearing begins, or it is kept and leaves the stack
  del_ends_changes : (class : ℕ) → s.phase o ≡ DelOpen class → (u : State) → u.phase ≡ s.phase → u.held ≡ s.held → u.giving ≡ s.giving → u.stack ≡ s.stack → u.places ≡ s.places → u.callback ≡ s.callback → Changes what s (del_ends o below u)
  del_ends_changes class ph u eph hd gv est pl cb =
      let live : Live s o = rw ph refl in
      let dying : Dying s o = rw ph (refl, refl) in
      let m = unmoved s u (plainly s u eph hd gv est pl cb) in
      cond_both (spent u o) (clearing_begins o u) (with_stack below (with_phase o Resting u)) (Changes what s)
      (λ e. let t = clearing_begins o u in
      let ended : DelEnded s t o = rw e (live, rw (same o) (refl, refl)) in
      record {
        phases = point (Happens what s t) o (ends class ph back ended) (λ y ne. goes (rw (ne_eqb y o ne) (m.phases y)));
        stacks = stays est;
        stills = λ y d n. let q = m.stills y d n in record { phase = rw (ne_eqb y o (λ z. n below (rw z st))) q.phase; round = q.round; giving = q.giving; places = q.places; callback = q.callback };
      })
      (λ e. let t = with_stack below (with_phase o Resting u) in
      let ended : DelEnded s t o = rw e (dying, rw (same o) refl) in
      record {
        phases = point (Happens what s t) o (ends class ph back ended) (λ y ne. goes (rw (ne_eqb y o ne) (m.phases y)));
        stacks = pops o below st refl (rw (same o) refl);
        stills = λ y d n. let q = m.stills y d n in record { phase = rw (ne_eqb y o (λ z. n below (rw z st))) q.phase; round = q.round; giving = q.giving; places = q.places; callback = q.callback };
      })

  -- whatever the newest death waits for
  handed_back_changes : (p : Phase) → s.phase o ≡ p → Changes what s (handed_back p o below (with_turns (s.turns - 1) s))
  handed_back_changes Absent ph = quiet what s _ (unmoved s _ (plainly s _ refl refl refl refl refl refl))
  handed_back_changes Resting ph = quiet what s _ (unmoved s _ (plainly s _ refl refl refl refl refl refl))
  handed_back_changes (DelOpen c) ph =
      let u = with_turns (s.turns - 1) s in
      cond_both (loose u o) (less o u) u (λ v. Changes what s (del_ends o below v)) (λ e. del_ends_changes c ph (less o u) refl refl refl refl refl refl) (λ e. del_ends_changes c ph u refl refl refl refl refl refl)
  handed_back_changes Taking ph = quiet what s _ (unmoved s _ (plainly s _ refl refl refl refl refl refl))
  handed_back_changes Draining ph = quiet what s _ (unmoved s _ (plainly s _ refl refl refl refl refl refl))
  handed_back_changes (Calling c w) ph =
      let t = with_phase o Draining (with_turns (s.turns - 1) s) in
      quiet what s t
      (record {
        phases = point (Goes s t) o (inr (rw ph (refl, refl), rw (same o) refl)) (λ y ne. inl (rw (ne_eqb y o ne) refl));
        stack = refl;
        stills = λ y d n. record { phase = rw (ne_eqb y o (λ z. n below (rw z st))) refl; round = refl; giving = refl; places = λ c. refl; callback = λ c. refl };
      })
  handed_back_changes (Freeing k) ph = quiet what s _ (unmoved s _ (plainly s _ refl refl refl refl refl refl))
  handed_back_changes Leaving ph = quiet what s _ (unmoved s _ (plainly s _ refl refl refl refl refl refl))

-- and where nothing is dying, nothing changes
newest_back_changes : (what : What) → HandedBack what → (s : State) (l : List ℕ) → s.stack ≡ l → Changes what s (newest_back l s)
newest_back_changes what back s [] st = quiet what s s (unmoved s s (plainly s s refl refl refl refl refl refl))
newest_back_changes what back s (o ∷ below) st = handed_back_changes what back s o below st (s.phase o) refl

-- ---- the calls

-- what an accepted call changes, before the deaths that follow
pub own_changes : (c : Call) (s : State) → Inv s [] → Granted c s → Changes (Accepted c (replied (outcome c s))) s (own_change (outcome c s))
unfolding outcome
own_changes (Make class dictionary payload) s i g = born_changes _ s _ i (rw (same s.next) refl) (λ y ne. rw (ne_eqb y s.next ne) refl) refl refl refl (λ y ne. rw (ne_eqb y s.next ne) refl) (λ y ne. rw (ne_eqb y s.next ne) refl)
own_changes (Hold o) s i g = quiet _ s (hold o s) (unmoved s (hold o s) (plainly s (hold o s) refl refl refl refl refl refl))
own_changes (Drop o lent) s i g =
    let u = handed (Drop o lent) s in
    give_up_changes _ s u o (alike s u (unmoved s u (plainly s u refl refl refl refl refl refl)) refl refl refl (λ y. refl))
own_changes (Store o slot v) s i g =
    let lo = names_live s o g.named.0 g.living.0 in
    quiet _ s _ (unmoved s _ (exchanged_same s (handed (Store o slot v) s) o _ v lo refl refl refl refl refl refl))
own_changes (Swap o edge v) s i g =
    let lo = names_live s o g.named.0 g.living.0 in
    quiet _ s _ (unmoved s _ (exchanged_same s (handed (Swap o edge v) s) o _ v lo refl refl refl refl refl refl))
own_changes (SetDictionary o dictionary lent) s i g =
    let lo = names_live s o g.named.0 g.living.0 in
    let t = handed (SetDictionary o dictionary lent) s in
    let l = set (s.places o) 0 dictionary in
    let u = with_places o l t in
    give_up_changes _ s u (dictionary_of s o) (alike s u (unmoved s u (placed_same s t o l lo refl refl refl refl refl refl)) refl refl refl (λ y. refl))
own_changes (Weaken class o callback dictionary) s i g =
    cond_both (reused s class o callback) (Answers (s.cached o) [] (hold (s.cached o) s)) (Answers s.next [] (new_reference class o callback dictionary (handed (Weaken class o callback dictionary) s))) (λ out. Changes (Accepted (Weaken class o callback dictionary) (replied out)) s (own_change out))
    (λ e. quiet _ s (hold (s.cached o) s) (unmoved s _ (plainly s _ refl refl refl refl refl refl)))
    (λ e. born_changes _ s _ i (rw (same s.next) refl) (λ y ne. rw (ne_eqb y s.next ne) refl) refl refl refl (λ y ne. rw (ne_eqb y s.next ne) refl) (λ y ne. rw (ne_eqb y s.next ne) refl))
own_changes (Upgrade w) s i g =
    cond_both (answering s w) (Answers (s.shape w).referent [] (hold (s.shape w).referent s)) (Answers 0 [] s) (λ out. Changes (Accepted (Upgrade w) (replied out)) s (own_change out))
    (λ e. quiet _ s (hold (s.shape w).referent s) (unmoved s _ (plainly s _ refl refl refl refl refl refl)))
    (λ e. quiet _ s s (unmoved s s (plainly s s refl refl refl refl refl refl)))
own_changes (ListWeak o lent) s i g = quiet _ s _ (unmoved s _ (hold_all_same s (standing s o) s (plainly s s refl refl refl refl refl refl)))
own_changes (Intern o) s i g = quiet _ s _ (unmoved s _ (plainly s _ refl refl refl refl refl refl))
own_changes (Attend host) s i g = quiet _ s _ (unmoved s _ (plainly s _ refl refl refl refl refl refl))
own_changes (SetDel class del) s i g = quiet _ s _ (unmoved s _ (plainly s _ refl refl refl refl refl refl))
own_changes (HandBack turn lent) s i g = newest_back_changes _ (turn, lent, _, refl) s s.stack refl
