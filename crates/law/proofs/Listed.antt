-- What stands in a weak list or in a round refers to the object whose list or round it is, at every moment.
use Rattle.std.proofs.Common.{◌≡◌, ℕ, suc, ◌<◌, ◌≤◌, Bool, true, false, not, ◌&&◌, eqb, ◌⊎◌, List, [], ◌∷◌, ◌++◌, get_or, set, sym, refl, ap, inl, inr, arith}
use Rattle.std.proofs.lemmas.Bool.{both_ways, ne_eqb, eqb-true, eqb-false, cases_eq, cases_lt, cond_both}
use Rattle.definition.specs.Base.{put, count, without}
use Rattle.definition.specs.State.{Phase, Absent, Resting, DelOpen, Taking, Draining, Calling, Freeing, Leaving, Shape, no_shape, State}
use Rattle.definition.specs.Changes.{with_phase, with_places, with_callback, with_giving}
use Rattle.definition.specs.Death.{spent, takes, drains, unlisted, leaving, give_up, advance}
use Rattle.definition.proofs.Sums.{same, point, term_le_sum, count_cons, count_append, count_here, count_other, count_length}
use Rattle.definition.proofs.Advance.{give_up_cases, advance_cases}
use Rattle.law.proofs.Invariant.{Falling, lent_by, lent, Inv}
use Rattle.law.proofs.Steps.{on_top}

-- lists and rounds hold references to their object, and a reference that leaves is in no list any more
pub record Listing (shape : ℕ → Shape) (weak held : ℕ → List ℕ) (phase : ℕ → Phase) : Type 0 where
  pub listed : (o w : ℕ) → 0 < count w (weak o) → (shape w).referent ≡ o
  pub round : (o w : ℕ) → 0 < count w (held o) → (shape w).referent ≡ o
  pub left : (o w : ℕ) → phase w ≡ Leaving → count w (weak o) ≡ 0

abbrev pub Listed : State → Type 0
Listed s = Listing s.shape s.weak s.held s.phase

-- the last phase
abbrev pub is_leaving : Phase → Bool
is_leaving Absent = false
is_leaving Resting = false
is_leaving (DelOpen c) = false
is_leaving Taking = false
is_leaving Draining = false
is_leaving (Calling c w) = false
is_leaving (Freeing k) = false
is_leaving Leaving = true

-- ---- lists

-- births from n on are not in a list that falls below n
pub falling_above : (n w : ℕ) (l : List ℕ) → Falling n l → n ≤ w → count w l ≡ 0
unfolding Falling
falling_above n w [] f h = refl
falling_above n w (x ∷ xs) f h = omega (arith, count_cons w x xs, count_other w x (λ q. omega (arith, f.0)), falling_above x w xs f.1 (omega (arith, f.0)))

-- once taken out, a birth is not in a falling list
falling_out : (n w : ℕ) (l : List ℕ) → Falling n l → count w (without w l) ≡ 0
unfolding Falling
falling_out n w [] f = refl
falling_out n w (x ∷ xs) f =
    cond_both (eqb x w) xs (x ∷ without w xs) (λ (v : List ℕ). count w v ≡ 0)
    (λ e. falling_above x w xs f.1 (omega (arith, eqb-true x w e)))
    (λ e. omega (arith, count_cons w x (without w xs), count_other w x (λ q. eqb-false x w e (sym q)), falling_out x w xs f.1))

-- and nothing else comes in
count_without : (y w : ℕ) (l : List ℕ) → count y (without w l) ≤ count y l
count_without y w [] = omega arith
count_without y w (x ∷ xs) = cond_both (eqb x w) xs (x ∷ without w xs) (λ (v : List ℕ). count y v ≤ count y (x ∷ xs)) (λ e. omega (arith, count_cons y x xs)) (λ e. omega (arith, count_cons y x xs, count_cons y x (without w xs), count_without y w xs))

-- ---- one thing changes

module _ {sh : ℕ → Shape} {wk hd : ℕ → List ℕ} {ph : ℕ → Phase} (l : Listing sh wk hd ph) where
  -- another phase, but not the last
  pub phase_listed : (o : ℕ) (p : Phase) → is_leaving p ≡ false → Listing sh wk hd (put ph o p)
  phase_listed o p n = record { listed = l.listed; round = l.round; left = λ r. point (λ w. put ph o p w ≡ Leaving → count w (wk r) ≡ 0) o (λ e. absurd (both_ways (is_leaving p) n (ap is_leaving (rw (same o) at e)))) (λ w ne e. l.left r w (rw (ne_eqb w o ne) at e)) }

  -- a list loses some
  weak_listed : (o : ℕ) (v : List ℕ) → ((w : ℕ) → count w v ≤ count w (wk o)) → Listing sh (put wk o v) hd ph
  weak_listed o v h = record {
    listed = point (λ r. (w : ℕ) → 0 < count w (put wk o v r) → (sh w).referent ≡ r) o (λ w c. let d : 0 < count w v = rw (same o) at c in l.listed o w (omega (arith, h w))) (λ r ne w c. l.listed r w (rw (ne_eqb r o ne) at c));
    round = l.round;
    left = point (λ r. (w : ℕ) → ph w ≡ Leaving → count w (put wk o v r) ≡ 0) o (λ w e. rw (same o) (omega (arith, h w, l.left o w e))) (λ r ne w e. rw (ne_eqb r o ne) (l.left r w e));
  }

  -- a round has others that refer to its object
  held_listed : (o : ℕ) (v : List ℕ) → ((w : ℕ) → 0 < count w v → (sh w).referent ≡ o) → Listing sh wk (put hd o v) ph
  held_listed o v h = record {
    listed = l.listed;
    round = point (λ r. (w : ℕ) → 0 < count w (put hd o v r) → (sh w).referent ≡ r) o (λ w c. h w (rw (same o) at c)) (λ r ne w c. l.round r w (rw (ne_eqb r o ne) at c));
    left = l.left;
  }

  -- a list gets one that refers to its object
  pub cons_listed : (o x : ℕ) → (sh x).referent ≡ o → is_leaving (ph x) ≡ false → Listing sh (put wk o (x ∷ wk o)) hd ph
  cons_listed o x e n = record {
    listed = point (λ r. (w : ℕ) → 0 < count w (put wk o (x ∷ wk o) r) → (sh w).referent ≡ r) o (λ w c. one w (cases_eq w x) (rw (same o) at c)) (λ r ne w c. l.listed r w (rw (ne_eqb r o ne) at c));
    round = l.round;
    left = point (λ r. (w : ℕ) → ph w ≡ Leaving → count w (put wk o (x ∷ wk o) r) ≡ 0) o (λ w z. rw (same o) (none w (cases_eq w x) z)) (λ r ne w z. rw (ne_eqb r o ne) (l.left r w z));
  }
    where
      one : (w : ℕ) → (w ≡ x) ⊎ (w ≡ x → ⊥) → 0 < count w (x ∷ wk o) → (sh w).referent ≡ o
      one w (inl q) c = rw q e
      one w (inr ne) c = l.listed o w (omega (arith, count_cons w x (wk o), count_other w x ne))

      none : (w : ℕ) → (w ≡ x) ⊎ (w ≡ x → ⊥) → ph w ≡ Leaving → count w (x ∷ wk o) ≡ 0
      none w (inl q) z = absurd (both_ways (is_leaving (ph x)) n (ap is_leaving (rw q at z)))
      none w (inr ne) z = omega (arith, count_cons w x (wk o), count_other w x ne, l.left o w z)

  -- one leaves, and is taken out of the list of its referent
  leaves_listed : (n o : ℕ) → ((r : ℕ) → Falling n (wk r)) → Listing sh (put wk (sh o).referent (without o (wk (sh o).referent))) hd (put ph o Leaving)
  leaves_listed n o f =
      let r₀ = (sh o).referent in
      let v = without o (wk r₀) in
      let m = weak_listed r₀ v (λ w. count_without w o (wk r₀)) in
      record {
        listed = m.listed;
        round = m.round;
        left = λ r. point (λ w. put ph o Leaving w ≡ Leaving → count w (put wk r₀ v r) ≡ 0) o (λ e. out r (cases_eq r r₀)) (λ w ne e. m.left r w (rw (ne_eqb w o ne) at e));
      }
    where
      out : (r : ℕ) → (r ≡ (sh o).referent) ⊎ (r ≡ (sh o).referent → ⊥) → count o (put wk (sh o).referent (without o (wk (sh o).referent)) r) ≡ 0
      out r (inl q) = rw (q, same (sh o).referent) (falling_out n o (wk (sh o).referent) (f (sh o).referent))
      out r (inr ne) = rw (ne_eqb r (sh o).referent ne) (go (cases_lt 0 (count o (wk r))))
        where
          go : (0 < count o (wk r)) ⊎ (count o (wk r) ≤ 0) → count o (wk r) ≡ 0
          go (inl c) = absurd (ne (sym (l.listed r o c)))
          go (inr c) = omega arith

  -- what is in no list and in no round gets another shape
  pub shape_listed : (o : ℕ) (v : Shape) → ((r : ℕ) → count o (wk r) ≡ 0) → ((r : ℕ) → count o (hd r) ≡ 0) → Listing (put sh o v) wk hd ph
  shape_listed o v a b = record {
    listed = λ r. point (λ w. 0 < count w (wk r) → (put sh o v w).referent ≡ r) o (λ c. absurd (omega (arith, a r))) (λ w ne c. rw (ne_eqb w o ne) (l.listed r w c));
    round = λ r. point (λ w. 0 < count w (hd r) → (put sh o v w).referent ≡ r) o (λ c. absurd (omega (arith, b r))) (λ w ne c. rw (ne_eqb w o ne) (l.round r w c));
    left = l.left;
  }

-- ---- deaths

-- giving up a reference changes no list
pub give_up_listed : (s : State) (x : ℕ) → Listed s → Listed (give_up x s)
give_up_listed s x l =
    give_up_cases s x Listed (λ lo. l) (λ lo e. l)
    (λ lo ph e. (λ a. phase_listed l x (DelOpen _) refl, λ a. phase_listed l x Taking refl))

-- what a round takes comes off the list of the same object
takes_listed : (s : State) (o : ℕ) → Listed s → (w : ℕ) (rest : List ℕ) → s.weak o ≡ w ∷ rest → Listed (takes w rest o s)
takes_listed s o l w rest wk =
    let fewer = weak_listed l o rest (λ y. rw wk (omega (arith, count_cons y w rest))) in
    let off = phase_listed fewer o Taking refl in
    cond_both (spent s w) _ _ Listed (λ e. off)
    (λ e. held_listed off o (s.held o ++ (w ∷ [])) (λ y c. by y (cases_eq y w) c))
  where
    by : (y : ℕ) → (y ≡ w) ⊎ (y ≡ w → ⊥) → 0 < count y (s.held o ++ (w ∷ [])) → (s.shape y).referent ≡ o
    by y (inl q) c = rw q (l.listed o w (rw wk (count_here w rest)))
    by y (inr ne) c = l.round o y (omega (arith, count_append y (s.held o) (w ∷ []), count_other y w ne))

-- a round loses the first
drains_listed : (s : State) (o : ℕ) → Listed s → (w : ℕ) (ws : List ℕ) → s.held o ≡ w ∷ ws → Listed (drains w ws o s)
drains_listed s o l w ws hd =
    let fewer = held_listed l o ws (λ y c. l.round o y (rw hd (omega (arith, count_cons y w ws)))) in
    cond_both (s.attends && not (eqb (s.callback w) 0)) _ _ Listed (λ e. phase_listed fewer o (Calling (s.callback w) w) refl) (λ e. fewer)

-- what no reference is left to is in no round
pub unheld : (s : State) → Inv s [] → (w : ℕ) → 0 < w → s.strong w ≡ 0 → (o : ℕ) → count w (s.held o) ≡ 0
unfolding lent
unheld s i w pw e o = go (cases_lt o s.next)
  where
    go : (o < s.next) ⊎ (s.next ≤ o) → count w (s.held o) ≡ 0
    go (inl h) = omega (arith, (i.good w pw).counted, term_le_sum s.next o (lent_by s w) h)
    go (inr h) = let po : 0 < o = omega (arith, i.frame.first) in omega (arith, count_length w (s.held o), (rw (i.frame.fresh o (inr h)) at (i.good o po).left).1)

-- the object is freed
frees_listed : (s : State) → Inv s [] → (o : ℕ) (below : List ℕ) → 0 < o → s.phase o ≡ Leaving → Listed s → Listed (leaving o below s)
frees_listed s i o below po ph l =
    let gone : s.strong o ≡ 0 = let q = (rw ph at (i.good o po).left).0 in omega arith in
    let a = shape_listed l o no_shape (λ r. l.left r o ph) (unheld s i o po gone) in
    let b = weak_listed a o [] (λ w. omega arith) in
    let c = held_listed b o [] (λ w z. absurd (omega arith)) in
    phase_listed c o Absent refl

-- each step of a death keeps it
pub advance_listed : (s : State) → Inv s [] → Listed s → Listed (advance s)
advance_listed s i l = advance_cases s Listed (record {
  idle = λ r. l;
  gives = λ o below top x xs gv. give_up_listed (with_giving o xs s) x l;
  takes = λ o below top gv r w rest wk few. takes_listed s o l w rest wk;
  completes = λ o below top gv ph w ws hd. phase_listed l o Draining refl;
  clears = λ o below top gv r hd wk. phase_listed l o (Freeing 0) refl;
  drains = λ o below top gv ph w ws hd. drains_listed s o l w ws hd;
  empties = λ o below top gv k ph h. give_up_listed (with_phase o (Freeing (suc k)) (with_places o (set (s.places o) k 0) s)) (get_or (s.places o) k 0) (phase_listed l o (Freeing (suc k)) refl);
  leaves = λ o below top gv k ph h. give_up_listed (with_phase o Leaving (with_callback o 0 (unlisted o s))) (s.callback o) (leaves_listed l s.next o i.lists);
  frees = λ o below top gv ph. frees_listed s i o below (on_top s [] i o below top.stack).0 ph l;
})
