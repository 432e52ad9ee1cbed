-- What a step does to weak references: to their callbacks and referents, and to the lists and rounds that they stand in.
use Rattle.std.proofs.Common.{◌≡◌, ℕ, ◌<◌, ◌≤◌, ◌⊎◌, List, [], ◌∷◌, ◌++◌, sym, refl, ap, ◌∙◌, subst, inl, inr, MatchBool, arith}
use Rattle.std.proofs.lemmas.Bool.{ne_eqb}
use Rattle.definition.specs.Base.{put, count, without}
use Rattle.definition.specs.State.{Phase, Resting, DelOpen, Taking, Draining, Calling, Shape, State}
use Rattle.definition.specs.Changes.{with_phase}
use Rattle.definition.specs.Death.{found, give_up}
use Rattle.definition.proofs.Sums.{same, point}
use Rattle.definition.proofs.Advance.{give_up_cases}
use Rattle.law.proofs.Invariant.{Falling}
use Rattle.law.proofs.Steps.{falling_tail, falling_without}
use Rattle.law.proofs.Stages.{stage, phase_older, Ages, older_ages}

-- ---- falling lists

-- one of the list is left out
pub falling_drop : (n w : ℕ) (l m : List ℕ) → Falling n (l ++ (w ∷ m)) → Falling n (l ++ m)
unfolding Falling
falling_drop n w [] m f = falling_tail n w m f
falling_drop n w (x ∷ l) m f = (f.0, falling_drop x w l m f.1)

-- one is taken out of the second part
pub falling_left : (n w : ℕ) (l m : List ℕ) → Falling n (l ++ m) → Falling n (l ++ without w m)
unfolding Falling
falling_left n w [] m f = falling_without n w m f
falling_left n w (x ∷ l) m f = (f.0, falling_left x w l m f.1)

-- ---- what a step does

-- the death of o serves w, the first of its round: w loses its callback, and a turn opens exactly if a host attends
pub record Serves (s t : State) (o w : ℕ) : Type 0 where
  pub round : s.held o ≡ w ∷ t.held o
  pub phase : s.phase o ≡ Draining
  pub some : 0 < s.callback w
  pub gone : t.callback w ≡ 0
  pub turn : MatchBool s.attends (t.phase o ≡ Calling (s.callback w) w) (t.phase o ≡ Draining)

-- what becomes of the callback and the referent of w: nothing; the callback goes in the death of w; it is served; w is new
pub data Turned (s t : State) (w : ℕ) : Type 0 where
  same_as : t.callback w ≡ s.callback w → (t.shape w).referent ≡ (s.shape w).referent → Turned s t w
  own : 2 ≤ stage (s.phase w) → stage (s.phase w) ≤ 4 → t.callback w ≡ 0 → ((t.shape w).referent ≡ (s.shape w).referent) ⊎ (stage (t.phase w) ≡ 5) → Turned s t w
  served : (o : ℕ) → Serves s t o w → (t.shape w).referent ≡ (s.shape w).referent → Turned s t w
  plain : w ≡ s.next → t.callback w ≡ 0 → Turned s t w
  new : w ≡ s.next → stage (s.phase (t.shape w).referent) ≡ 1 → stage (t.phase (t.shape w).referent) ≡ 1 → 0 < count w (t.weak (t.shape w).referent) → Turned s t w

-- what becomes of w on the list of o: it stays; the round takes it; it is passed over or leaves by itself; o is freed
pub data Unlisted (s t : State) (o w : ℕ) : Type 0 where
  stays : 0 < count w (t.weak o) → Unlisted s t o w
  taken : 0 < count w (t.held o) → Unlisted s t o w
  passed : (stage (s.phase w) ≡ 1 → ⊥) → (2 ≤ stage (t.phase o)) ⊎ (t.callback w ≡ 0) → Unlisted s t o w
  over : stage (t.phase o) ≡ 5 → Unlisted s t o w

-- the round of o takes references: it has none yet, or goes on taking
abbrev pub Begins : State → ℕ → Type 0
Begins s o = (s.phase o ≡ Taking) ⊎ (s.held o ≡ [])

pub record Moved (s t : State) : Type 0 where
  pub ages : Ages s t
  pub turned : (w : ℕ) → Turned s t w
  -- a callback turn is open already, or opens for what is served
  pub calls : (o c w : ℕ) → t.phase o ≡ Calling c w → (s.phase o ≡ Calling c w) ⊎ ((s.callback w ≡ c) × Serves s t o w)
  -- what stands on a list stood there, or is a new reference to a live object
  pub listed : (o w : ℕ) → 0 < count w (t.weak o) → (0 < count w (s.weak o)) ⊎ ((w ≡ s.next) × ((t.shape w).referent ≡ o) × (stage (s.phase o) ≡ 1) × (stage (t.phase w) ≡ 1))
  pub unlisted : (o w : ℕ) → 0 < count w (s.weak o) → Unlisted s t o w
  -- a round takes from the list of its own object, until it begins to drain
  pub held : (o w : ℕ) → 0 < count w (t.held o) → (0 < count w (s.held o)) ⊎ ((0 < count w (s.weak o)) × Begins s o)
  -- what it lets go has no callback then, or its object is freed
  pub unheld : (o w : ℕ) → 0 < count w (s.held o) → (0 < count w (t.held o)) ⊎ ((t.callback w ≡ 0) ⊎ (stage (t.phase o) ≡ 5))
  -- a round with the list behind it goes on falling
  pub falls : (o : ℕ) → Falling s.next (s.held o ++ s.weak o) → Falling t.next (t.held o ++ t.weak o)
  -- places are emptied only when the list is empty
  pub bare : (o : ℕ) → 3 ≤ stage (t.phase o) → stage (t.phase o) ≤ 4 → ((3 ≤ stage (s.phase o)) × (stage (s.phase o) ≤ 4)) ⊎ ((w : ℕ) → count w (t.weak o) ≡ 0)
  -- what has all its places emptied is taken off the list of its referent
  pub leaves : (w : ℕ) → 4 ≤ stage (t.phase w) → (4 ≤ stage (s.phase w)) ⊎ (t.weak ((s.shape w).referent) ≡ without w (s.weak ((s.shape w).referent)))
  -- and only then is it freed
  pub frees : (o : ℕ) → stage (t.phase o) ≡ 5 → 4 ≤ stage (s.phase o)

-- ---- steps that leave lists, rounds, callbacks and referents alone

-- the fields that this rests on
pub record View : Type 0 where
  pub phase : ℕ → Phase
  pub shape : ℕ → Shape
  pub callback : ℕ → ℕ
  pub weak : ℕ → List ℕ
  pub held : ℕ → List ℕ
  pub next : ℕ

-- of a state
abbrev pub view : State → View
view s = record { phase = s.phase; shape = s.shape; callback = s.callback; weak = s.weak; held = s.held; next = s.next }

-- lists, rounds, callbacks and shapes stay, and objects come further
pub record Alike (s t : View) : Type 0 where
  pub callback : (w : ℕ) → t.callback w ≡ s.callback w
  pub shape : (w : ℕ) → t.shape w ≡ s.shape w
  pub weak : (o : ℕ) → t.weak o ≡ s.weak o
  pub held : (o : ℕ) → t.held o ≡ s.held o
  pub next : t.next ≡ s.next
  pub older : (o : ℕ) → stage (s.phase o) ≤ stage (t.phase o)
  -- none comes further than clearing, but one with an empty list, to the emptying of its places
  pub low : (o : ℕ) → 3 ≤ stage (t.phase o) → (stage (s.phase o) ≡ stage (t.phase o)) ⊎ ((stage (t.phase o) ≡ 3) × (s.weak o ≡ []))
  -- no callback turn opens
  pub calls : (o c w : ℕ) → t.phase o ≡ Calling c w → s.phase o ≡ Calling c w

abbrev pub Same : State → State → Type 0
Same s t = Alike (view s) (view t)

-- one phase changes
pub phase_same : (s : State) (o : ℕ) (p : Phase) → stage (s.phase o) ≤ stage p → (3 ≤ stage p → (stage (s.phase o) ≡ stage p) ⊎ ((stage p ≡ 3) × (s.weak o ≡ []))) → ((c w : ℕ) → p ≡ Calling c w → s.phase o ≡ Calling c w) → Same s (with_phase o p s)
phase_same s o p l f g = record {
  callback = λ w. refl;
  shape = λ w. refl;
  weak = λ y. refl;
  held = λ y. refl;
  next = refl;
  older = phase_older s o p l;
  low = point (λ y. 3 ≤ stage (put s.phase o p y) → (stage (s.phase y) ≡ stage (put s.phase o p y)) ⊎ ((stage (put s.phase o p y) ≡ 3) × (s.weak y ≡ []))) o (rw (same o) f) (λ y ne. rw (ne_eqb y o ne) (λ h. inl refl));
  calls = point (λ y. (c w : ℕ) → put s.phase o p y ≡ Calling c w → s.phase y ≡ Calling c w) o (rw (same o) g) (λ y ne. rw (ne_eqb y o ne) (λ c w e. e));
}

-- a step that changes nothing
pub same_refl : (s : State) → Same s s
same_refl s = record { callback = λ w. refl; shape = λ w. refl; weak = λ w. refl; held = λ w. refl; next = refl; older = λ o. omega arith; low = λ o h. inl refl; calls = λ o c w e. e }

-- two steps in one
pub same_trans : (s m t : State) → Same s m → Same m t → Same s t
same_trans s m t a b = record {
  callback = λ w. b.callback w ∙ a.callback w;
  shape = λ w. b.shape w ∙ a.shape w;
  weak = λ w. b.weak w ∙ a.weak w;
  held = λ w. b.held w ∙ a.held w;
  next = b.next ∙ a.next;
  older = λ o. omega (arith, a.older o, b.older o);
  low = λ o h. both o h (b.low o h);
  calls = λ o c w e. a.calls o c w (b.calls o c w e);
}
  where
    first : (o : ℕ) → stage (m.phase o) ≡ stage (t.phase o) → (stage (s.phase o) ≡ stage (m.phase o)) ⊎ ((stage (m.phase o) ≡ 3) × (s.weak o ≡ [])) → (stage (s.phase o) ≡ stage (t.phase o)) ⊎ ((stage (t.phase o) ≡ 3) × (s.weak o ≡ []))
    first o e (inl q) = inl (omega arith)
    first o e (inr q) = inr (omega (arith, q.0), q.1)

    both : (o : ℕ) → 3 ≤ stage (t.phase o) → (stage (m.phase o) ≡ stage (t.phase o)) ⊎ ((stage (t.phase o) ≡ 3) × (m.weak o ≡ [])) → (stage (s.phase o) ≡ stage (t.phase o)) ⊎ ((stage (t.phase o) ≡ 3) × (s.weak o ≡ []))
    both o h (inl e) = first o e (a.low o (omega arith))
    both o h (inr e) = inr (e.0, sym (a.weak o) ∙ e.1)

-- giving a reference up, with the death that it may start
pub give_up_same : (s : State) (x : ℕ) → Same s (give_up x s)
give_up_same s x =
    give_up_cases s x (Same s) (λ lo. same_refl s) (λ lo e. same_refl s)
    (λ lo ph e. (λ a. starts ph (DelOpen (found s x)) (omega arith) (omega arith) (λ c w q. let z : ◌≡◌ {A = ℕ} 0 1 = cc in absurd (omega arith)), λ a. starts ph Taking (omega arith) (omega arith) (λ c w q. let z : ◌≡◌ {A = ℕ} 0 1 = cc in absurd (omega arith))))
  where
    starts : s.phase x ≡ Resting → (p : Phase) → 1 ≤ stage p → stage p ≤ 2 → ((c w : ℕ) → p ≡ Calling c w → s.phase x ≡ Calling c w) → Same s (with_phase x p s)
    starts ph p l h g = phase_same s x p (rw ph l) (λ k. absurd (omega arith)) g

-- what leaves them alone is such a step
pub same_moved : (s t : State) → Same s t → Moved s t
same_moved s t m = record {
  ages = older_ages s t (sym m.next) m.older;
  turned = λ w. same_as (m.callback w) (ap (λ (x : Shape). x.referent) (m.shape w));
  calls = λ o c w e. inl (m.calls o c w e);
  listed = λ o w h. inl (subst (λ (l : List ℕ). 0 < count w l) (m.weak o) h);
  unlisted = λ o w h. stays (subst (λ (l : List ℕ). 0 < count w l) (sym (m.weak o)) h);
  held = λ o w h. inl (subst (λ (l : List ℕ). 0 < count w l) (m.held o) h);
  unheld = λ o w h. inl (subst (λ (l : List ℕ). 0 < count w l) (sym (m.held o)) h);
  falls = λ o f. rw (m.next, m.held o, m.weak o) f;
  bare = λ o h k. bare o h k (m.low o h);
  leaves = λ w h. leaves w h (m.low w (omega arith));
  frees = λ o e. frees o e (m.low o (omega arith));
}
  where
    bare : (o : ℕ) → 3 ≤ stage (t.phase o) → stage (t.phase o) ≤ 4 → (stage (s.phase o) ≡ stage (t.phase o)) ⊎ ((stage (t.phase o) ≡ 3) × (s.weak o ≡ [])) → ((3 ≤ stage (s.phase o)) × (stage (s.phase o) ≤ 4)) ⊎ ((w : ℕ) → count w (t.weak o) ≡ 0)
    bare o h k (inl e) = inl (omega arith, omega arith)
    bare o h k (inr e) = inr (λ w. rw (m.weak o, e.1) refl)

    leaves : (w : ℕ) → 4 ≤ stage (t.phase w) → (stage (s.phase w) ≡ stage (t.phase w)) ⊎ ((stage (t.phase w) ≡ 3) × (s.weak w ≡ [])) → (4 ≤ stage (s.phase w)) ⊎ (t.weak ((s.shape w).referent) ≡ without w (s.weak ((s.shape w).referent)))
    leaves w h (inl e) = inl (omega arith)
    leaves w h (inr e) = absurd (omega arith)

    frees : (o : ℕ) → stage (t.phase o) ≡ 5 → (stage (s.phase o) ≡ stage (t.phase o)) ⊎ ((stage (t.phase o) ≡ 3) × (s.weak o ≡ [])) → 4 ≤ stage (s.phase o)
    frees o e (inl q) = omega arith
    frees o e (inr q) = absurd (omega arith)
