-- What one step changes: of each object its phase, and of the stack; the deaths that are not the newest stand still.
use Rattle.std.proofs.Common.{◌≡◌, ℕ, ◌-◌, Bool, true, false, not, ◌&&◌, eqb, ltb, ◌⊎◌, List, ◌∷◌, refl, sym, ap, ◌∙◌, subst, inl, inr, arith, MatchBool}
use Rattle.std.proofs.lemmas.Bool.{ne_eqb, ltb-true}
use Rattle.definition.specs.Base.{bit}
use Rattle.definition.specs.State.{Absent, Resting, DelOpen, Taking, State, is_live, is_resting}
use Rattle.definition.specs.Death.{less, spent, found, pushed, del_opens, clearing_begins, give_up}
use Rattle.definition.proofs.Sums.{same, point}
use Rattle.definition.proofs.Advance.{is_dying, give_up_cases}
use Rattle.law.specs.Events as events
use Rattle.law.specs.Events.{Live, Cleared, Dying}
use Rattle.law.specs.Run.{What}
use Rattle.law.specs.Law.{HandedBack, Still}
use Rattle.law.proofs.Invariant.{now_spent}

-- ---- what is so of an object's phase before a step and after it

-- it stays, or a clearing goes on or ends
abbrev pub Goes : State → State → ℕ → Type 0
Goes s t o = (t.phase o ≡ s.phase o) ⊎ (Cleared s o × (is_live (t.phase o) ≡ false))

-- the last reference to o, at rest, is given up, and no mark keeps it
pub record Last (s : State) (o : ℕ) : Type 0 where
  pub rests : s.phase o ≡ Resting
  pub one : s.strong o ≡ 1
  pub unmarked : s.interned o ≡ false

-- how the hand back of a del turn ends it
abbrev pub DelEnded : State → State → ℕ → Type 0
DelEnded s t o = MatchBool (eqb (t.strong o) 0 && not (t.interned o)) (Live s o × Cleared t o) (Dying s o × events.Resting t o)

-- besides: o is born; its death starts, with a del turn or with its clearing; its del turn ends
pub data Happens (what : What) (s t : State) (o : ℕ) : Type 0 where
  goes : Goes s t o → Happens what s t o
  comes : s.phase o ≡ Absent → t.phase o ≡ Resting → Happens what s t o
  asks : Last s o → (s.attends && not (eqb (found s o) 0)) ≡ true → t.phase o ≡ DelOpen (found s o) → t.stack ≡ o ∷ s.stack → t.strong o ≡ 1 → Happens what s t o
  clears : Last s o → (s.attends && not (eqb (found s o) 0)) ≡ false → t.phase o ≡ Taking → t.stack ≡ o ∷ s.stack → t.strong o ≡ 0 → Happens what s t o
  ends : (class : ℕ) → s.phase o ≡ DelOpen class → HandedBack what → DelEnded s t o → Happens what s t o

-- ---- of the stack

-- it stays, the death that starts is put on it, or the one that ends is taken off
pub data Stacks (s t : State) : Type 0 where
  stays : t.stack ≡ s.stack → Stacks s t
  pushes : (x : ℕ) → t.stack ≡ x ∷ s.stack → Stacks s t
  pops : (x : ℕ) (below : List ℕ) → s.stack ≡ x ∷ below → t.stack ≡ below → is_dying (t.phase x) ≡ false → Stacks s t

-- o is not the newest of the dying
abbrev pub Under : State → ℕ → Type 0
Under s o = (below : List ℕ) → s.stack ≡ o ∷ below → ⊥

-- ---- what one step changes

-- of every object its phase, of the stack, and that a death which is not the newest takes no step
pub record Changes (what : What) (s t : State) : Type 0 where
  pub phases : (o : ℕ) → Happens what s t o
  pub stacks : Stacks s t
  pub stills : (o : ℕ) → Dying s o → Under s o → Still s t o

-- no death starts or ends, and none but the newest takes a step
pub record Quiet (s t : State) : Type 0 where
  pub phases : (o : ℕ) → Goes s t o
  pub stack : t.stack ≡ s.stack
  pub stills : (o : ℕ) → Dying s o → Under s o → Still s t o

-- such a step changes no more than what a step may change
pub quiet : (what : What) (s t : State) → Quiet s t → Changes what s t
quiet what s t q = record { phases = λ o. goes (q.phases o); stacks = stays q.stack; stills = q.stills }

-- ---- giving up a reference

-- what is so of the state from which a step gives up a reference: in what counts for a death that may start, it is as before
pub record Alike (s u : State) : Type 0 where
  pub quiet : Quiet s u
  pub strong : (o : ℕ) → u.strong o ≡ s.strong o
  pub interned : (o : ℕ) → u.interned o ≡ s.interned o
  pub attends : u.attends ≡ s.attends
  pub found : (o : ℕ) → found u o ≡ found s o

-- an object that is at rest after was at rest before
rested : (s u : State) → Quiet s u → (x : ℕ) → u.phase x ≡ Resting → s.phase x ≡ Resting
rested s u q x ph = go (q.phases x)
  where
    go : Goes s u x → s.phase x ≡ Resting
    go (inl e) = sym e ∙ ph
    go (inr d) = let e : is_live Resting ≡ false = rw ph at d.1 in let z : ◌≡◌ {A = ℕ} 0 1 = cc in absurd (omega arith)

-- what is dying is not at rest
awake : (s : State) (o : ℕ) → Dying s o → s.phase o ≡ Resting → ⊥
awake s o d ph = let e : is_resting Resting ≡ false = rw ph at d.1 in let z : ◌≡◌ {A = ℕ} 0 1 = cc in omega arith

module _ (what : What) (s u : State) (x : ℕ) (a : Alike s u) where
  -- one reference fewer is nothing to a death under way
  less_quiet : Quiet s (less x u)
  less_quiet = record {
    phases = a.quiet.phases;
    stack = a.quiet.stack;
    stills = λ o d n. let q = a.quiet.stills o d n in record { phase = q.phase; round = q.round; giving = q.giving; places = q.places; callback = q.callback };
  }

  -- where giving up a reference starts a death, it was the last, and no mark was there
  last : ltb (u.handles x) (u.strong x) ≡ true → u.phase x ≡ Resting → spent (less x u) x ≡ true → Last s x
  last lo ph sp =
      let z = now_spent (u.strong x - 1) (u.interned x) (rw (same x) at sp) in
      record {
        rests = rested s u a.quiet x ph;
        one = omega (arith, ltb-true (u.handles x) (u.strong x) lo, a.strong x);
        unmarked = sym (a.interned x) ∙ no_mark (u.interned x) z.1;
      }
    where
      no_mark : (b : Bool) → bit b ≡ 0 → b ≡ false
      no_mark true e = absurd (omega arith)
      no_mark false e = refl

  -- whose death starts was not dying, so the deaths under way stand still
  others : u.phase x ≡ Resting → (o : ℕ) → Dying s o → Under s o → (eqb o x ≡ false) × Still s u o
  others ph o d n = (ne_eqb o x (λ e. awake s x (subst (Dying s) e d) (rested s u a.quiet x ph)), a.quiet.stills o d n)

  -- what a step changes that gives up a reference at its end
  pub give_up_changes : Changes what s (give_up x u)
  give_up_changes =
      give_up_cases u x (Changes what s)
      (λ lo. quiet what s u a.quiet)
      (λ lo e. quiet what s (less x u) less_quiet)
      (λ lo ph sp.
      let l = last lo ph sp in
      let cs : (u.attends && not (eqb (found u x) 0)) ≡ (s.attends && not (eqb (found s x) 0)) = rw (a.attends, a.found x) refl in (
        λ e. record {
          phases = point (Happens what s (del_opens x (found u x) (less x u))) x (asks l (sym cs ∙ e) (rw (same x, a.found x) refl) (ap (λ (k : List ℕ). x ∷ k) a.quiet.stack) (rw (same x) refl)) (λ y ne. goes (rw (ne_eqb y x ne) (a.quiet.phases y)));
          stacks = pushes x (ap (λ (k : List ℕ). x ∷ k) a.quiet.stack);
          stills = λ o d n. let q = others ph o d n in record { phase = rw q.0 q.1.phase; round = q.1.round; giving = q.1.giving; places = q.1.places; callback = q.1.callback };
        },
        λ e. record {
          phases = point (Happens what s (pushed x (clearing_begins x (less x u)))) x (clears l (sym cs ∙ e) (rw (same x) refl) (ap (λ (k : List ℕ). x ∷ k) a.quiet.stack) (rw (same x) (now_spent (u.strong x - 1) (u.interned x) (rw (same x) at sp)).0)) (λ y ne. goes (rw (ne_eqb y x ne) (a.quiet.phases y)));
          stacks = pushes x (ap (λ (k : List ℕ). x ∷ k) a.quiet.stack);
          stills = λ o d n. let q = others ph o d n in record { phase = rw q.0 q.1.phase; round = q.1.round; giving = q.1.giving; places = q.1.places; callback = q.1.callback };
        },
      ))
