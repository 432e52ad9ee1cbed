-- What deaths leave as it is: the handles, the marks and the next birth; and what is unfreed, but for what they free.
use Rattle.std.proofs.Common.{◌≡◌, ℕ, zero, suc, ◌+◌, Bool, true, false, not, ◌&&◌, eqb, List, [], ◌∷◌, ◌++◌, get_or, set, refl, ap, ◌∙◌, inl, inr, arith}
use Rattle.std.proofs.lemmas.Bool.{ne_eqb, both_ways, cond_both}
use Rattle.definition.specs.Base.{put, bit, count}
use Rattle.definition.specs.State.{Phase, Absent, Resting, DelOpen, Taking, Draining, Calling, Freeing, Leaving, State, is_unfreed}
use Rattle.definition.specs.Changes.{with_phase, with_places, with_callback, with_giving}
use Rattle.definition.specs.Death.{spent, found, give_up, unlisted, leaving, advance, frees_by, frees_top, frees, settle, freed_in, settled, freed, work}
use Rattle.definition.proofs.Sums.{same, point, count_append}
use Rattle.definition.proofs.Advance.{is_dying, give_up_cases, Rounds, Idle, advance_cases}
use Rattle.definition.proofs.Settles.{frees_at_rest}
use Rattle.law.proofs.Invariant.{Good, Inv}
use Rattle.law.proofs.Steps.{tidy, on_top, advance_inv}

-- from s to t: l lists what is freed
pub record Passed (s t : State) (l : List ℕ) : Type 0 where
  pub handles : (y : ℕ) → t.handles y ≡ s.handles y
  pub marks : (y : ℕ) → t.interned y ≡ s.interned y
  pub next : t.next ≡ s.next
  pub unfreed : (y : ℕ) → count y l + bit (is_unfreed (t.phase y)) ≡ bit (is_unfreed (s.phase y))

-- an unfreed object stays one
pub put_unfreed : (f : ℕ → Phase) (o : ℕ) (p : Phase) → is_unfreed p ≡ is_unfreed (f o) → (y : ℕ) → 0 + bit (is_unfreed (put f o p y)) ≡ bit (is_unfreed (f y))
put_unfreed f o p e = point (λ y. 0 + bit (is_unfreed (put f o p y)) ≡ bit (is_unfreed (f y))) o (rw (same o) (omega (arith, ap bit e))) (λ y ne. rw (ne_eqb y o ne) (omega arith))

-- giving up a reference frees nothing
pub give_up_passed : (s v : State) (x : ℕ) → Passed s v [] → Passed s (give_up x v) []
give_up_passed s v x p =
    give_up_cases v x (λ t. Passed s t []) (λ lo. p) (λ lo e. record { handles = p.handles; marks = p.marks; next = p.next; unfreed = p.unfreed })
    (λ lo ph e. (
      λ a. record { handles = p.handles; marks = p.marks; next = p.next; unfreed = λ y. omega (arith, put_unfreed v.phase x (DelOpen (found v x)) (rw ph refl) y, p.unfreed y) },
      λ a. record { handles = p.handles; marks = p.marks; next = p.next; unfreed = λ y. omega (arith, put_unfreed v.phase x Taking (rw ph refl) y, p.unfreed y) },
    ))

-- ---- a step

module _ (s : State) (o : ℕ) (below : List ℕ) (st : s.stack ≡ o ∷ below) where
  -- the newest death frees what its phase says
  frees_on_top : frees s ≡ frees_by (s.phase o) (s.giving o) o
  unfolding frees
  frees_on_top = ap (λ (l : List ℕ). frees_top l s) st

  -- and nothing as long as it has something to give up
  gives_first : (x : ℕ) (xs : List ℕ) → s.giving o ≡ x ∷ xs → frees s ≡ []
  gives_first x xs gv = frees_on_top ∙ rw gv (by (s.phase o))
    where
      by : (p : Phase) → frees_by p (x ∷ xs) o ≡ []
      by Absent = refl
      by Resting = refl
      by (DelOpen c) = refl
      by Taking = refl
      by Draining = refl
      by (Calling c w) = refl
      by (Freeing k) = refl
      by Leaving = refl

-- nothing is freed while its references are taken
rounds_first : (s : State) (o : ℕ) (below : List ℕ) → s.stack ≡ o ∷ below → Rounds s o → frees s ≡ []
rounds_first s o below st (inl ph) = frees_on_top s o below st ∙ rw ph refl
rounds_first s o below st (inr d) = frees_on_top s o below st ∙ rw d.0 refl

-- in a round the object is unfreed
rounds_unfreed : (s : State) (o : ℕ) → Rounds s o → true ≡ is_unfreed (s.phase o)
rounds_unfreed s o (inl ph) = rw ph refl
rounds_unfreed s o (inr d) = rw d.0 refl

-- what frees nothing
nothing_freed : (s t : State) → frees s ≡ [] → Passed s t [] → Passed s t (frees s)
nothing_freed s t e p = rw e p

-- who is freed has neither handle nor mark
gone_bare : {p : Phase} {s m h q l w e r g k : ℕ} → Good p s m h q l w e r g k → p ≡ Leaving → (h ≡ 0) × (m ≡ 0)
gone_bare i e = let q = rw e at i in (omega (arith, q), omega (arith, q))

-- a mark that counts for nothing is none
bit_false : (b : Bool) → bit b ≡ 0 → false ≡ b
bit_false true e = absurd (omega arith)
bit_false false e = refl

-- the object is freed
leaves_passed : (s : State) → Inv s [] → (o : ℕ) (below : List ℕ) → s.stack ≡ o ∷ below → s.phase o ≡ Leaving → Passed s (leaving o below s) (o ∷ [])
leaves_passed s i o below st ph =
    let b = gone_bare (i.good o (on_top s [] i o below st).0) ph in
    record {
      handles = point (λ y. (leaving o below s).handles y ≡ s.handles y) o (rw (same o) (omega (arith, b.0))) (λ y ne. rw (ne_eqb y o ne) refl);
      marks = point (λ y. (leaving o below s).interned y ≡ s.interned y) o (rw (same o) (bit_false (s.interned o) b.1)) (λ y ne. rw (ne_eqb y o ne) refl);
      next = refl;
      unfreed = point (λ y. count y (o ∷ []) + bit (is_unfreed ((leaving o below s).phase y)) ≡ bit (is_unfreed (s.phase y))) o (rw (same o, ph) (omega arith)) (λ y ne. rw (ne_eqb y o ne) (omega arith));
    }

-- each step passes, and frees what is told
pub advance_passed : (s : State) → Inv s [] → Passed s (advance s) (frees s)
advance_passed s i = advance_cases s (λ t. Passed s t (frees s)) (record {
  idle = idle;
  gives = λ o below top x xs gv. nothing_freed s _ (gives_first s o below top.stack x xs gv) (give_up_passed s (with_giving o xs s) x (record { handles = λ y. refl; marks = λ y. refl; next = refl; unfreed = λ y. omega arith }));
  takes = λ o below top gv r w rest wk h.
      let q = λ (y : ℕ). put_unfreed s.phase o Taking (rounds_unfreed s o r) y in
      nothing_freed s _ (rounds_first s o below top.stack r)
      (cond_both (spent s w) _ _ (λ t. Passed s t []) (λ e. record { handles = λ y. refl; marks = λ y. refl; next = refl; unfreed = q }) (λ e. record { handles = λ y. refl; marks = λ y. refl; next = refl; unfreed = q }));
  completes = λ o below top gv ph w ws hd.
      nothing_freed s _ (frees_on_top s o below top.stack ∙ rw ph refl) (record { handles = λ y. refl; marks = λ y. refl; next = refl; unfreed = put_unfreed s.phase o Draining (rw ph refl) });
  clears = λ o below top gv r hd wk.
      nothing_freed s _ (rounds_first s o below top.stack r) (record { handles = λ y. refl; marks = λ y. refl; next = refl; unfreed = put_unfreed s.phase o (Freeing 0) (rounds_unfreed s o r) });
  drains = λ o below top gv ph w ws hd.
      nothing_freed s _ (frees_on_top s o below top.stack ∙ rw ph refl)
      (cond_both (s.attends && not (eqb (s.callback w) 0)) _ _ (λ t. Passed s t [])
      (λ e. record { handles = λ y. refl; marks = λ y. refl; next = refl; unfreed = put_unfreed s.phase o (Calling (s.callback w) w) (rw ph refl) })
      (λ e. record { handles = λ y. refl; marks = λ y. refl; next = refl; unfreed = λ y. omega arith }));
  empties = λ o below top gv k ph h.
      nothing_freed s _ (frees_on_top s o below top.stack ∙ rw ph refl)
      (give_up_passed s (with_phase o (Freeing (suc k)) (with_places o (set (s.places o) k 0) s)) (get_or (s.places o) k 0)
      (record { handles = λ y. refl; marks = λ y. refl; next = refl; unfreed = put_unfreed s.phase o (Freeing (suc k)) (rw ph refl) }));
  leaves = λ o below top gv k ph h.
      nothing_freed s _ (frees_on_top s o below top.stack ∙ rw ph refl)
      (give_up_passed s (with_phase o Leaving (with_callback o 0 (unlisted o s))) (s.callback o)
      (record { handles = λ y. refl; marks = λ y. refl; next = refl; unfreed = put_unfreed s.phase o Leaving (rw ph refl) }));
  frees = λ o below top gv ph. let e : frees s ≡ o ∷ [] = frees_on_top s o below top.stack ∙ rw (ph, gv) refl in rw e (leaves_passed s i o below top.stack ph);
})
  where
    nothing : Passed s s []
    nothing = record { handles = λ y. refl; marks = λ y. refl; next = refl; unfreed = λ y. omega arith }

    idle : Idle s → Passed s s (frees s)
    idle (inl e) = nothing_freed s s (frees_at_rest s e) nothing
    idle (inr q) = absurd (both_ways (is_dying (s.phase q.0)) q.2 ((tidy s [] i).dying q.0 q.1))

-- ---- all steps

-- one after the other
both_pass : (s t u : State) (l m : List ℕ) → Passed s t l → Passed t u m → Passed s u (l ++ m)
both_pass s t u l m p q = record { handles = λ y. q.handles y ∙ p.handles y; marks = λ y. q.marks y ∙ p.marks y; next = q.next ∙ p.next; unfreed = λ y. omega (arith, count_append y l m, p.unfreed y, q.unfreed y) }

-- step after step
settle_passed : (n : ℕ) (s : State) → Inv s [] → Passed s (settle n s) (freed_in n s)
unfolding settle freed_in
settle_passed zero s i = record { handles = λ y. refl; marks = λ y. refl; next = refl; unfreed = λ y. omega arith }
settle_passed (suc n) s i = both_pass s (advance s) (settle n (advance s)) (frees s) (freed_in n (advance s)) (advance_passed s i) (settle_passed n (advance s) (advance_inv s i))

-- the deaths that follow a call pass, and free what its reply lists
pub settled_passed : (s : State) → Inv s [] → Passed s (settled s) (freed s)
unfolding settled freed
settled_passed s i = settle_passed (work s) s i
