-- Holding an object many times: each hold counts, until the count is full.
use Rattle.std.proofs.Common.{◌≡◌, ℕ, zero, suc, ◌+◌, ◌<◌, ◌≤◌, false, leb, replicate, Ok, [], ◌∷◌, refl, subst, arith}
use Rattle.std.proofs.lemmas.Bool.{lt-leb}
use Rattle.refusal.specs.declared.Refusal.TheVariants.{CountFull}
use Rattle.definition.specs.State.{State, Resting}
use Rattle.definition.specs.Calls.{Hold, refusal, outcome, call, answer}
use Rattle.definition.specs.Questions.{StrongCount, told}
use Rattle.definition.specs.Runs.{Replies, after_all, answers}
use Rattle.definition.specs.Examples.{hold, make, ok, no, held, fresh, entries, replies, filled}
use Rattle.definition.proofs.Sums.{same}

-- o is at rest, and its count is n
record Counts (s : State) (o n : ℕ) : Type 0 where
  pub phase : s.phase o ≡ Resting
  pub count : s.strong o ≡ n

-- a count below the limit is one more after a hold
one_more : (s : State) (o n : ℕ) → Counts s o n → n < 65535 → Counts (call (Hold o) s) o (n + 1)
unfolding refusal outcome call
one_more s o n r l =
    let below : leb 65535 (s.strong o) ≡ false = lt-leb 65535 (s.strong o) (omega (arith, r.count)) in
    rw (r.phase, below) (record { phase = r.phase; count = rw (same o) (omega (arith, r.count)) })

-- n holds count n
many_more : (n : ℕ) (s : State) (o k : ℕ) → Counts s o k → n + k ≤ 65535 → Counts (after_all (replicate n (hold o)) s) o (n + k)
many_more zero s o k r l = subst (Counts s o) (omega arith) r
many_more (suc n) s o k r l = subst (Counts (after_all (replicate n (hold o)) (call (Hold o) s)) o) (omega arith) (many_more n (call (Hold o) s) o (k + 1) (one_more s o k r (omega arith)) (omega arith))

-- an object that has just been made has one
made : Counts (after_all (make 2 ∷ []) fresh) 1 1
unfolding refusal outcome call
made = record { phase = refl; count = refl }

-- what the count is asked, and how a hold is answered, below the limit and at it
count_told : (s : State) (o n : ℕ) → Counts s o n → told (StrongCount o) s ≡ Ok n
unfolding told
count_told s o n r = rw (r.phase, r.count) refl

accepted : (s : State) (o n : ℕ) → Counts s o n → n < 65535 → Replies (answer (Hold o) s) ≡ ok 0
unfolding refusal outcome answer
accepted s o n r l =
    let below : leb 65535 (s.strong o) ≡ false = lt-leb 65535 (s.strong o) (omega (arith, r.count)) in
    rw (r.phase, below) refl

refused : (s : State) (o : ℕ) → Counts s o 65535 → Replies (answer (Hold o) s) ≡ no CountFull 0
unfolding refusal answer
refused s o r = rw (r.phase, r.count) refl

two_more : (s : State) → Counts s 1 65534 → answers (entries filled) s ≡ replies filled
two_more s r =
    let next = one_more s 1 65534 r (omega arith) in
    rw (count_told s 1 65534 r, accepted s 1 65534 r (omega arith), count_told (call (Hold 1) s) 1 65535 next, refused (call (Hold 1) s) 1 next) refl

-- the object of the example, after n holds
held_counts : (n : ℕ) → n < 65535 → Counts (after_all (held n) fresh) 1 (n + 1)
unfolding held
held_counts n l = many_more n (after_all (make 2 ∷ []) fresh) 1 1 made (omega arith)

pub filled_at : answers (entries filled) (after_all (held 65533) fresh) ≡ replies filled
filled_at = two_more (after_all (held 65533) fresh) (held_counts 65533 (omega arith))
