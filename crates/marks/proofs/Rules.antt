-- What the tests of the code decide: whether a mark is live, and what refuses a call.
use Rattle.answer.specs.Answers.{Answer, outcome}
use Rattle.std.specs.Prelude.{Err}
use Rattle.std.proofs.Common.{◌≡◌, ℕ, suc, ◌%◌, ◌^◌, ◌<◌, ◌≤◌, Bool, cond, not, ◌||◌, eqb, leb, List, length, refl, ap, ◌∙◌, arith, le-ltb, lt-ltb, eq-eqb, ne_eqb, le-leb}
use borrow.Author.Tests.{lt-leb}
use Rattle.plain_note.specs.Note.{head_size}
use Rattle.plain.specs.Outcome.{Outcome, Outcome.value, Outcome.refused, past, mapped, kept}
use Rattle.plain.proofs.Logic.{or_left, or_right}
use Rattle.plain.proofs.Outcome.{one-applies, one-passed}
use Rattle.plain_calls.specs.Marks.{lowest, moved_to, raised}
use Rattle.note_head.specs.Head.{edit_of, live_at, place_at, mark_at, marks_from}
use Rattle.answer.specs.declared.Refusal.{Refusal}
use Rattle.answer.proofs.Opened.{never-refused}
use Rattle.pool.specs.Calls.{Wrote}
use Rattle.pool.proofs.Rules.{wrote-done}
use Rattle.pool.proofs.Opened.{wrote-never}
use Rattle.note_head.specs.Writes.{number_put, live_put, place_put, number_set, live_set, place_set}
use Rattle.note_head.proofs.Laid.{mark-it, live-there, number-there, number-it}
use Rattle.marks.specs.MarkBytes.{mark_put, mark_set, standing_in, mark_moved, marks_moved, edited_put, edited}

-- the lowest free mark from k on, of i more than one
module _ (m : List ℕ) (k i : ℕ) where
  pub lowest-here : (live_at m k ≡ 1 → ⊥) → lowest (marks_from m k (suc i)) ≡ 0
  unfolding lowest marks_from mark_at
  lowest-here h = rw (ne_eqb (live_at m k) 1 h)

  pub lowest-next : live_at m k ≡ 1 → lowest (marks_from m k (suc i)) ≡ suc (lowest (marks_from m (suc k) i))
  unfolding lowest marks_from mark_at
  lowest-next h = rw (eq-eqb (live_at m k) 1 h)

pub lowest-none : (m : List ℕ) (k : ℕ) → lowest (marks_from m k 0) ≡ 0
unfolding lowest marks_from
lowest-none m k = refl

-- where a mark stands
module _ (m : List ℕ) (k : ℕ) where
  pub none-stands : 256 ≤ k → standing_in m k ≡ refused 7
  unfolding standing_in
  none-stands h = one-applies 7 (leb 256 k || not (eqb (live_at m k) 1)) (place_at m k) (or_left (leb 256 k) _ (le-leb 256 k h))

  pub free-stands : (live_at m k ≡ 1 → ⊥) → standing_in m k ≡ refused 7
  unfolding standing_in
  free-stands h = one-applies 7 (leb 256 k || not (eqb (live_at m k) 1)) (place_at m k) (or_right (leb 256 k) _ (ap not (ne_eqb (live_at m k) 1 h)))

  pub live-stands : k < 256 → live_at m k ≡ 1 → standing_in m k ≡ value (place_at m k)
  unfolding standing_in
  live-stands h l = one-passed 7 (leb 256 k || not (eqb (live_at m k) 1)) (place_at m k) (rw (lt-leb 256 k h, eq-eqb (live_at m k) 1 l))

-- one mark moved
module _ (f : ℕ → ℕ) (m : List ℕ) (k : ℕ) where
  pub moves_live : live_at m k ≡ 1 → mark_moved f m k ≡ place_put m k (f (place_at m k) % 2 ^ 32)
  unfolding mark_moved
  moves_live l = ap (λ (t : Bool). cond t (place_put m k (f (place_at m k) % 2 ^ 32)) m) (eq-eqb (live_at m k) 1 l)

  pub moves-free : (live_at m k ≡ 1 → ⊥) → mark_moved f m k ≡ m
  unfolding mark_moved
  moves-free l = ap (λ (t : Bool). cond t (place_put m k (f (place_at m k) % 2 ^ 32)) m) (ne_eqb (live_at m k) 1 l)

-- a mark set: its place, and then that it is live
module _ (m : List ℕ) (h : head_size ≤ length m) (k : ℕ) (l : k < 256) (q : ℕ) where
  pub set-wrote : (x : List ℕ) → length x ≡ length m → x ≡ place_put m k q → (r : Answer (Unit {0})) (after : List ℕ) → Wrote (live_set x k 1) x r after → Wrote (mark_set m k q) m r after
  unfolding mark_set live_set
  set-wrote x e p r after w =
      let g : head_size ≤ length x = omega arith in
      wrote-done _ m r _ after (mark-it m k (mark_put m k q) h l)
      (w.answered ∙ ap (mapped (λ t. tt)) (mark-it x k (live_put x k 1) g l))
      (live-there x g k l 1 r after w ∙ ap (λ (y : List ℕ). live_put y k 1) p)

  pub place-accepted : (r : Answer (Unit {0})) (after : List ℕ) → Wrote (place_set m k q) m r after → outcome r ≡ value tt
  unfolding place_set
  place-accepted r after w = w.answered ∙ ap (mapped (λ t. tt)) (mark-it m k (place_put m k q) h l)

  pub place-never : {X : Type 0} (r : Answer (Unit {0})) (after : List ℕ) → Wrote (place_set m k q) m r after → (p : Refusal) → r ≡ Err p → X
  place-never r after w p f = never-refused p r tt (place-accepted r after w) f

  pub set-never : {X : Type 0} (r : Answer (Unit {0})) (after : List ℕ) → Wrote (mark_set m k q) m r after → (p : Refusal) → r ≡ Err p → X
  unfolding mark_set
  set-never r after w p f = wrote-never _ m r after w _ (mark-it m k (mark_put m k q) h l) p f

  pub set_there : (r : Answer (Unit {0})) (after : List ℕ) → Wrote (mark_set m k q) m r after → after ≡ mark_put m k q
  unfolding mark_set
  set_there r after w = w.memory ∙ ap (λ (o : Outcome (List ℕ)). kept m o) (mark-it m k (mark_put m k q) h l)

-- an edit followed: the marks moved, and then the edit number raised
module _ (m : List ℕ) (s e new : ℕ) where
  pub follow-short : length m < head_size → edited m s e new ≡ refused 2
  unfolding edited
  follow-short h = one-applies 2 (past head_size (length m)) (edited_put m s e new) (lt-ltb (length m) head_size h)

  pub follow-it : head_size ≤ length m → edited m s e new ≡ value (edited_put m s e new)
  unfolding edited
  follow-it h = one-passed 2 (past head_size (length m)) (edited_put m s e new) (le-ltb (length m) head_size h)

  pub follow-wrote : head_size ≤ length m → (x : List ℕ) → length x ≡ length m → x ≡ marks_moved (moved_to s e new) m 256 → (v : ℕ) → v ≡ raised (edit_of m)
      → (r : Answer (Unit {0})) (after : List ℕ) → Wrote (number_set x 4 v) x r after → Wrote (edited m s e new) m r after
  follow-wrote h x l p v z r after w =
      let g : head_size ≤ length x = omega arith in
      wrote-done _ m r _ after (follow-it h)
      (w.answered ∙ ap (mapped (λ t. tt)) (number-it x g 4 v))
      (number-there x g r after 4 v w ∙ ap (λ (y : List ℕ). number_put y 4 v) p ∙ ap (number_put (marks_moved (moved_to s e new) m 256) 4) z)
