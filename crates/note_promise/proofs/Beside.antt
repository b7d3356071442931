-- The head beside the tree: where it is the same in two memories, it is the same after the marks of both have moved and their edit numbers have risen.
use mathlib.Core.Path.{◌≡◌, sym, ap, ◌∙◌}
use mathlib.Core.List.{List}
use Prim.Native.Nat.{ℕ, zero, suc, ◌+◌, ◌-◌, ◌%◌, ◌^◌, ◌≤◌, ◌<◌}
use native.Mathlib.Omega.{arith}
use lib.ListN.{length, take, drop}
use Rattle.plain_note.specs.Note.{head_size}
use Rattle.plain_calls.specs.Marks.{moved_to, raised}
use Rattle.plain_calls.proofs.Marks.{same_or_not}
use Rattle.octets.specs.Over.{overlaid}
use Rattle.octets.proofs.Over.{part-is, over-front, over-take, part-over}
use Rattle.octets.specs.Big.{bytes_of4}
use Rattle.octets.proofs.Numbers.{four-length}
use Rattle.note_head.specs.Head.{edit_of, mark_start, live_at, place_at}
use Rattle.note_head.specs.Writes.{number_put, place_put}
use Rattle.note_head.proofs.Written.{laid-part, number-around}
use Rattle.edit_steps.specs.Held.{Kept}
use Rattle.edit_steps.proofs.Keeps.{kept-live, kept-place, kept-edit}
use Rattle.marks.specs.MarkBytes.{mark_moved, marks_moved, edited_put}
use Rattle.marks.proofs.Rules.{moves_live, moves-free}
use Rattle.marks.proofs.Moves.{all_moved}

-- bytes laid in the head behind what tells the tree
rest-laid : (l x : List ℕ) (p : ℕ) → head_size ≤ length l → 36 ≤ p → p + length x ≤ head_size
    → drop 36 (take head_size (overlaid p x l)) ≡ overlaid (p - 36) x (drop 36 (take head_size l))
rest-laid l x p h a b =
    let z : p ≡ 36 + (p - 36) = omega arith in
    part-is 36 head_size (overlaid p x l)
    ∙ ap (λ (q : ℕ). take (head_size - 36) (drop 36 (overlaid q x l))) z
    ∙ part-over 36 (p - 36) (head_size - 36) x l (omega arith) (omega arith)
    ∙ ap (overlaid (p - 36) x) (sym (part-is 36 head_size l))

module _ (m later : List ℕ) (h : head_size ≤ length m) (g : head_size ≤ length later) (w : Kept m later) where
  kept-place-put : (k : ℕ) → k < 256 → (v : ℕ) → Kept (place_put m k v) (place_put later k v)
  kept-place-put k l v =
      let x = bytes_of4 v in
      let p = mark_start k + 4 in
      let e = four-length v in
      record {
        front = over-front p x later (omega arith) 8 (omega arith) ∙ w.front ∙ sym (over-front p x m (omega arith) 8 (omega arith));
        middle = ap (drop 29) (over-front p x later (omega arith) 32 (omega arith)) ∙ w.middle ∙ sym (ap (drop 29) (over-front p x m (omega arith) 32 (omega arith)));
        rest = rest-laid later x p g (omega arith) (omega arith) ∙ ap (overlaid (p - 36) x) w.rest ∙ sym (rest-laid m x p h (omega arith) (omega arith));
      }

  -- a number in the place of the edit number
  kept-edit-put : (v : ℕ) → Kept (number_put m 4 v) (number_put later 4 v)
  kept-edit-put v =
      let x = bytes_of4 v in
      let e = four-length v in
      record {
        front = over-take 4 8 x later (omega arith) (omega arith) ∙ ap (overlaid 4 x) w.front ∙ sym (over-take 4 8 x m (omega arith) (omega arith));
        middle = laid-part 4 x later g (omega arith) 29 32 (omega arith) ∙ w.middle ∙ sym (laid-part 4 x m h (omega arith) 29 32 (omega arith));
        rest = (number-around later g 4 v (omega arith)).rest ∙ w.rest ∙ sym (number-around m h 4 v (omega arith)).rest;
      }

  -- one mark moved
  kept-one : (f : ℕ → ℕ) (k : ℕ) → k < 256 → Kept (mark_moved f m k) (mark_moved f later k)
  kept-one f k l =
      same_or_not 1 (live_at m k)
      (λ t e.
      let y : place_at later k ≡ place_at m k = kept-place m later w k l in
      rw (moves_live f m k (sym e), moves_live f later k (kept-live m later w k l ∙ sym e), y) (kept-place-put k l (f (place_at m k) % 2 ^ 32)))
      (λ t n. rw (moves-free f m k n, moves-free f later k (λ e. n (sym (kept-live m later w k l) ∙ e))) w)

module _ (m later : List ℕ) (h : head_size ≤ length m) (g : head_size ≤ length later) (w : Kept m later) where
  kept-all : (f : ℕ → ℕ) (k : ℕ) → k ≤ 256 → Kept (marks_moved f m k) (marks_moved f later k)
  unfolding marks_moved
  kept-all f zero l = w
  kept-all f (suc k) l =
      let i : k ≤ 256 = omega arith in
      kept-one (marks_moved f m k) (marks_moved f later k)
      (omega (arith, (all_moved f m h k i).beside.size)) (omega (arith, (all_moved f later g k i).beside.size))
      (kept-all f k i) f k l

  -- THEOREM: an edit followed
  pub kept-followed : (s e new : ℕ) → Kept (edited_put m s e new) (edited_put later s e new)
  kept-followed s e new =
      let f = moved_to s e new in
      let i : 256 ≤ 256 = omega arith in
      rw (kept-edit m later w)
      (kept-edit-put (marks_moved f m 256) (marks_moved f later 256)
      (omega (arith, (all_moved f m h 256 i).beside.size)) (omega (arith, (all_moved f later g 256 i).beside.size))
      (kept-all f 256 i) (raised (edit_of m)))
