-- DEMAND 3, the counts: an accepted edit changes no count at a place below its start, and moves each count of all places at or behind its end by
-- one amount of its own, which for lines is its answer.
use mathlib.Core.Path.{◌≡◌, ap, ◌∙◌}
use mathlib.Core.List.{List, []}
use Prim.Native.Nat.{ℕ, ◌+◌, ◌-◌, ◌≤◌, ◌<◌}
use native.Mathlib.Omega.{arith}
use lib.ListN.{length}
use Rattle.plain.specs.Utf8.{decode}
use Rattle.plain.specs.Count.{breaks, lines}
use Rattle.plain.specs.Place.{Measure, Measure.line, count_at, count_of}
use Rattle.plain.specs.Edit.{replaced, minus}
use Rattle.plain.specs.Outcome.{Outcome.value}
use Rattle.plain.proofs.Edit.{counts-below, counts_behind}
use Rattle.plain_note.specs.Note.{Note, Mark.at}
use Rattle.plain_calls.specs.Marks.{mark_of, moved_to, moved}
use Rattle.plain_calls.specs.Calls.{Call.insert, Call.remove, Said, Said.by, edited, lines_more, called}
use Rattle.plain_calls.proofs.Marks.{marks-moved, insert-moves, remove-moves}
use Rattle.plain_calls.proofs.Accepted.{came}
use Rattle.plain_calls.proofs.Minus.{minus-same}
use Rattle.plain_history.specs.Shift.{Edit, Edit.insertion, Edit.removal, as_call, start_of, end_of, later, more}

-- ── both kinds as one ──

abbrev new_of : Edit → List ℕ
new_of (insertion p piece) = decode piece
new_of (removal s e) = []

-- what an accepted one came to
record Made (N : Note) (d : Edit) (r : Said × Note) : Type 0 where
  rise : start_of d ≤ end_of d
  here : end_of d ≤ length N.text
  is-so : r ≡ (by (lines_more N (replaced (start_of d) (end_of d) (new_of d) N.text)), edited (start_of d) (end_of d) (new_of d) N)

made : (N : Note) (d : Edit) (r : Said × Note) → called N (as_call d) ≡ value r → Made N d r
made N (insertion p piece) r e = let w = came N (insert p piece) r e in record { rise = omega arith; here = w.0.here; is-so = w.1 }
made N (removal s e) r f = let w = came N (remove s e) r f in record { rise = w.0.rise; here = w.0.here; is-so = w.1 }

goes : (d : Edit) (q : ℕ) → start_of d ≤ end_of d → end_of d ≤ q → later d q ≡ start_of d + length (new_of d) + (q - end_of d)
goes (insertion p piece) q h k = omega arith
goes (removal s e) q h k = omega arith

-- ── the counts ──

module _ (N : Note) (d : Edit) (r : Said × Note) (ok : called N (as_call d) ≡ value r) where
  -- THEOREM: below its start no count changes
  pub counts-stay : (m : Measure) (q : ℕ) → q < start_of d → count_at m r.1.text q ≡ count_at m N.text q
  counts-stay m q h =
      let w = made N d r ok in
      rw w.is-so (counts-below m (start_of d) (end_of d) (new_of d) N.text (omega (arith, w.rise, w.here)) q h)

  -- THEOREM: at or behind its end each count moves by one amount, whatever the place
  pub counts_move : (m : Measure) (q : ℕ) → end_of d ≤ q → minus (count_at m r.1.text (later d q)) (count_at m N.text q) ≡ more m N r.1
  counts_move m q h =
      let w = made N d r ok in
      let after : List ℕ = replaced (start_of d) (end_of d) (new_of d) N.text in
      let q' = start_of d + length (new_of d) + (q - end_of d) in
      let all = counts_behind m (start_of d) (end_of d) (new_of d) N.text (omega (arith, w.rise, w.here)) q h in
      rw (w.is-so, goes d q w.rise h) (minus-same (count_at m after q') (count_at m N.text q) (count_of m after) (count_of m N.text) (omega arith))

  -- THEOREM: of lines that amount is what the edit answers
  pub lines-answered : r.0 ≡ by (more line N r.1)
  unfolding count_of
  lines-answered =
      let w = made N d r ok in
      let after : List ℕ = replaced (start_of d) (end_of d) (new_of d) N.text in
      rw w.is-so (ap by (minus-same (lines after) (lines N.text) (breaks after) (breaks N.text) (omega arith)))

  -- THEOREM: a mark at or behind its end goes with them
  pub marks-go : (k q : ℕ) → mark_of N k ≡ at q → end_of d ≤ q → mark_of r.1 k ≡ at (later d q)
  marks-go k q e h =
      let w = made N d r ok in
      rw w.is-so (marks-moved (start_of d) (end_of d) (new_of d) N k ∙ ap (moved (moved_to (start_of d) (end_of d) (length (new_of d)))) e ∙ ap at (go d w.rise h))
    where
      go : (d : Edit) → start_of d ≤ end_of d → end_of d ≤ q → moved_to (start_of d) (end_of d) (length (new_of d)) q ≡ later d q
      go (insertion p piece) a b = insert-moves p (length (decode piece)) q b
      go (removal s e) a b = remove-moves s e q a b
