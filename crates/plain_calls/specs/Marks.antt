-- The marks of a note: which number is taken next, where one stands, where an edit moves it to; and the edit number.
use Rattle.std.specs.Prelude.{Bool, true, false, cond, List, [], ◌∷◌, ℕ, suc, ◌+◌, ◌-◌, ◌%◌, ◌^◌, ltb, get_or}
use Rattle.plain.specs.Count.{line_at}
use Rattle.plain.specs.Outcome.{Outcome, ruled, mapped}
use Rattle.plain_note.specs.Note.{Note, Mark, Mark.free, Mark.at}

abbrev pub is_free : Mark → Bool
is_free free = true
is_free (at q) = false

-- mark k; no number from 256 on is live
abbrev pub mark_of : Note → ℕ → Mark
mark_of N k = get_or N.marks k free

-- the lowest free number; the number of marks where none is free
unfoldable pub lowest : List Mark → ℕ
lowest [] = 0
lowest (m ∷ ms) = cond (is_free m) 0 (suc (lowest ms))

-- the place of a live mark
abbrev pub place_in : Mark → ℕ
place_in free = 0
place_in (at q) = q

-- ── reading a mark: 7 where it is not live ──

unfoldable pub standing : Note → ℕ → Outcome ℕ
unfolding ruled
standing N k = ruled ((7, is_free (mark_of N k)) ∷ []) (place_in (mark_of N k))

-- the line beside it
unfoldable pub line_beside : Note → ℕ → Outcome ℕ
unfolding standing line_at
line_beside N k = mapped (line_at N.text) (standing N k)

-- ── edits ──

-- Where a place goes when the elements of [s, e) give way to m new ones: before s it stays, in [s, e) it goes to s, at q ≥ e to q − (e − s) + m.
-- An insertion has s = e, a removal m = 0.
unfoldable pub moved_to : ℕ → ℕ → ℕ → ℕ → ℕ
moved_to s e m q = cond (ltb q s) q (cond (ltb q e) s (q - (e - s) + m))

abbrev pub moved : (ℕ → ℕ) → Mark → Mark
moved f free = free
moved f (at q) = at (f q)

-- 32 bits, and back to 0 after the last
abbrev pub raised : ℕ → ℕ
raised edit = (edit + 1) % 2 ^ 32
