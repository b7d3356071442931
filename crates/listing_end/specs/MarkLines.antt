-- The places and the lines of the live marks, by number.
use Rattle.answer.specs.Answers.{Answer, outcome}
use Rattle.std.specs.Prelude.{◌≡◌, true, List, [], ◌∷◌, ◌++◌, map, ℕ, length, take, drop}
use Rattle.plain.specs.Count.{line_at}
use Rattle.plain.specs.Outcome.{Outcome.value}
use Rattle.plain_note.specs.Note.{Note, Mark, Mark.free, Mark.at}
use Rattle.memory.specs.Formed.{well_formed, note_of, of_note}

-- the place of a mark, and the places of many: a free one has none
abbrev pub place_row : Mark → List ℕ
place_row free = []
place_row (at p) = p ∷ []

unfoldable pub places : List Mark → List ℕ
places [] = []
places (m ∷ ms) = place_row m ++ places ms

-- the line of each
abbrev pub lines_of : List ℕ → List Mark → List ℕ
lines_of text ms = map (line_at text) (places ms)

abbrev pub mark_lines : Note → List ℕ
mark_lines N = lines_of N.text N.marks

-- how many lines are told, and that they stand in front; 2 where the memory is not well formed
abbrev pub Lined : List ℕ → Answer ℕ → List ℕ → Type 0
Lined m r out =
    (outcome r ≡ of_note m (λ N. value (length (mark_lines N)))) × (well_formed m ≡ true → take (length (mark_lines (note_of m))) out ≡ mark_lines (note_of m))

-- from the j-th on, the lines are those of the marks from k on
abbrev pub Due : Note → ℕ → ℕ → List ℕ → Type 0
Due N k j lines = drop j lines ≡ lines_of N.text (drop k N.marks)
