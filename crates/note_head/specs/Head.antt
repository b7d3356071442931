-- The head of the lent memory: the number of slots, the edit number, the root, its height, the first free slot, and 256 marks.
use Rattle.std.specs.Prelude.{cond, List, [], ◌∷◌, ℕ, zero, suc, ◌+◌, ◌*◌, eqb, get_or, take, drop}
use Rattle.plain_note.specs.Note.{Mark, Mark.free, Mark.at, need}
use Rattle.octets.specs.Big.{four_at}
use Rattle.pool.specs.Slot.{kid_at}
use Rattle.pool.specs.declared.Kid.{Kid}

-- ── the table: where each field begins, and how many bytes it has ──

abbrev pub Field : Type 0
Field = ℕ × ℕ

abbrev pub slots_field : Field
slots_field = (0, 4)

abbrev pub edit_field : Field
edit_field = (4, 4)

abbrev pub root_field : Field
root_field = (8, 20)

abbrev pub height_field : Field
height_field = (28, 1)

abbrev pub free_field : Field
free_field = (32, 4)

abbrev pub fields : List Field
fields = slots_field ∷ edit_field ∷ root_field ∷ height_field ∷ free_field ∷ []

-- the bytes of a field
abbrev pub bytes_in : Field → List ℕ → List ℕ
bytes_in f m = take f.1 (drop f.0 m)

-- ── what the fields tell ──

unfoldable pub n_of : List ℕ → ℕ
n_of m = four_at m slots_field.0

unfoldable pub edit_of : List ℕ → ℕ
edit_of m = four_at m edit_field.0

-- the root as a child entry: its slot and its counts
unfoldable pub root_of : List ℕ → Kid
root_of m = kid_at m root_field.0

unfoldable pub height_of : List ℕ → ℕ
height_of m = get_or m height_field.0 0

unfoldable pub free_of : List ℕ → ℕ
free_of m = four_at m free_field.0

-- mark k has 16 bytes: whether it is live, 1 or 0, and behind three more bytes its place
abbrev pub mark_start : ℕ → ℕ
mark_start k = 2048 + 16 * k

unfoldable pub live_at : List ℕ → ℕ → ℕ
live_at m k = get_or m (mark_start k) 0

unfoldable pub place_at : List ℕ → ℕ → ℕ
place_at m k = four_at m (mark_start k + 4)

unfoldable pub mark_at : List ℕ → ℕ → Mark
unfolding live_at place_at
mark_at m k = cond (eqb (live_at m k) 1) (at (place_at m k)) free

-- the marks from k on, so many of them
unfoldable pub marks_from : List ℕ → ℕ → ℕ → List Mark
unfolding mark_at
marks_from m k zero = []
marks_from m k (suc i) = mark_at m k ∷ marks_from m (suc k) i

-- the part of the memory that the note has: its need. What lies beyond is never looked at
unfoldable pub own_of : List ℕ → List ℕ
unfolding n_of
own_of m = take (need (n_of m)) m
