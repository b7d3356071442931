-- A note that lent memory can hold: what its being well formed says of the note alone.
use Rattle.std.specs.Prelude.{◌≡◌, true, ℕ, ◌≤◌, length, List}
use Rattle.plain.specs.Chars.{all_scalar}
use Rattle.plain.specs.Place.{bytes}
use Rattle.plain_note.specs.Note.{Note, Mark, Mark.free, Mark.at, limit}
use Rattle.plain_calls.specs.Marks.{mark_of}

-- a mark, where it is live, stands at a place of the text
abbrev pub Placed : List ℕ → Mark → Type 0
Placed cs free = Unit {0}
Placed cs (at q) = q ≤ length cs

pub record Fits (N : Note) : Type 0 where
  pub least : 17 ≤ N.n
  pub most : N.n ≤ 4096
  pub scalars : all_scalar N.text ≡ true
  pub size : bytes N.text ≤ limit N.n
  pub count : length N.marks ≡ 256
  pub placed : (k : ℕ) → Placed N.text (mark_of N k)
