-- The plain note as a machine: each call of a note, what it answers or by which number it is refused, and the note that it leaves. Refusals 3 to
-- 9 are here; that the memory holds no note is 2, and stands before these.
use Rattle.std.specs.Prelude.{◌&&◌, cond, List, [], ◌∷◌, map, ℕ, leb, eqb, ℤ, length, set}
use Rattle.plain.specs.Utf8.{decode}
use Rattle.plain.specs.Count.{lines}
use Rattle.plain.specs.Place.{Measure}
use Rattle.plain.specs.Edit.{replaced, minus}
use Rattle.plain.specs.Outcome.{Outcome, Outcome.value, Outcome.refused, ruled, past, mapped}
use Rattle.plain_note.specs.Note.{Note, Mark, Mark.free, Mark.at, most_by, converted, copied, read_from, previewed}
use Rattle.plain_note.specs.Edits.{inserted, removed}
use Rattle.plain_calls.specs.Marks.{is_free, mark_of, lowest, standing, line_beside, moved_to, moved, raised}

-- ── the calls, and what they answer ──

-- those that only read
pub data Look : Type 0 where
  total : Measure → Look  -- how many bytes, chars, UTF-16 units or lines
  slots : Look
  edits : Look
  convert : Measure → Measure → ℕ → Look  -- from, to, the index
  copy : ℕ → ℕ → ℕ → Look  -- start and end, the bytes of the output
  read : ℕ → Look  -- a place: the note from there on
  preview : ℕ → List ℕ → ℕ → Look  -- the insertion's place and piece, a place of the joined text
  place : ℕ → Look  -- a mark's number
  line : ℕ → Look  -- a mark's number

pub data Call : Type 0 where
  insert : ℕ → List ℕ → Call  -- a place, the piece's bytes
  remove : ℕ → ℕ → Call  -- start and end
  set_mark : ℕ → Call  -- a place
  drop_mark : ℕ → Call  -- a mark's number
  look : Look → Call

pub data Said : Type 0 where
  done : Said
  is : ℕ → Said
  by : ℤ → Said  -- the change of the number of lines
  bytes : List ℕ → Said

-- ── the note after an accepted call ──

-- the chars of [s, e) give way to new ones: marks move, and the edit number rises where that changes the text
abbrev pub edited : ℕ → ℕ → List ℕ → Note → Note
edited s e new N = record {
  text = replaced s e new N.text;
  marks = map (moved (moved_to s e (length new))) N.marks;
  edit = cond (eqb s e && eqb (length new) 0) N.edit (raised N.edit);
  n = N.n;
}

-- mark k set free, or at a place
abbrev pub marked : ℕ → Mark → Note → Note
marked k m N = record { text = N.text; marks = set N.marks k m; edit = N.edit; n = N.n }

-- ── call by call ──

-- how many lines more a text has than the note
abbrev pub lines_more : Note → List ℕ → ℤ
lines_more N t = minus (lines t) (lines N.text)

unfoldable pub inserting : Note → ℕ → List ℕ → Outcome (ℤ × Note)
unfolding inserted
inserting N p piece = mapped (λ t. (lines_more N t, edited p p (decode piece) N)) (inserted N p piece)

unfoldable pub removing : Note → ℕ → ℕ → Outcome (ℤ × Note)
unfolding removed
removing N s e = mapped (λ t. (lines_more N t, edited s e [] N)) (removed N s e)

-- the lowest free number is taken: 8 where 256 marks are live
unfoldable pub setting : Note → ℕ → Outcome (ℕ × Note)
unfolding ruled lowest
setting N p = ruled ((3, past p (length N.text)) ∷ (8, leb 256 (lowest N.marks)) ∷ []) (lowest N.marks, marked (lowest N.marks) (at p) N)

unfoldable pub dropping : Note → ℕ → Outcome (Unit {0} × Note)
unfolding ruled
dropping N k = ruled ((7, is_free (mark_of N k)) ∷ []) (tt, marked k free N)

unfoldable pub looking : Note → Look → Outcome Said
unfolding most_by converted copied read_from previewed standing line_beside
looking N (total m) = value (is (most_by m N.text))
looking N slots = value (is N.n)
looking N edits = value (is N.edit)
looking N (convert from to i) = mapped is (converted from to N i)
looking N (copy s e out) = mapped bytes (copied N s e out)
looking N (read p) = mapped bytes (read_from N p)
looking N (preview p piece q) = mapped bytes (previewed N p piece q)
looking N (place k) = mapped is (standing N k)
looking N (line k) = mapped is (line_beside N k)

-- ── all of them ──

-- an answer of any kind as one
abbrev pub said : {A : Type 0} → (A → Said) → A × Note → Said × Note
said f r = (f r.0, r.1)

unfoldable pub called : Note → Call → Outcome (Said × Note)
unfolding inserting removing setting dropping looking
called N (insert p piece) = mapped (said by) (inserting N p piece)
called N (remove s e) = mapped (said by) (removing N s e)
called N (set_mark p) = mapped (said is) (setting N p)
called N (drop_mark k) = mapped (said (λ u. done)) (dropping N k)
called N (look l) = mapped (λ a. (a, N)) (looking N l)

-- the note that a call leaves: a refused one leaves it as it was
abbrev pub left : Note → Outcome (Said × Note) → Note
left N (value r) = r.1
left N (refused q) = N

-- the note after a sequence of calls, accepted or not
abbrev pub after_all : Note → List Call → Note
after_all N [] = N
after_all N (c ∷ cs) = after_all (left N (called N c)) cs
