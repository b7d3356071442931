-- The note as a value, which is what its lent memory means; what opening makes; and what each call that reads comes to: document 01's
-- refusals from 3 on, and the answer. That the memory holds no note is refusal 2, which stands before these.
use Rattle.std.specs.Prelude.{◌||◌, not, List, [], ◌∷◌, ◌++◌, ℕ, ◌+◌, ◌-◌, ◌*◌, ltb, length, take, drop, replicate}
use Rattle.plain.specs.Chars.{encode}
use Rattle.plain.specs.Utf8.{valid_utf8, decode}
use Rattle.plain.specs.Count.{lines, line_start}
use Rattle.plain.specs.Place.{Measure, Measure.byte, Measure.char, Measure.unit, Measure.line, bytes, units, count_at, place_of_byte, place_of_unit}
use Rattle.plain.specs.Edit.{put_in}
use Rattle.plain.specs.Outcome.{Outcome, Rule, ruled, past}

-- a mark: free, or live at a place
pub data Mark : Type 0 where
  free : Mark
  at : ℕ → Mark

-- a text of chars, 256 marks by number, the edit number, and the number of slots that it was opened with
pub record Note : Type 0 where
  pub text : List ℕ
  pub marks : List Mark
  pub edit : ℕ
  pub n : ℕ

-- ── sizes and opening ──

-- the bytes of the memory's head, which the slots follow
abbrev pub head_size : ℕ
head_size = 6144

-- the bytes of memory that n slots need, and the bytes that their note may have
abbrev pub need : ℕ → ℕ
need n = 640 * n + head_size

abbrev pub limit : ℕ → ℕ
limit n = 64 * (n - 16)

abbrev pub opened : ℕ → Note
opened n = record { text = []; marks = replicate 256 free; edit = 0; n = n }

-- of n slots in so many lent bytes
unfoldable pub opening : ℕ → ℕ → Outcome Note
unfolding ruled
opening n lent = ruled ((1, ltb n 17 || (past n 4096 || past (need n) lent)) ∷ []) (opened n)

-- ── conversions ──

-- the place that an index means, by what it counts: bytes, chars, UTF-16 units or lines
unfoldable pub place_by : Measure → List ℕ → ℕ → ℕ
place_by byte cs i = place_of_byte cs i
place_by char cs i = i
place_by unit cs i = place_of_unit cs i
place_by line cs i = line_start cs i

-- the highest index: for lines their number
unfoldable pub most_by : Measure → List ℕ → ℕ
most_by byte cs = bytes cs
most_by char cs = length cs
most_by unit cs = units cs
most_by line cs = lines cs

-- an index of one count turned into another
unfoldable pub converted : Measure → Measure → Note → ℕ → Outcome ℕ
unfolding ruled place_by most_by count_at
converted from to N i = ruled ((3, past i (most_by from N.text)) ∷ []) (count_at to N.text (place_by from N.text i))

-- ── copying out ──

-- the chars of [s, e)
abbrev pub between : ℕ → ℕ → List ℕ → List ℕ
between s e cs = take (e - s) (drop s cs)

-- their bytes, for an output of so many bytes
unfoldable pub copied : Note → ℕ → ℕ → ℕ → Outcome (List ℕ)
unfolding ruled
copied N s e out = ruled ((3, past s e || past e (length N.text)) ∷ (9, past (bytes (between s e N.text)) out) ∷ []) (encode (between s e N.text))

-- ── runs and previews ──

-- the note from a place on, of which a run is a front part
unfoldable pub read_from : Note → ℕ → Outcome (List ℕ)
unfolding ruled
read_from N p = ruled ((3, past p (length N.text)) ∷ []) (encode (drop p N.text))

-- the bytes that a piece may have
abbrev pub piece_most : ℕ
piece_most = 256

-- what refuses an insertion at p of a piece, which may have so many bytes
abbrev pub insert_rules : ℕ → Note → ℕ → List ℕ → List Rule
insert_rules most N p piece =
    (3, past p (length N.text)) ∷ (4, past (length piece) most) ∷ (5, not (valid_utf8 piece)) ∷ (6, past (bytes N.text + length piece) (limit N.n)) ∷ []

-- the text with the piece, from the place q of it on, of which a preview is a front part
unfoldable pub previewed : Note → ℕ → List ℕ → ℕ → Outcome (List ℕ)
unfolding ruled
previewed N p piece q =
    ruled (insert_rules piece_most N p piece ++ ((3, past q (length (put_in p (decode piece) N.text))) ∷ [])) (encode (drop q (put_in p (decode piece) N.text)))
