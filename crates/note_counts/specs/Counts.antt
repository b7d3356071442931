-- The four counts of the code: the plain note's, the way a search goes by each, the number that stored counts give for it, and both ways
-- over the bytes of a leaf; and several indices turned at once.
use Rattle.std.specs.Prelude.{ℕ, ◌+◌, Bool, false, ◌||◌, List, [], ◌∷◌, map, take}
use Rattle.plain.specs.Count.{count_if, line_at, line_start}
use Rattle.plain.specs.Place as Place
use Rattle.plain.specs.Place.{is_start, is_wide, start_chars, start_units, place_of, floor_of, count_at}
use Rattle.plain.specs.Outcome.{Outcome, Outcome.value, Outcome.refused, past, mapped}
use Rattle.plain_note.specs.Note.{Note, place_by, converted}
use Rattle.text_info.specs.declared.TextInfo.{TextInfo}
use Rattle.child_search.specs.declared.Measure.{Measure}
use Rattle.child_search.specs.declared.Measure.TheVariants as Measure·case
use Rattle.note_counts.specs.declared.Count.{Count}
use Rattle.note_counts.specs.declared.Count.TheVariants as Count·case

abbrev pub measure : Count → Place.Measure
measure Count·case.Bytes = Place.Measure.byte
measure Count·case.Chars = Place.Measure.char
measure Count·case.Units = Place.Measure.unit
measure Count·case.Lines = Place.Measure.line

abbrev pub by_of : Count → Measure
by_of Count·case.Bytes = Measure·case.Bytes
by_of Count·case.Chars = Measure·case.Chars
by_of Count·case.Units = Measure·case.Utf16
by_of Count·case.Lines = Measure·case.Breaks

-- the highest index of a text with these counts
abbrev pub most_in : Count → TextInfo → ℕ
most_in Count·case.Bytes i = i.bytes
most_in Count·case.Chars i = i.chars
most_in Count·case.Units i = i.chars + i.utf16_surrogates
most_in Count·case.Lines i = i.line_breaks + 1

-- ── over bytes ──

-- the byte of the place that an index means
abbrev pub byte_of : Count → List ℕ → ℕ → ℕ
byte_of Count·case.Bytes s i = floor_of s i
byte_of Count·case.Chars s i = place_of start_chars s i
byte_of Count·case.Units s i = place_of start_units s i
byte_of Count·case.Lines s i = line_start s i

-- the count at a byte
abbrev pub count_to : Count → List ℕ → ℕ → ℕ
count_to Count·case.Bytes s b = b
count_to Count·case.Chars s b = count_if is_start (take b s)
count_to Count·case.Units s b = count_if is_start (take b s) + count_if is_wide (take b s)
count_to Count·case.Lines s b = line_at s b

-- ── over chars ──

-- an index of one count as the other
abbrev pub turned_in : Count → Count → List ℕ → ℕ → ℕ
turned_in from to cs i = count_at (measure to) cs (place_by (measure from) cs i)

-- ── several indices ──

-- whether one is past its end
unfoldable pub any_past : ℕ → List ℕ → Bool
any_past end [] = false
any_past end (i ∷ is) = past i end || any_past end is

-- the values of all, or the first refusal
unfoldable pub every : List (Outcome ℕ) → Outcome (List ℕ)
every [] = value []
every (refused n ∷ os) = refused n
every (value a ∷ os) = mapped (λ rest. a ∷ rest) (every os)

-- each turned into another count: refused where one of them is
unfoldable pub converted_all : Count → Count → List ℕ → Note → Outcome (List ℕ)
unfolding every converted
converted_all from to is N = every (map (converted (measure from) (measure to) N) is)
