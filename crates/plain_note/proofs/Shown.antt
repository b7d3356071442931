-- Document 01's examples of conversions, computed on the note: T is a CR LF é U+1F600 b.
use mathlib.Core.Path.{◌≡◌, refl}
use mathlib.Core.Bool.{Bool, true, false, ◌&&◌}
use mathlib.Core.List.{List, [], ◌∷◌}
use Prim.Native.Nat.{ℕ}
use lib.Dec.{eqb}
use lib.ListN.{replicate}
use Rattle.plain.specs.Chars.{encode}
use Rattle.plain.specs.Count.{breaks, line_at, line_start}
use Rattle.plain.specs.Place.{Measure, Measure.byte, Measure.char, Measure.unit, Measure.line, total, unit_width, byte_width, place_of, count_at}
use Rattle.plain.specs.Outcome.{Outcome, Outcome.value, Outcome.refused, ruled}
use Rattle.plain_note.specs.Note.{Note, Mark.free, converted, place_by, most_by, opening}

abbrev T : Note
T = record { text = 0x61 ∷ 0x0D ∷ 0x0A ∷ 0xE9 ∷ 0x1F600 ∷ 0x62 ∷ []; marks = replicate 256 free; edit = 0; n = 17 }

-- what an index of one count is in another
abbrev Row : Type 0
Row = (Measure × Measure) × (ℕ × Outcome ℕ)

abbrev row : Measure → Measure → ℕ → Outcome ℕ → Row
row from to i o = ((from, to), (i, o))

-- Items 1 to 6: places 2, 3 and 5 with their bytes, units and lines; unit 5 and byte 7; lines 2 and 3. And the ends of each count.
abbrev rows : List Row
rows =
    row char byte 2 (value 2)
    ∷ row char line 2 (value 0)
    ∷ row char byte 3 (value 3)
    ∷ row char unit 3 (value 3)
    ∷ row char line 3 (value 1)
    ∷ row char byte 5 (value 9)
    ∷ row char unit 5 (value 6)
    ∷ row unit char 5 (value 4)
    ∷ row byte char 7 (value 4)
    ∷ row line char 2 (value 6)
    ∷ row line char 3 (refused 3)
    ∷ row byte char 10 (value 6)
    ∷ row byte line 11 (refused 3)
    ∷ row unit char 8 (refused 3)
    ∷ row line byte 1 (value 3)
    ∷ []

abbrev same : Outcome ℕ → Outcome ℕ → Bool
same (value a) (value b) = eqb a b
same (value a) (refused n) = false
same (refused n) (value b) = false
same (refused n) (refused k) = eqb n k

abbrev right : List Row → Bool
right [] = true
right (r ∷ rs) = same (converted r.0.0 r.0.1 T r.1.0) r.1.1 && right rs

pub conversions-of-T : right rows ≡ true
unfolding converted count_at place_by most_by encode breaks line_at line_start total unit_width byte_width place_of ruled
conversions-of-T = refl

-- opening: n from 17 to 4,096, in no less than its need
abbrev refusal : Outcome Note → ℕ
refusal (value N) = 0
refusal (refused k) = k

pub openings :
    (refusal (opening 17 17024) ≡ 0) × (refusal (opening 17 17023) ≡ 1) × (refusal (opening 16 17024) ≡ 1)
    × (refusal (opening 4096 2627584) ≡ 0) × (refusal (opening 4096 2627583) ≡ 1) × (refusal (opening 4097 9999999) ≡ 1)
unfolding opening ruled
openings = (refl, refl, refl, refl, refl, refl)
