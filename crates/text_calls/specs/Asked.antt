-- What each call of the text layer comes to: a question is a call, an index, a bias and the bytes.
use Rattle.std.specs.Prelude.{Bool, ◌||◌, cond, List, [], ◌∷◌, ◌++◌, ℕ, ◌-◌, ltb, eqb, length, get_or, take, drop}
use Rattle.plain.specs.Utf8.{valid_utf8}
use Rattle.plain.specs.Count.{bit, count_if, breaks, line_at, line_start, tail_break, trimmed}
use Rattle.plain.specs.Place.{is_pair, bytes, byte_at, place_of_byte, place_of_unit}
use Rattle.plain.specs.Outcome.{Outcome, Outcome.value, Outcome.refused}
use Rattle.crlf.specs.Break.{at_index, at_seam, is_break, prev_break, next_break, nearest_break, good_split}
use Rattle.str_utils.specs.Helpers.{of_text}
use Rattle.text_calls.specs.declared.Call.{Call}
use Rattle.text_calls.specs.declared.Call.TheVariants.{IsBreak, SeamIsBreak, PrevBreak, NextBreak, NearestInternalBreak, FindGoodSplit, CountChars, ByteToCharIdx, CharToByteIdx, CountUtf16Surrogates, CountLineBreaks, ByteToLineIdx, LineToByteIdx, CharToLineIdx, LineToCharIdx, ByteToUtf16SurrogateIdx, Utf16CodeUnitToCharIdx, LastLineStartByteIdx, TrimLineBreak, EndsWithLineBreak, Valid}

-- a truth as 1 or 0
abbrev pub counted : Outcome Bool → Outcome ℕ
counted (value t) = value (bit t)
counted (refused n) = refused n

-- of the two sides of a cut at i
unfoldable pub seam_at : ℕ → List ℕ → Outcome ℕ
unfolding at_seam is_break
seam_at i s = counted (at_seam (take i s) (drop i s) (is_break (take i s ++ drop i s) (length (take i s))))

abbrev pub asked : Call → ℕ → Bool → List ℕ → Outcome ℕ
asked IsBreak i left s = counted (at_index s i (is_break s i))
asked SeamIsBreak i left s = seam_at i s
asked PrevBreak i left s = at_index s i (prev_break s i)
asked NextBreak i left s = at_index s i (next_break s i)
asked NearestInternalBreak i left s = at_index s i (nearest_break s i)
asked FindGoodSplit i left s = at_index s i (good_split s i left)
asked CountChars i left s = of_text s (λ cs. length cs)
asked ByteToCharIdx i left s = of_text s (λ cs. place_of_byte cs i)
asked CharToByteIdx i left s = of_text s (λ cs. byte_at cs i)
asked CountUtf16Surrogates i left s = of_text s (λ cs. count_if is_pair cs)
asked CountLineBreaks i left s = of_text s (λ cs. breaks cs)
asked ByteToLineIdx i left s = of_text s (λ cs. line_at cs (place_of_byte cs i))
asked LineToByteIdx i left s = of_text s (λ cs. byte_at cs (line_start cs i))
asked CharToLineIdx i left s = of_text s (λ cs. line_at cs i)
asked LineToCharIdx i left s = of_text s (λ cs. line_start cs i)
asked ByteToUtf16SurrogateIdx i left s = of_text s (λ cs. count_if is_pair (take (place_of_byte cs i) cs))
asked Utf16CodeUnitToCharIdx i left s = of_text s (λ cs. place_of_unit cs i)
asked LastLineStartByteIdx i left s = of_text s (λ cs. byte_at cs (line_start cs (breaks cs)))
asked TrimLineBreak i left s = of_text s (λ cs. bytes (trimmed cs))
asked EndsWithLineBreak i left s = counted (of_text s (λ cs. ltb 0 (tail_break cs)))
asked Valid i left s = value (bit (valid_utf8 s))

-- the calls in the order of their numbers, from 1
unfoldable pub calls : List Call
calls =
    IsBreak ∷
    SeamIsBreak ∷
    PrevBreak ∷
    NextBreak ∷
    NearestInternalBreak ∷
    FindGoodSplit ∷
    CountChars ∷
    ByteToCharIdx ∷
    CharToByteIdx ∷
    CountUtf16Surrogates ∷
    CountLineBreaks ∷
    ByteToLineIdx ∷
    LineToByteIdx ∷
    CharToLineIdx ∷
    LineToCharIdx ∷
    ByteToUtf16SurrogateIdx ∷
    Utf16CodeUnitToCharIdx ∷
    LastLineStartByteIdx ∷
    TrimLineBreak ∷
    EndsWithLineBreak ∷
    Valid ∷ []

-- the call with a number; one that names no call is a bad field
unfoldable pub named : ℕ → Outcome Call
unfolding calls
named k = cond (eqb k 0 || ltb 21 k) (refused 10) (value (get_or calls (k - 1) IsBreak))

-- the answer of the call with a number
unfoldable pub asked_by : ℕ → ℕ → Bool → List ℕ → Outcome ℕ
unfolding calls
asked_by k i left s = cond (eqb k 0 || ltb 21 k) (refused 10) (asked (get_or calls (k - 1) IsBreak) i left s)
