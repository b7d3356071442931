-- The listing of a journal: a line for each field, then the totals, then a line for each live mark by number. All text is ASCII.
use Rattle.std.specs.Prelude.{cond, List, [], ◌∷◌, ◌++◌, ℕ, zero, suc, ◌+◌, ◌/◌, ◌%◌, ltb, eqb, length}
use Rattle.plain.specs.Place.{bytes, units}
use Rattle.plain.specs.Count.{lines, line_at}
use Rattle.plain.specs.Outcome.{Outcome}
use Rattle.plain_note.specs.Note.{Note, Mark, Mark.free, Mark.at, opened}
use Rattle.plain_calls.specs.Calls.{Call}
use Rattle.plain_journal.specs.Fields.{fields_of}
use Rattle.plain_journal.specs.Replay.{codes, after, slots}

-- ── numbers ──

-- a number of at most k decimal digits, with no zeros in front
unfoldable pub decimal_by : ℕ → ℕ → List ℕ
decimal_by zero n = []
decimal_by (suc k) n = cond (ltb n 10) ((48 + n) ∷ []) (decimal_by k (n / 10) ++ ((48 + n % 10) ∷ []))

-- a number below 2 ^ 64
unfoldable pub decimal : ℕ → List ℕ
unfolding decimal_by
decimal n = decimal_by 20 n

-- ── words ──

abbrev pub line_end : List ℕ
line_end = 10 ∷ []

-- " ok"
abbrev pub ok_text : List ℕ
ok_text = 32 ∷ 111 ∷ 107 ∷ []

-- " refused "
abbrev pub refused_text : List ℕ
refused_text = 32 ∷ 114 ∷ 101 ∷ 102 ∷ 117 ∷ 115 ∷ 101 ∷ 100 ∷ 32 ∷ []

-- "bytes "
abbrev pub bytes_text : List ℕ
bytes_text = 98 ∷ 121 ∷ 116 ∷ 101 ∷ 115 ∷ 32 ∷ []

-- " chars "
abbrev pub chars_text : List ℕ
chars_text = 32 ∷ 99 ∷ 104 ∷ 97 ∷ 114 ∷ 115 ∷ 32 ∷ []

-- " utf16 "
abbrev pub units_text : List ℕ
units_text = 32 ∷ 117 ∷ 116 ∷ 102 ∷ 49 ∷ 54 ∷ 32 ∷ []

-- " lines "
abbrev pub lines_text : List ℕ
lines_text = 32 ∷ 108 ∷ 105 ∷ 110 ∷ 101 ∷ 115 ∷ 32 ∷ []

-- "mark "
abbrev pub mark_text : List ℕ
mark_text = 109 ∷ 97 ∷ 114 ∷ 107 ∷ 32 ∷ []

-- " place "
abbrev pub place_text : List ℕ
place_text = 32 ∷ 112 ∷ 108 ∷ 97 ∷ 99 ∷ 101 ∷ 32 ∷ []

-- " line "
abbrev pub line_text : List ℕ
line_text = 32 ∷ 108 ∷ 105 ∷ 110 ∷ 101 ∷ 32 ∷ []

-- ── lines ──

-- of field k: "K ok" where its number is 0, else "K refused NUMBER"
unfoldable pub field_line : ℕ → ℕ → List ℕ
unfolding decimal
field_line k code = decimal k ++ (cond (eqb code 0) ok_text (refused_text ++ decimal code) ++ line_end)

-- the totals: "bytes B chars C utf16 U lines L"
unfoldable pub totals_line : ℕ → ℕ → ℕ → ℕ → List ℕ
unfolding decimal
totals_line b c u l = bytes_text ++ (decimal b ++ (chars_text ++ (decimal c ++ (units_text ++ (decimal u ++ (lines_text ++ (decimal l ++ line_end)))))))

-- of mark k: "mark K place P line L"
unfoldable pub mark_line : ℕ → ℕ → ℕ → List ℕ
unfolding decimal
mark_line k p l = mark_text ++ (decimal k ++ (place_text ++ (decimal p ++ (line_text ++ (decimal l ++ line_end)))))

-- ── the end of a listing ──

-- of mark k as it is: no line where it is free
abbrev pub mark_row : List ℕ → ℕ → Mark → List ℕ
mark_row text k free = []
mark_row text k (at p) = mark_line k p (line_at text p)

-- of marks numbered from k on
unfoldable pub mark_rows : List ℕ → ℕ → List Mark → List ℕ
unfolding mark_line line_at
mark_rows text k [] = []
mark_rows text k (m ∷ ms) = mark_row text k m ++ mark_rows text (suc k) ms

unfoldable pub ending : Note → List ℕ
unfolding totals_line mark_rows
ending N = totals_line (bytes N.text) (length N.text) (units N.text) (lines N.text) ++ mark_rows N.text 0 N.marks

-- ── a listing ──

-- the lines of fields, numbered from k on, by their numbers
unfoldable pub field_lines : ℕ → List ℕ → List ℕ
unfolding field_line
field_lines k [] = []
field_lines k (c ∷ cs) = field_line k c ++ field_lines (k + 1) cs

-- what is listed of a note from field k on
unfoldable pub listed : Note → ℕ → List (Outcome Call) → List ℕ
unfolding field_lines codes after ending
listed N k fs = field_lines k (codes N fs) ++ ending (after N fs)

-- THE LISTING of a journal.
unfoldable pub listing : List ℕ → List ℕ
unfolding listed fields_of
listing s = listed (opened slots) 1 (fields_of s)
