-- A journal replayed on the plain note: what each field comes to, and the note at the end.
use Rattle.std.specs.Prelude.{List, [], ◌∷◌, ℕ}
use Rattle.plain.specs.Outcome.{Outcome, Outcome.value, Outcome.refused}
use Rattle.plain_note.specs.Note.{Note}
use Rattle.plain_calls.specs.Calls.{Call, Said, called, left}

-- what a field comes to: its call on the note, or its refusal
abbrev pub played : Note → Outcome Call → Outcome (Said × Note)
played N (value c) = called N c
played N (refused q) = refused q

-- the note that it leaves: a refused field counts as nothing
abbrev pub note_then : Note → Outcome Call → Note
note_then N f = left N (played N f)

-- the number in its line: 0 where it is accepted, or the refusal's
abbrev pub code_of : {A : Type 0} → Outcome A → ℕ
code_of (value a) = 0
code_of (refused q) = q

-- ── field by field ──

unfoldable pub codes : Note → List (Outcome Call) → List ℕ
unfolding called
codes N [] = []
codes N (f ∷ fs) = code_of (played N f) ∷ codes (note_then N f) fs

unfoldable pub after : Note → List (Outcome Call) → Note
unfolding called
after N [] = N
after N (f ∷ fs) = after (note_then N f) fs

-- the slots of the note that a journal is replayed on
abbrev pub slots : ℕ
slots = 80
