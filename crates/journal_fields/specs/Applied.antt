-- What a field does to the lent memory.
use Rattle.std.specs.Prelude.{◌≡◌, true, false, List, [], ℕ, ◌<◌, ℤ, length}
use Rattle.plain.specs.Outcome.{Outcome, Outcome.value, Outcome.refused, mapped}
use Rattle.plain_calls.specs.Calls.{Call, Call.insert, Call.remove, Call.set_mark, Call.drop_mark, Call.look, Said, Said.by, Said.is, inserting, removing, setting}
use Rattle.marks.specs.MarkBytes.{mark_put}
use Rattle.note_promise.specs.Called.{EditCalled, MarkCalled}
use Rattle.plain_journal.specs.Fields.{asked}
use Rattle.framing.specs.Field.{field_bytes, is_whole, tag_of, body_of}
use Rattle.plain_journal.specs.Replay.{code_of}
use Rattle.journal_fields.specs.declared.Front.{Front}
use Rattle.journal_fields.specs.declared.Front.TheVariants.{Short, Whole}
use Rattle.journal_fields.specs.declared.Done.{Done}
use Rattle.journal_fields.specs.declared.Done.TheVariants.{Bad, Code}

-- A call that a field asks for, on the memory m: what it said, and the memory afterwards, as the note's own function promises. No field asks for another call.
abbrev pub Promised : Call → List ℕ → Outcome Said → List ℕ → Type 0
Promised (insert p piece) m said after = (a : Outcome ℤ) × (said ≡ mapped by a) × EditCalled (λ N. inserting N p piece) p p piece m a after
Promised (remove s e) m said after = (a : Outcome ℤ) × (said ≡ mapped by a) × EditCalled (λ N. removing N s e) s e [] m a after
Promised (set_mark p) m said after = (a : Outcome ℕ) × (said ≡ mapped is a) × MarkCalled (λ N. setting N p) (λ k. mark_put m k p) m a after
Promised (drop_mark k) m said after = ⊥
Promised (look l) m said after = ⊥

-- A field that asks for f, on the memory m: what became of it, and the memory afterwards. A bad one, which is refused by 10 alone, changes no byte; another
-- does what its call promises, and the call's answer gives the number.
abbrev pub Applied : Outcome Call → List ℕ → Done → List ℕ → Type 0
Applied (refused q) m r after = (q ≡ 10) × (r ≡ Bad) × (after ≡ m)
Applied (value c) m r after = (a : Outcome Said) × (r ≡ Code (code_of a)) × Promised c m a after

-- the number in a field's line
abbrev pub line_number : Done → ℕ
line_number Bad = 10
line_number (Code n) = n

-- ── the field at the front of some bytes ──

-- none is whole, so what is there is shorter than the longest
abbrev pub Starved : List ℕ → Type 0
Starved s = (is_whole s ≡ false) × (length s < 65538)

-- the field at the front of s, from the memory m to m': where none is whole no byte changes
abbrev pub Takes : List ℕ → List ℕ → List ℕ → Front → Type 0
Takes m m' s Short = Starved s × (m' ≡ m)
Takes m m' s (Whole used done) = (is_whole s ≡ true) × (used ≡ field_bytes s) × Applied (asked (tag_of s) (body_of s)) m done m'
