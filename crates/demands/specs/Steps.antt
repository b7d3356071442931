-- Sequences of calls on lent memory: each takes the memory as the one before left it. Opening, if any, comes first, and makes the memory that the
-- sequence starts on.
use Rattle.std.specs.Prelude.{◌≡◌, List, [], ◌∷◌, ℕ}
use Rattle.plain.specs.Outcome.{Outcome, mapped}
use Rattle.plain_note.specs.Note.{Note}
use Rattle.plain_calls.specs.Calls.{Call, Said, called, left}
use Rattle.note_promise.specs.Called.{Called}

-- one call on the memory m: it answered a, and left the memory `after`, as its function promises
abbrev pub Step : Call → List ℕ → Outcome Said → List ℕ → Type 0
Step c m a after = Called (λ N. called N c) m a after

-- calls, each with its answer, from the memory m to the memory `end`
abbrev pub Steps : List ℕ → List (Call × Outcome Said) → List ℕ → Type 0
Steps m [] end = end ≡ m
Steps m (h ∷ hs) end = (mid : List ℕ) × Step h.0 m h.1 mid × Steps mid hs end

abbrev pub calls_of : List (Call × Outcome Said) → List Call
calls_of [] = []
calls_of (h ∷ hs) = h.0 ∷ calls_of hs

-- the same calls on the plain note, with what they answer there
abbrev pub answers_on : Note → List Call → List (Call × Outcome Said)
answers_on N [] = []
answers_on N (c ∷ cs) = (c, mapped (λ r. r.0) (called N c)) ∷ answers_on (left N (called N c)) cs
