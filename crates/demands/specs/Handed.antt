-- What a caller has in hand of the calls that hand out text: a text with the word of the companion call, and a reader read to its end.
use Rattle.answer.specs.Answers.{Answer, outcome}
use Rattle.std.specs.Prelude.{◌≡◌, List, [], ◌∷◌, ℕ, ◌≤◌, length}
use Rattle.plain.specs.Outcome.{Outcome, part, mapped}
use Rattle.reader.specs.declared.Reader.{Reader}
use Rattle.reader.specs.Handed.{run_at, behind_of}

-- of a call that comes to o: the companion said v, and the text is t, nothing where it is refused
pub record HandedOut (o : Outcome (List ℕ)) (v : Answer (Unit {0})) (t : List ℕ) : Type 0 where
  pub said : outcome v ≡ mapped (λ x. tt) o
  pub is : t ≡ part o

-- ── a reader, as `reader::run_of` and `reader::behind` promise ──

-- the run of the reader r is s, and the reader behind it is q
abbrev pub RunIs : Reader → List ℕ → Type 0
RunIs r s = s ≡ run_at r.pool.now r.place

abbrev pub NextIs : Reader → Reader → Type 0
NextIs r q = (q.pool ≡ r.pool) × (q.place ≡ behind_of r.pool.now r.place)

-- the runs of r, one behind another, none of them empty, until an empty one
abbrev pub ReadOut : Reader → List (List ℕ) → Type 0
ReadOut r [] = RunIs r []
ReadOut r (s ∷ ss) = RunIs r s × (1 ≤ length s) × (q : Reader) × NextIs r q × ReadOut q ss
