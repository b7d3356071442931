-- The words of demand 3: numbers of their own, a mark that is not dropped, and one that stands directly before its first surviving follower.
use Rattle.std.specs.Prelude.{◌≡◌, Bool, true, false, List, [], ◌∷◌, ℕ, ◌≤◌, ◌<◌, eqb, length, get_or}
use Rattle.plain.specs.Outcome.{Outcome, Outcome.value, Outcome.refused}
use Rattle.plain_note.specs.Note.{Note, Mark.at}
use Rattle.plain_calls.specs.Marks.{mark_of}
use Rattle.plain_calls.specs.Calls.{Call, Call.insert, Call.remove, Call.set_mark, Call.drop_mark, Call.look, Said, called, left}
use Rattle.plain_history.specs.History.{Behind.followers, Told}

-- all below the next number, no two the same
pub record Numbers (order : List ℕ) (next : ℕ) : Type 0 where
  pub below : (i : ℕ) → i < length order → get_or order i 0 < next
  pub own : (i j : ℕ) → i < j → j < length order → get_or order i 0 ≡ get_or order j 0 → ⊥

-- does a call, as it came out, drop mark k?
abbrev pub drops : ℕ → Call → Outcome (Said × Note) → Bool
drops k (insert p piece) o = false
drops k (remove s e) o = false
drops k (set_mark p) o = false
drops k (drop_mark j) (value r) = eqb j k
drops k (drop_mark j) (refused n) = false
drops k (look l) o = false

-- no accepted call of the sequence, which starts on N, drops mark k
abbrev pub Undropped : ℕ → Note → List Call → Type 0
Undropped k N [] = Unit {0}
Undropped k N (c ∷ cs) = (drops k c (called N c) ≡ false) × Undropped k (left N (called N c)) cs

-- the place directly before the first survivor that follows, or the end if none does
pub record Directly (follows : ℕ → Bool) (order : List ℕ) (place : ℕ) : Type 0 where
  pub within : place ≤ length order
  pub before : (i : ℕ) → i < place → follows (get_or order i 0) ≡ false
  pub here : place < length order → follows (get_or order place 0) ≡ true

-- mark k of the note stands there, of the followers that are told
pub record Stood (N : Note) (t : Told) (k : ℕ) : Type 0 where
  pub place : ℕ
  pub who : ℕ → Bool
  pub there : mark_of N k ≡ at place
  pub told-so : t.behind ≡ followers who
  pub directly : Directly who t.order place
