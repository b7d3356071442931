-- What a call that may change the note promises: its answer, and the lent memory afterwards.
use Rattle.std.specs.Prelude.{◌≡◌, true, ◌&&◌, cond, List, [], ℕ, eqb, ℤ, length, drop}
use Rattle.plain.specs.Utf8.{decode}
use Rattle.plain.specs.Outcome.{Outcome, Outcome.value, Outcome.refused, mapped, kept}
use Rattle.plain_note.specs.Note.{Note, need}
use Rattle.note_head.specs.Head.{n_of}
use Rattle.memory.specs.Formed.{well_formed, note_of, of_note}
use Rattle.edit_steps.specs.Held.{Kept}
use Rattle.marks.specs.MarkBytes.{edited_put}

-- The memory `after` is well formed and holds the note N; it was lent as m, and is as long, and nothing beyond the need has changed.
pub record Left (m : List ℕ) (N : Note) (after : List ℕ) : Type 0 where
  pub formed : well_formed after ≡ true
  pub note : note_of after ≡ N
  pub long : length after ≡ length m
  pub beyond : drop (need (n_of m)) after ≡ drop (need (n_of m)) m

-- A call on the lent memory m that comes to o on paper, an answer and the note then or a refusal, and says so; it leaves the memory `after`.
pub record Called {A : Type 0} (o : Note → Outcome (A × Note)) (m : List ℕ) (said : Outcome A) (after : List ℕ) : Type 0 where
  pub answered : said ≡ mapped (λ r. r.0) (of_note m o)
  -- a refused call changes no byte
  pub unchanged : (q : ℕ) → of_note m o ≡ refused q → after ≡ m
  pub left : (a : A) (N : Note) → of_note m o ≡ value (a, N) → Left m N after

-- ── an edit: a piece, given in bytes, in the place of [s, e) ──

-- the memory with its marks moved and its edit number raised, where the edit changes the text
abbrev pub followed : List ℕ → ℕ → ℕ → ℕ → List ℕ
followed m s e new = cond (eqb s e && eqb new 0) m (edited_put m s e new)

pub record EditCalled (o : Note → Outcome (ℤ × Note)) (s e : ℕ) (piece m : List ℕ) (said : Outcome ℤ) (after : List ℕ) : Type 0 where
  pub called : Called o m said after
  -- every byte of the head but those that tell the tree's root, its height and the first free slot
  pub head : (d : ℤ) (N : Note) → of_note m o ≡ value (d, N) → Kept (followed m s e (length (decode piece))) after
  -- an empty piece or range changes nothing at all
  pub still : s ≡ e → piece ≡ [] → after ≡ m

-- ── a mark set or dropped, which leaves these bytes ──

pub record MarkCalled {A : Type 0} (o : Note → Outcome (A × Note)) (bytes : A → List ℕ) (m : List ℕ) (said : Outcome A) (after : List ℕ) : Type 0 where
  pub called : Called o m said after
  pub memory : after ≡ kept m (mapped (λ r. bytes r.0) (of_note m o))
