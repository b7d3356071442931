-- The promise of an edit of the note in lent memory, in full: the answer, and the memory afterwards.
use Rattle.answer.specs.Answers.{Answer, outcome}
use Rattle.std.specs.Prelude.{◌≡◌, Bool, true, ◌&&◌, List, ℕ, ℤ, length, drop}
use Rattle.plain.specs.Count.{lines}
use Rattle.plain.specs.Outcome.{Outcome, Outcome.value, Outcome.refused, mapped}
use Rattle.plain_note.specs.Note.{Note, need}
use Rattle.note_head.specs.Head.{n_of, own_of}
use Rattle.edit_steps.specs.Held.{Kept}
use Rattle.memory.specs.Formed.{need_met, tree_right, slots_right, size_right, note_of, of_note}
use Rattle.plain.specs.Edit.{minus}

-- well formed but for the marks, which are not looked at
unfoldable pub shaped : List ℕ → Bool
unfolding need_met tree_right slots_right size_right own_of
shaped m = need_met m && (tree_right (own_of m) && (slots_right (own_of m) && size_right (own_of m)))

-- a note with another text
abbrev pub with_text : List ℕ → Note → Note
with_text t N = record { text = t; marks = N.marks; edit = N.edit; n = N.n }

-- The memory `after` holds the note of m with the text t; marks, edit number and slots are as they were. It is well formed but for the marks,
-- which the caller moves. No byte of the head has changed but those that tell the tree's root, its height and the first free slot, and none beyond
-- the need.
pub record Holding (m t after : List ℕ) : Type 0 where
  pub note : note_of after ≡ with_text t (note_of m)
  pub shape : shaped after ≡ true
  pub long : length after ≡ length m
  pub head : Kept m after
  pub beyond : drop (need (n_of m)) after ≡ drop (need (n_of m)) m

-- An edit of the note in the lent memory m that comes to o on paper, a text or a refusal, answered by r; it leaves the memory `after`. It is idle
-- where what it puts in or takes out is empty.
pub record Edited (o : Note → Outcome (List ℕ)) (idle : Type 0) (m : List ℕ) (r : Answer ℤ) (after : List ℕ) : Type 0 where
  -- the change of the number of lines, lines afterwards minus lines before, or the refusal
  pub answered : outcome r ≡ of_note m (λ N. mapped (λ t. minus (lines t) (lines N.text)) (o N))
  -- a refused call changes no byte
  pub unchanged : (q : ℕ) → of_note m o ≡ refused q → after ≡ m
  -- an accepted one leaves the text that it comes to
  pub edited : (t : List ℕ) → of_note m o ≡ value t → Holding m t after
  -- an idle one changes nothing at all
  pub still : idle → after ≡ m
