-- What C is told of a call that may change the note: its code, and its answer through a pointer; and what it leaves in the memory.
use Rattle.std.specs.Prelude.{◌≡◌, List, ℕ, ℤ}
use Rattle.plain.specs.Outcome.{Outcome, mapped, kept}
use Rattle.plain_note.specs.Note.{Note}
use Rattle.memory.specs.Formed.{of_note}
use Rattle.note_promise.specs.Called.{EditCalled, MarkCalled}
use Rattle.told.specs.Told.{code}

-- what the call answers
abbrev pub answer_of : {A : Type 0} → (Note → Outcome (A × Note)) → List ℕ → Outcome A
answer_of o m = mapped (λ r. r.0) (of_note m o)

-- a refusal writes nothing
pub record Told {A : Type 0} (o : Note → Outcome (A × Note)) (m : List ℕ) (out : A) (r : ℕ) (out-after : A) : Type 0 where
  pub coded : r ≡ code (of_note m o)
  pub written : out-after ≡ kept out (answer_of o m)

-- the memory, as the note's own calls leave it
abbrev pub EditTold : (Note → Outcome (ℤ × Note)) → ℕ → ℕ → List ℕ → List ℕ → List ℕ → Type 0
EditTold o s e piece m after = EditCalled o s e piece m (answer_of o m) after

abbrev pub MarkTold : {A : Type 0} → (Note → Outcome (A × Note)) → (A → List ℕ) → List ℕ → List ℕ → Type 0
MarkTold o bytes m after = MarkCalled o bytes m (answer_of o m) after
