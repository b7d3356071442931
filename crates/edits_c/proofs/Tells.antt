-- What C is told of a call, from what the call promises.
use mathlib.Core.Path.{◌≡◌, ap, subst, ◌∙◌}
use mathlib.Core.List.{List}
use Prim.Native.Nat.{ℕ}
use lib.IntN.{ℤ}
use Rattle.plain.specs.Outcome.{Outcome, kept}
use Rattle.plain_note.specs.Note.{Note}
use Rattle.memory.specs.Formed.{of_note}
use Rattle.note_promise.specs.Called.{EditCalled, MarkCalled}
use Rattle.told.specs.Told.{code}
use Rattle.told.proofs.Laws.{mapped-code}
use Rattle.edits_c.specs.Told.{answer_of, Told, EditTold, MarkTold}

module _ {A : Type 0} (o : Note → Outcome (A × Note)) (m : List ℕ) (said : Outcome A) (e : said ≡ answer_of o m) where
  pub code_is : (r : ℕ) → r ≡ code said → r ≡ code (of_note m o)
  code_is r c = c ∙ ap code e ∙ mapped-code (λ x. x.0) (of_note m o)

  pub told : (out out-after : A) (r : ℕ) → r ≡ code said → out-after ≡ kept out said → Told o m out r out-after
  told out out-after r c k = record { coded = code_is r c; written = k ∙ ap (kept out) e }

pub edit-told : (o : Note → Outcome (ℤ × Note)) (s e : ℕ) (piece m : List ℕ) (said : Outcome ℤ) (after : List ℕ) → EditCalled o s e piece m said after → EditTold o s e piece m after
edit-told o s e piece m said after w = subst (λ (x : Outcome ℤ). EditCalled o s e piece m x after) w.called.answered w

pub mark-told : {A : Type 0} (o : Note → Outcome (A × Note)) (bytes : A → List ℕ) (m : List ℕ) (said : Outcome A) (after : List ℕ) → MarkCalled o bytes m said after → MarkTold o bytes m after
mark-told {A} o bytes m said after w = subst (λ (x : Outcome A). MarkCalled o bytes m x after) w.called.answered w
