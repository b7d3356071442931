-- What C is told, from what the calls answer.
use Rattle.answer.specs.Answers.{Answer, outcome}
use mathlib.Core.Path.{◌≡◌, refl, ap, ◌∙◌}
use mathlib.Core.List.{List}
use Prim.Native.Nat.{ℕ}
use lib.ListN.{length}
use Rattle.plain.specs.Outcome.{Outcome, Outcome.value, Outcome.refused, part, kept, mapped}
use Rattle.leaf_bytes.specs.Leaf.{Leaf}
use Rattle.plain_note.specs.Note.{read_from, previewed}
use Rattle.memory.specs.Formed.{of_note}
use Rattle.runs.specs.Runs.{run_of, preview_of}
use Rattle.told.specs.Told.{code, Told}
use Rattle.told.proofs.Laws.{mapped-code}
use Rattle.note_c.specs.Told.{Copied}

-- bytes that were copied
pub copied-told : (o : Outcome (List ℕ)) (out after : List ℕ) (x y r : ℕ) (a : Answer ℕ) → Leaf o out a after → Told (outcome a) x r y → Copied o out x r after y
copied-told o out after x y r a h t = record {
  coded = t.coded ∙ (ap code h.answered ∙ mapped-code length o);
  output = h.region;
  counted = t.written ∙ ap (kept x) h.answered;
}

-- THEOREM: a part that is not empty shows that its call was accepted
part-shows : {A : Type 0} (f : A → List ℕ) (o : Outcome A) (r : List ℕ) → r ≡ part (mapped f o) → (length r ≡ 0 → ⊥) → 0 ≡ code o
unfolding code
part-shows f (value a) r e h = refl
part-shows f (refused n) r e h = absurd (h (ap length e))

pub run-shows : (m : List ℕ) (p : ℕ) (r : List ℕ) → r ≡ run_of m p → (length r ≡ 0 → ⊥) → 0 ≡ code (of_note m (λ N. read_from N p))
unfolding run_of
run-shows m p r e h = part-shows _ (of_note m (λ N. read_from N p)) r e h

pub preview-shows : (m : List ℕ) (p : ℕ) (piece : List ℕ) (q : ℕ) (r : List ℕ) → r ≡ preview_of m p piece q → (length r ≡ 0 → ⊥)
    → 0 ≡ code (of_note m (λ N. previewed N p piece q))
unfolding preview_of
preview-shows m p piece q r e h = part-shows _ (of_note m (λ N. previewed N p piece q)) r e h
