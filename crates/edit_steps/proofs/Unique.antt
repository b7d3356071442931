-- What an edit tells settles its answer, and what a step promises settles its answer and every byte afterwards: no second outcome meets it.
use Rattle.std.specs.Prelude.{Ok, Err}
use mathlib.Core.Path.{◌≡◌, sym, ap, ◌∙◌}
use mathlib.Core.Bool.{Bool}
use mathlib.Core.List.{List}
use Prim.Native.Nat.{ℕ}
use native.Mathlib.Omega.{arith}
use Rattle.plain.specs.Outcome.{Outcome, Outcome.value, Outcome.refused}
use Rattle.answer.specs.Answers.{refusal_number, Answer, outcome}
use Rattle.answer.proofs.Unique.{refusal-one, answer-one}
use Rattle.edit_steps.specs.declared.Edit.{Edit}
use Rattle.edit_steps.specs.declared.Edit.TheVariants as Edit·case
use Rattle.edit_steps.specs.Made.{Made, Made.same, Made.split, Made.small, Made.apart, edit, Stepped}
use Rattle.edit_steps.specs.Acts.{Act, Did}

none : ◌≡◌ {A = ℕ} 0 1 → ⊥
none z = omega arith

-- the answer that tells what was made
telling : Outcome Made → Answer Edit
telling (value (same i)) = Ok (Edit·case.Same i)
telling (value (split i s j)) = Ok (Edit·case.Split i s j)
telling (value (small i)) = Ok (Edit·case.Small i)
telling (value apart) = Ok Edit·case.Apart
telling (refused n) = Ok Edit·case.Apart

told : (b : Answer Edit) (m : Made) → edit b ≡ value m → telling (value m) ≡ b
unfolding telling
told (Ok (Edit·case.Same i)) m e = ap telling (sym e)
told (Ok (Edit·case.Split i s j)) m e = ap telling (sym e)
told (Ok (Edit·case.Small i)) m e = ap telling (sym e)
told (Ok Edit·case.Apart) m e = ap telling (sym e)
told (Err r) m e = absurd (none (cc))

pub edit-one : (a b : Answer Edit) → edit a ≡ edit b → a ≡ b
unfolding telling
edit-one (Ok (Edit·case.Same i)) b e = told b (same i) (sym e)
edit-one (Ok (Edit·case.Split i s j)) b e = told b (split i s j) (sym e)
edit-one (Ok (Edit·case.Small i)) b e = told b (small i) (sym e)
edit-one (Ok Edit·case.Apart) b e = told b apart (sym e)
edit-one (Err q) (Err r) e = let z : refusal_number q ≡ refusal_number r = cc in ap Err (refusal-one q r z)
edit-one (Err q) (Ok (Edit·case.Same i)) e = absurd (none (cc))
edit-one (Err q) (Ok (Edit·case.Split i s j)) e = absurd (none (cc))
edit-one (Err q) (Ok (Edit·case.Small i)) e = absurd (none (cc))
edit-one (Err q) (Ok Edit·case.Apart) e = absurd (none (cc))

-- THEOREM: of a step
pub stepped-one : (o : Outcome (Made × List ℕ)) (before : List ℕ) (r s : Answer Edit) (after later : List ℕ) → Stepped o before r after → Stepped o before s later → (r ≡ s) × (after ≡ later)
stepped-one o before r s after later p q = (edit-one r s (p.answered ∙ sym q.answered), p.memory ∙ sym q.memory)

-- THEOREM: of a call that works on the memory, whatever it answers
did-one : {A B : Type 0} (means : B → Outcome A) → ((a b : B) → means a ≡ means b → a ≡ b) → (o : Act A) (r s : B) (after later : List ℕ)
    → Did means o r after → Did means o s later → (r ≡ s) × (after ≡ later)
did-one means one o r s after later p q = (one r s (p.answered ∙ sym q.answered), p.memory ∙ sym q.memory)

pub did-edit-one : (o : Act Made) (r s : Answer Edit) (after later : List ℕ) → Did edit o r after → Did edit o s later → (r ≡ s) × (after ≡ later)
did-edit-one = did-one edit edit-one

pub did-number-one : (o : Act ℕ) (r s : Answer ℕ) (after later : List ℕ) → Did outcome o r after → Did outcome o s later → (r ≡ s) × (after ≡ later)
did-number-one = did-one outcome answer-one

pub did-truth-one : (o : Act Bool) (r s : Answer Bool) (after later : List ℕ) → Did outcome o r after → Did outcome o s later → (r ≡ s) × (after ≡ later)
did-truth-one = did-one outcome answer-one

pub did-verdict-one : (o : Act (Unit {0})) (r s : Answer (Unit {0})) (after later : List ℕ) → Did outcome o r after → Did outcome o s later → (r ≡ s) × (after ≡ later)
did-verdict-one = did-one outcome answer-one
