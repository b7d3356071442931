-- What taking a slot promises settles its answer and every byte afterwards: no second outcome meets it. Giving one back is a writing call (pool).
use Rattle.answer.specs.Answers.{Answer}
use mathlib.Core.Path.{◌≡◌, sym, ◌∙◌}
use mathlib.Core.List.{List}
use Prim.Native.Nat.{ℕ}
use Rattle.plain.specs.Outcome.{Outcome}
use Rattle.answer.proofs.Unique.{answer-one}
use Rattle.free_slots.specs.Slots.{Took}

pub took_one : (o : Outcome (ℕ × List ℕ)) (before : List ℕ) (r s : Answer ℕ) (after later : List ℕ) → Took o before r after → Took o before s later → (r ≡ s) × (after ≡ later)
took_one o before r s after later p q = (answer-one r s (p.answered ∙ sym q.answered), p.memory ∙ sym q.memory)
