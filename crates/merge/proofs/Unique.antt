-- What `merge_distribute` promises settles its answer and every byte afterwards: no second outcome meets it.
use Rattle.answer.specs.Answers.{Answer}
use mathlib.Core.Path.{◌≡◌, sym, ◌∙◌}
use mathlib.Core.Bool.{Bool}
use mathlib.Core.List.{List}
use Prim.Native.Nat.{ℕ}
use Rattle.plain.specs.Outcome.{Outcome}
use Rattle.answer.proofs.Unique.{answer-one}
use Rattle.merge.specs.Join.{Joined}

pub joined-one : (o : Outcome (Bool × List ℕ)) (before : List ℕ) (r s : Answer Bool) (after later : List ℕ)
    → Joined o before r after → Joined o before s later → (r ≡ s) × (after ≡ later)
joined-one o before r s after later p q = (answer-one r s (p.answered ∙ sym q.answered), p.memory ∙ sym q.memory)
