-- What C is told: a code, five numbers written through pointers, and what is left of the memory.
use Rattle.std.specs.Prelude.{◌≡◌, List, ℕ}
use Rattle.plain.specs.Outcome.{Outcome, kept, mapped}
use Rattle.told.specs.Told.{code}
use Rattle.list_calls.specs.Asked.{Five}

pub record ListTold (o : Outcome (Five × List ℕ)) (memory : List ℕ) (numbers : Five) (r : ℕ) (memory-after : List ℕ) (numbers-after : Five) : Type 0 where
  pub coded : r ≡ code (mapped (λ t. t.0.0) o)
  pub memory-is : memory-after ≡ kept memory (mapped (λ t. t.1) o)
  pub numbers-are : numbers-after ≡ kept numbers (mapped (λ t. t.0) o)
