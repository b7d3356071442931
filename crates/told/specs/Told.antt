-- What C is told: the code of an outcome, and a number through a pointer.
use Rattle.std.specs.Prelude.{◌≡◌, ℕ}
use Rattle.plain.specs.Outcome.{Outcome, Outcome.value, Outcome.refused, kept}

-- 0 for a value, else the number of the refusal
unfoldable pub code : {A : Type 0} → Outcome A → ℕ
code (value a) = 0
code (refused n) = n

-- a number through a pointer; a refusal writes nothing
pub record Told (o : Outcome ℕ) (out : ℕ) (r : ℕ) (out-after : ℕ) : Type 0 where
  pub coded : r ≡ code o
  pub written : out-after ≡ kept out o
