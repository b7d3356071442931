-- An outcome as an answer of this program: a value, or the number of a refusal.
use Rattle.std.specs.Prelude.{ℕ, cond, eqb, Result, Ok, Err, Option, Some, None}
use Rattle.plain.specs.Outcome.{Outcome, Outcome.value, Outcome.refused}

abbrev pub given : Outcome ℕ → Result ℕ ℕ
given (value n) = Ok n
given (refused k) = Err k

-- the answer that was recorded: a refusal's number, or 0, and the value, which is 0 beside a refusal
abbrev pub recorded : ℕ → ℕ → Option (Result ℕ ℕ)
recorded k n = cond (eqb k 0) (Some (Ok n)) (cond (eqb n 0) (Some (Err k)) None)
