-- What is said of a case, and what a run counts.
use Rattle.std.specs.Prelude.{◌≡◌, true, List, [], ◌∷◌, ℕ, ◌+◌, ◌<◌, length, get_or, set, Result, Option, Some}
use Rattle.plain.specs.Outcome.{Outcome}
use Rattle.replay.specs.Answer.{given}
use Rattle.replay.specs.declared.input.Case.{Case}

-- the function of a case has a count
abbrev pub Known : Case → Type 0
Known x = x.function < 32

-- a case has the answer that is due, and says whether it is the one that was recorded
abbrev pub Judged : Outcome ℕ → Option (Result ℕ ℕ) → Case → Type 0
Judged due was x = (x.given ≡ given due) × (x.is_same ≡ true → was ≡ Some x.given) × (was ≡ Some x.given → x.is_same ≡ true)

unfoldable pub sum : List ℕ → ℕ
sum [] = 0
sum (x ∷ xs) = x + sum xs

-- one more at f, so one more in all
pub record Counted (xs : List ℕ) (f : ℕ) (ys : List ℕ) : Type 0 where
  pub set_at : ys ≡ set xs f (get_or xs f 0 + 1)
  pub long : length ys ≡ length xs
  pub total : sum ys ≡ sum xs + 1

-- a count for each number below 32, and n in all
abbrev pub Sums : List ℕ → ℕ → Type 0
Sums xs n = (length xs ≡ 32) × (sum xs ≡ n)
