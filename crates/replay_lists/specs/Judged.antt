-- What is judged of a list's call: our five numbers and the memory are the recorded ones, or our refusal is.
use Rattle.std.specs.Prelude.{◌≡◌, Bool, true, cond, List, ℕ, eqb, Result, Ok, Err}
use Rattle.plain.specs.Outcome.{Outcome, Outcome.value, Outcome.refused}
use Rattle.list_calls.specs.Asked.{Five, asked_by}
use Rattle.replay_lists.specs.declared.judge.Question.{Question}

-- the outcome that is due
abbrev pub due : Question → List ℕ → Outcome (Five × List ℕ)
due q m = asked_by q.call m q.slot q.other q.i q.j q.kid

-- the answer that was recorded: a refusal's number, or 0 and the five numbers
abbrev pub reply : ℕ → Five → Result Five ℕ
reply n x = cond (eqb n 0) (Ok x) (Err n)

-- what an answer says, beside the memory afterwards
abbrev pub outcome_of : Result Five ℕ → List ℕ → Outcome (Five × List ℕ)
outcome_of (Ok x) m = value (x, m)
outcome_of (Err n) m = refused n

-- says of two outcomes whether they are one
abbrev pub Agrees : Bool → Outcome (Five × List ℕ) → Outcome (Five × List ℕ) → Type 0
Agrees s a b = (s ≡ true → a ≡ b) × (a ≡ b → s ≡ true)
