-- What is judged of a leaf's call: our two leaves are the recorded ones, or our refusal is.
use Rattle.std.specs.Prelude.{◌≡◌, Bool, true, cond, List, ℕ, eqb, length}
use Rattle.plain.specs.Outcome.{Outcome, Outcome.value, Outcome.refused, mapped}
use Rattle.replay.specs.Answer.{given}
use Rattle.replay.specs.declared.input.Case.{Case}

-- the recorded outcome: a refusal's number, or 0 and the two leaves
abbrev pub recorded : ℕ → List ℕ → List ℕ → Outcome (List ℕ × List ℕ)
recorded n l r = cond (eqb n 0) (value (l, r)) (refused n)

-- says of two outcomes that they are one
abbrev pub Agrees : Bool → Outcome (List ℕ × List ℕ) → Outcome (List ℕ × List ℕ) → Type 0
Agrees s a b = (s ≡ true → a ≡ b) × (a ≡ b → s ≡ true)

-- a case has the refusal that is due, or the left leaf's length, and says whether the outcome is the one that was recorded
abbrev pub LeavesJudged : Outcome (List ℕ × List ℕ) → Outcome (List ℕ × List ℕ) → Case → Type 0
LeavesJudged due was x = (x.given ≡ given (mapped (λ t. length t.0) due)) × Agrees x.is_same due was
