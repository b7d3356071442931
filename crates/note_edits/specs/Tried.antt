-- An edit that is tried first: it is not refused, and tells whether it was done. Where it was not, nothing changed.
use Rattle.answer.specs.Answers.{Answer, outcome}
use Rattle.std.specs.Prelude.{◌≡◌, Bool, true, false, List, ℕ}
use Rattle.plain.specs.Outcome.{Outcome.value}
use Rattle.edit_promise.specs.Turned.{Turned}

abbrev pub TurnedIf : Bool → List ℕ → List ℕ → List ℕ → Type 0
TurnedIf true m cs later = Turned m cs later
TurnedIf false m cs later = later ≡ m

pub record Tried (m cs : List ℕ) (r : Answer Bool) (later : List ℕ) : Type 0 where
  pub done : Bool
  pub told : outcome r ≡ value done
  pub left : TurnedIf done m cs later
