-- `fourteen_main::compare::is` meets its contract, in each of the two cases.
use Rattle.answer.specs.Answers.{outcome}
use mathlib.Core.Path.{◌≡◌, ap, ◌∙◌}
use mathlib.Core.Bool.{true, false}
use borrow.Author.Tests.{eqb-true}
use Rattle.plain.specs.Outcome.{Outcome.value}
use Rattle.fourteen_main.proofs.compare.is.Goals as goal

pub returns-in-Ok : goal.returns-in-Ok
returns-in-Ok c = λ h. ap outcome c.in-Ok.is ∙ ap value (eqb-true c.in-Ok.n c.args.due h)

pub returns-in-Err : goal.returns-in-Err
returns-in-Err c = λ h. let z : false ≡ true = h in cc
