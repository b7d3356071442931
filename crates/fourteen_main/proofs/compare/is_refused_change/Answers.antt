-- `fourteen_main::compare::is_refused_change` meets its contract, in each of the two cases.
use Rattle.answer.specs.Answers.{outcome}
use mathlib.Core.Path.{◌≡◌, sym, ap, ◌∙◌}
use mathlib.Core.Bool.{true, false}
use borrow.Author.Tests.{eqb-true}
use Rattle.plain.specs.Outcome.{Outcome.refused}
use Rattle.fourteen_main.proofs.compare.is_refused_change.Goals as goal

pub returns-in-Ok : goal.returns-in-Ok
returns-in-Ok c = λ h. let z : false ≡ true = h in cc

pub returns-in-Err : goal.returns-in-Err
returns-in-Err c = λ h.
    ap outcome c.in-Err.is ∙ ap refused (sym c.from.ensures ∙ eqb-true c.from.result c.args.due h)
