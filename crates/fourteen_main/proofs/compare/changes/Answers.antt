-- `fourteen_main::compare::changes` meets its contract, in each of the two cases.
use Rattle.answer.specs.Answers.{outcome}
use mathlib.Core.Path.{◌≡◌, sym, ap, ◌∙◌}
use mathlib.Core.Bool.{true, false}
use borrow.Author.Tests.{eqb-true}
use borrow.Author.Rules.{rules}
use mir.Syntax.{w64}
use mir.Val.{to_z, of_z}
use mir.Facts.{to_z-of_z}
use Rattle.plain.specs.Outcome.{Outcome.value}
use Rattle.fourteen_main.proofs.compare.changes.Goals as goal

pub returns-in-Ok : goal.returns-in-Ok
returns-in-Ok c = λ h.
    let e : of_z w64 c.in-Ok.d ≡ of_z w64 c.args.due = eqb-true _ _ h in
    ap outcome c.in-Ok.is ∙ ap value (sym (to_z-of_z {w = w64} (search rules)) ∙ (ap (to_z w64) e ∙ to_z-of_z {w = w64} c.ranges.due))

pub returns-in-Err : goal.returns-in-Err
returns-in-Err c = λ h. let z : false ≡ true = h in cc
