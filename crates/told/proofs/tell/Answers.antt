-- `told::tell` meets its contract, in each of the two cases.
use Rattle.answer.specs.Answers.{outcome}
use mathlib.Core.Path.{sym, ap, ◌∙◌}
use Rattle.plain.specs.Outcome.{kept}
use Rattle.told.specs.Told.{code}
use Rattle.told.proofs.tell.Goals as goal

pub returns-in-Ok : goal.returns-in-Ok
unfolding code
returns-in-Ok c =
    let o = sym (ap outcome c.in-Ok.is) in
    record { coded = ap code o; written = ap (kept c.args.out.now) o }

pub returns-in-Err : goal.returns-in-Err
unfolding code
returns-in-Err c =
    let o = sym (ap outcome c.in-Err.is) in
    record { coded = c.from.ensures ∙ ap code o; written = ap (kept c.args.out.now) o }
