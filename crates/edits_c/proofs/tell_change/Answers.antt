-- `edits_c::tell_change` meets its contract, in each of the two cases.
use Rattle.answer.specs.Answers.{outcome}
use mathlib.Core.Path.{sym, ap, ◌∙◌}
use mir.Syntax.{w64}
use mir.ValLaws.{to_z-of_z}
use Rattle.plain.specs.Outcome.{kept}
use Rattle.told.specs.Told.{code}
use Rattle.edits_c.proofs.tell_change.Goals as goal

pub returns-in-Ok : goal.returns-in-Ok
unfolding code
returns-in-Ok c =
    let o = sym (ap outcome c.in-Ok.is) in
    (ap code o, to_z-of_z w64 c.in-Ok.n (record { sfits = c.in-Ok.known_told-1-own.given.0.1 }) ∙ ap (kept c.args.out.now) o)

pub returns-in-Err : goal.returns-in-Err
unfolding code
returns-in-Err c =
    let o = sym (ap outcome c.in-Err.is) in
    (c.from.ensures ∙ ap code o, ap (kept c.args.out.now) o)
