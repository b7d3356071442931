-- `mark_line` meets its contract.
use Rattle.answer.specs.Answers.{outcome}
use mathlib.Core.Path.{sym, ap, ◌∙◌}
use Rattle.note_promise.proofs.MarkCalls.{line-2, line_refused, line-told}
use borrow.Author.Tests.{not-true, not-false}
use Rattle.mark_calls.proofs.mark_line.Goals as goal

pub returns-then-not-check : goal.returns-then-not-check
returns-then-not-check c = let a = c.args in line-2 a.m.now a.k (sym c.check.ensures ∙ not-true _ c.if-not-check.true-raw)

pub returns-in_default : goal.returns-in_default
returns-in_default c =
    let a = c.args in
    ap outcome c.in_default.is
    ∙ line_refused a.m.now a.k (sym c.check.ensures ∙ not-false _ c.if-not-check.false-raw) _ (sym (ap outcome c.in_default.is) ∙ c.standing_at-place.ensures)

pub returns : goal.returns
returns c =
    let a = c.args in
    c.char_to_line.ensures ∙ line-told a.m.now a.k _ (sym (ap outcome c.in-Ok.is) ∙ c.standing_at-place.ensures)
