-- `drop_mark` meets its contract: refusals 2 and 7 in this order, and then the mark's byte.
use Rattle.answer.proofs.Opened.{raised}
use Rattle.answer.specs.Answers.{outcome}
use mathlib.Core.Path.{sym, ap, ◌∙◌}
use Rattle.note_promise.proofs.MarkCalls.{drop-2, drop-7, dropped}
use borrow.Author.Tests.{not-true, not-false}
use Rattle.mark_calls.proofs.drop_mark.Goals as goal

pub returns-then-not-check : goal.returns-then-not-check
returns-then-not-check c = let a = c.args in drop-2 a.m.now a.k (sym c.check.ensures ∙ not-true _ c.if-not-check.true-raw)

pub returns-in_err-standing_at : goal.returns-in_err-standing_at
returns-in_err-standing_at c = rw (raised c.from_residual.ensures.1) (
    let a = c.args in
    drop-7 a.m.now a.k (sym c.check.ensures ∙ not-false _ c.if-not-check.false-raw) _ (sym (ap outcome c.in_err-standing_at.was) ∙ c.standing_at.ensures))

pub returns : goal.returns
returns c =
    let a = c.args in
    dropped a.m.now a.k (sym c.check.ensures ∙ not-false _ c.if-not-check.false-raw) _ (sym (ap outcome c.in_ok-standing_at.was) ∙ c.standing_at.ensures) _ _ c.set_mark_live.ensures
