-- `mark_place` meets its contract.
use mathlib.Core.Path.{sym, ◌∙◌}
use Rattle.note_promise.proofs.MarkCalls.{place-2, place-told}
use borrow.Author.Tests.{not-true, not-false}
use Rattle.mark_calls.proofs.mark_place.Goals as goal

pub returns-then-not-check : goal.returns-then-not-check
returns-then-not-check c = let a = c.args in place-2 a.m.now a.k (sym c.check.ensures ∙ not-true _ c.if-not-check.true-raw)

pub returns : goal.returns
returns c =
    let a = c.args in
    c.standing_at.ensures ∙ place-told a.m.now a.k (sym c.check.ensures ∙ not-false _ c.if-not-check.false-raw)
