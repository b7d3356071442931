-- `set_mark` meets its contract: refusals 2, 3 and 8 in this order, and then the mark's bytes.
use mathlib.Core.Path.{sym, ◌∙◌}
use native.Mathlib.Omega.{arith}
use Rattle.note_promise.proofs.Mark.{long-head}
use Rattle.note_promise.proofs.MarkCalls.{set-2, set-3, set-8, set-done}
use Rattle.marks.proofs.Rules.{set_there, set-never}
use borrow.Author.Tests.{not-true, not-false}
use Rattle.mark_calls.proofs.set_mark.Goals as goal

pub returns-then-not-check : goal.returns-then-not-check
returns-then-not-check c = let a = c.args in set-2 a.m.now a.p (sym c.check.ensures ∙ not-true _ c.if-not-check.true-raw)

pub returns-then-chars_of-p : goal.returns-then-chars_of-p
returns-then-chars_of-p c =
    let a = c.args in
    set-3 a.m.now a.p (sym c.check.ensures ∙ not-false _ c.if-not-check.false-raw) _ c.chars_of.ensures.0 (omega arith)

pub returns-then-k-ge-MARKS : goal.returns-then-k-ge-MARKS
returns-then-k-ge-MARKS c =
    let a = c.args in
    set-8 a.m.now a.p (sym c.check.ensures ∙ not-false _ c.if-not-check.false-raw) _ c.chars_of.ensures.0 (omega arith) _ c.lowest_free-k.ensures (omega arith)

pub returns-in_err-set_at : goal.returns-in_err-set_at
returns-in_err-set_at c =
    let a = c.args in
    let ok = sym c.check.ensures ∙ not-false _ c.if-not-check.false-raw in
    set-never a.m.now (long-head a.m.now ok) _ (omega arith) a.p _ _ c.set_at.ensures _ c.in_err-set_at.was

pub returns : goal.returns
returns c =
    let a = c.args in
    let ok = sym c.check.ensures ∙ not-false _ c.if-not-check.false-raw in
    set-done a.m.now a.p ok _ c.chars_of.ensures.0 (omega arith) _ c.lowest_free-k.ensures (omega arith) (omega arith) _
    (set_there a.m.now (long-head a.m.now ok) _ (omega arith) a.p _ _ c.set_at.ensures)
