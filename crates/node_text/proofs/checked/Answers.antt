-- `checked` meets its contract: each test is a rule.
use mathlib.Core.Path.{sym, ◌∙◌}
use native.Mathlib.Omega.{arith}
use borrow.Author.Tests.{not-true, not-false}
use Rattle.node_text.proofs.Checks.{range-falls, start-off, end-off, leaf-bad, piece-bad, all-good}
use Rattle.node_text.proofs.checked.Goals as goal

pub returns-then-end-start : goal.returns-then-end-start
returns-then-end-start c = range-falls c.args.leaf.now c.args.start c.args.end c.args.piece.now _ (omega arith)

pub returns-then-not-is_boundary : goal.returns-then-not-is_boundary
returns-then-not-is_boundary c = start-off _ _ _ _ _ (sym c.is_boundary.ensures ∙ not-true _ c.if-not-is_boundary.true-raw)

pub returns-then-not-is_boundary-2 : goal.returns-then-not-is_boundary-2
returns-then-not-is_boundary-2 c = end-off _ _ _ _ _ (sym c.is_boundary-2.ensures ∙ not-true _ c.if-not-is_boundary-2.true-raw)

pub returns-then-not-valid : goal.returns-then-not-valid
returns-then-not-valid c = leaf-bad c.args.leaf.now c.args.start c.args.end c.args.piece.now _ (omega arith) (sym c.is_boundary.ensures ∙ not-false _ c.if-not-is_boundary.false-raw) (sym c.is_boundary-2.ensures ∙ not-false _ c.if-not-is_boundary-2.false-raw) (sym c.valid.ensures ∙ not-true _ c.if-not-valid.true-raw)

pub returns-then-not-valid-2 : goal.returns-then-not-valid-2
returns-then-not-valid-2 c = piece-bad c.args.leaf.now c.args.start c.args.end c.args.piece.now _ (omega arith) (sym c.is_boundary.ensures ∙ not-false _ c.if-not-is_boundary.false-raw) (sym c.is_boundary-2.ensures ∙ not-false _ c.if-not-is_boundary-2.false-raw) (sym c.valid-2.ensures ∙ not-true _ c.if-not-valid-2.true-raw)

pub returns : goal.returns
returns c =
    all-good c.args.leaf.now c.args.start c.args.end c.args.piece.now _ (omega arith) (sym c.is_boundary.ensures ∙ not-false _ c.if-not-is_boundary.false-raw) (sym c.is_boundary-2.ensures ∙ not-false _ c.if-not-is_boundary-2.false-raw)
    (sym c.valid.ensures ∙ not-false _ c.if-not-valid.false-raw) (sym c.valid-2.ensures ∙ not-false _ c.if-not-valid-2.false-raw)
