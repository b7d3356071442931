-- `checked_seam` meets its contract: each test is a rule.
use mathlib.Core.Path.{sym, ◌∙◌}
use borrow.Author.Tests.{not-true, not-false}
use Rattle.node_text.proofs.Checks.{left-empty, right-empty, left-bad, right-bad, seam-good}
use Rattle.leaf_split.proofs.checked_seam.Goals as goal

pub returns-then-l-eq0 : goal.returns-then-l-eq0
returns-then-l-eq0 c = left-empty c.args.l.now c.args.r.now _ c.if-l-eq0.true

pub returns-then-r-eq0 : goal.returns-then-r-eq0
returns-then-r-eq0 c = right-empty c.args.l.now c.args.r.now _ c.if-r-eq0.true

pub returns-then-not-valid : goal.returns-then-not-valid
returns-then-not-valid c = left-bad c.args.l.now c.args.r.now _ c.if-l-eq0.false c.if-r-eq0.false (sym c.valid.ensures ∙ not-true _ c.if-not-valid.true-raw)

pub returns-then-not-valid-2 : goal.returns-then-not-valid-2
returns-then-not-valid-2 c = right-bad c.args.l.now c.args.r.now _ c.if-l-eq0.false c.if-r-eq0.false (sym c.valid-2.ensures ∙ not-true _ c.if-not-valid-2.true-raw)

pub returns : goal.returns
returns c = seam-good c.args.l.now c.args.r.now _ c.if-l-eq0.false c.if-r-eq0.false (sym c.valid.ensures ∙ not-false _ c.if-not-valid.false-raw) (sym c.valid-2.ensures ∙ not-false _ c.if-not-valid-2.false-raw)
