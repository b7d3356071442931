-- `run_refusal` meets its contract: the check, and the chars that the head says.
use mathlib.Core.Path.{sym, ◌∙◌}
use borrow.Author.Tests.{not-true, not-false}
use Rattle.runs.proofs.Rules.{said-2, run_past, run-fine}
use Rattle.runs.proofs.run_refusal.Goals as goal

pub returns-then-not-check : goal.returns-then-not-check
returns-then-not-check c = said-2 c.args.m.now _ (sym c.check.ensures ∙ not-true _ c.if-not-check.true-raw)

pub returns-then-chars_of-p : goal.returns-then-chars_of-p
returns-then-chars_of-p c = run_past c.args.m.now c.args.p (sym c.check.ensures ∙ not-false _ c.if-not-check.false-raw) _ c.chars_of.ensures.0 c.if-chars_of-p.true

pub returns : goal.returns
returns c = run-fine c.args.m.now c.args.p (sym c.check.ensures ∙ not-false _ c.if-not-check.false-raw) _ c.chars_of.ensures.0 c.if-chars_of-p.false
