-- `remove_refusal` meets its contract: the check, the order of the two places, and the chars that the head says.
use mathlib.Core.Path.{sym, ◌∙◌}
use borrow.Author.Tests.{not-true, not-false}
use Rattle.edit_rules.proofs.Rules.{remove-2, remove-above, remove-past, remove-fine}
use Rattle.edit_rules.proofs.remove_refusal.Goals as goal

pub returns-then-not-check : goal.returns-then-not-check
returns-then-not-check c =
    let a = c.args in
    remove-2 a.m.now a.s a.e (sym c.check.ensures ∙ not-true _ c.if-not-check.true-raw)

pub returns-then-e-s : goal.returns-then-e-s
returns-then-e-s c =
    let a = c.args in
    remove-above a.m.now a.s a.e (sym c.check.ensures ∙ not-false _ c.if-not-check.false-raw) c.if-e-s.true

pub returns-then-chars_of-e : goal.returns-then-chars_of-e
returns-then-chars_of-e c =
    let a = c.args in
    remove-past a.m.now a.s a.e (sym c.check.ensures ∙ not-false _ c.if-not-check.false-raw) _ c.chars_of.ensures.0 c.if-chars_of-e.true

pub returns : goal.returns
returns c =
    let a = c.args in
    remove-fine a.m.now a.s a.e (sym c.check.ensures ∙ not-false _ c.if-not-check.false-raw) _ c.chars_of.ensures.0 c.if-e-s.false c.if-chars_of-e.false
