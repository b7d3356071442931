-- `checked` meets its contract.
use mathlib.Core.Path.{sym, ◌∙◌}
use Rattle.plain.proofs.Outcome.{rule-applies}
use Rattle.node_children.proofs.Rules.{three-second, three_third, three-passed}
use Rattle.child_info.proofs.checks.checked.Goals as goal

pub returns-then-mixes : goal.returns-then-mixes
returns-then-mixes c = sym (rule-applies 12 _ _ tt (sym c.mixes.ensures ∙ c.if-mixes.true))

pub returns-then-breaks : goal.returns-then-breaks
returns-then-breaks c = sym (three-second 12 2 5 _ _ _ tt (sym c.mixes.ensures ∙ c.if-mixes.false) (sym c.breaks.ensures ∙ c.if-breaks.true))

pub returns-then-some : goal.returns-then-some
returns-then-some c = sym (three_third 12 2 5 _ _ _ tt (sym c.mixes.ensures ∙ c.if-mixes.false) (sym c.breaks.ensures ∙ c.if-breaks.false) (sym c.some.ensures ∙ c.if-some.true))

pub returns : goal.returns
returns c = sym (three-passed 12 2 5 _ _ _ tt (sym c.mixes.ensures ∙ c.if-mixes.false) (sym c.breaks.ensures ∙ c.if-breaks.false) (sym c.some.ensures ∙ c.if-some.false))
