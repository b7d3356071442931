-- `breaks` meets its contract.
use mathlib.Core.Path.{sym, ◌∙◌}
use Rattle.child_info.proofs.Turns.{first, then}
use Rattle.child_info.proofs.checks.breaks.Goals as goal

pub returns-then-some : goal.returns-then-some
returns-then-some c = first _ _ (sym c.some.ensures ∙ c.if-some.true)

pub returns-then-meets : goal.returns-then-meets
returns-then-meets c = then _ _ _ (sym c.some.ensures ∙ c.if-some.false) (first _ _ (sym c.meets.ensures ∙ c.if-meets.true))

pub returns : goal.returns
returns c = then _ _ _ (sym c.some.ensures ∙ c.if-some.false) (then _ _ _ (sym c.meets.ensures ∙ c.if-meets.false) c.twice.ensures)
