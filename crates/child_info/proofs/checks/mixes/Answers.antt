-- `mixes` meets its contract.
use mathlib.Core.Path.{sym, ◌∙◌}
use Rattle.child_info.proofs.Turns.{both, not-both}
use Rattle.child_info.proofs.checks.mixes.Goals as goal

pub returns-then-some : goal.returns-then-some
returns-then-some c = both _ _ _ (sym c.some.ensures ∙ c.if-some.true) c.some-then-some.ensures

pub returns : goal.returns
returns c = not-both _ _ (sym c.some.ensures ∙ c.if-some.false)
