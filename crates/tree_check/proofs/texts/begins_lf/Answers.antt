-- `begins_lf` meets its contract.
use Rattle.tree_check.proofs.Ends.{lf-nil, lf-first}
use Rattle.tree_check.proofs.texts.begins_lf.Goals as goal

pub returns-then-text-eq0 : goal.returns-then-text-eq0
returns-then-text-eq0 c = lf-nil _ c.if-text-eq0.true

pub returns : goal.returns
returns c = lf-first _ c.if-text-eq0.false
