-- `ends_cr` meets its contract.
use native.Mathlib.Omega.{arith}
use Rattle.tree_check.proofs.Ends.{cr-nil, cr-last}
use Rattle.tree_check.proofs.texts.ends_cr.Goals as goal

pub returns-then-n-eq0 : goal.returns-then-n-eq0
returns-then-n-eq0 c = cr-nil _ c.if-n-eq0.true

pub returns : goal.returns
returns c = cr-last _ _ (omega arith)
