-- `plus` meets its contract.
use native.Mathlib.Omega.{arith}
use Rattle.child_search.proofs.Sums.{plus-exact}
use Rattle.tree_check.proofs.texts.plus.Goals as goal

pub returns : goal.returns
returns c = plus-exact c.args.sum c.args.info c.add.result c.requires (omega arith) (omega arith) (omega arith) (omega arith) c.add.ensures
