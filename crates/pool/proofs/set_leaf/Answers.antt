-- `set_leaf` meets its contract.
use Rattle.pool.proofs.set_leaf.Goals as goal

pub returns : goal.returns
returns c = c.set_head.ensures
