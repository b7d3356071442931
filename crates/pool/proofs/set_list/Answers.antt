-- `set_list` meets its contract.
use Rattle.pool.proofs.set_list.Goals as goal

pub returns : goal.returns
returns c = c.set_head.ensures
