-- `set_free` meets its contract.
use Rattle.pool.proofs.set_free.Goals as goal

pub returns : goal.returns
returns c = c.set_head.ensures
