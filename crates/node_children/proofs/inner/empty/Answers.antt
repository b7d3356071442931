-- `empty` meets its contract.
use Rattle.node_children.proofs.Lists.{none-holds}
use Rattle.node_children.proofs.inner.empty.Goals as goal

pub returns : goal.returns
returns c = none-holds c.no_kid-k.result c.no_kid-k.ensures
