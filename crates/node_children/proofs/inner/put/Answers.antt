-- `put` meets its contract.
use native.Mathlib.Omega.{arith}
use Rattle.node_children.proofs.Lists.{put_holds}
use Rattle.node_children.proofs.inner.put.Goals as goal

pub returns : goal.returns
returns c = put_holds c.args.list c.args.item (omega arith) c.requires.1
