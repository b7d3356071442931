-- `child` meets its contract.
use mathlib.Core.Path.{sym}
use native.Mathlib.Omega.{arith}
use lib.Seq.{get_or-take}
use Rattle.pool.specs.Slot.{no_kid}
use Rattle.node_children.proofs.inner.child.Goals as goal

pub returns : goal.returns
returns c = sym (get_or-take c.args.list.len c.args.list.arr c.args.at no_kid (omega arith))
