-- `compact` meets its contract: what is still to do stays what was to do, and no turn is refused.
use Prim.Native.Nat.{◌-◌}
use Rattle.node_children.specs.Kids.{kids}
use Rattle.compact.proofs.Loops.{Loop}
use Rattle.compact.proofs.pack.compact.Given as goal

abbrev pub invariant-loop-i : goal.invariant-loop-i
invariant-loop-i l = Loop l.initial.m (kids l.initial.list) l.m l.list l.i

abbrev pub decreases-loop-i : goal.decreases-loop-i
decreases-loop-i l = l.list.len - l.i
