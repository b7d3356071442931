-- `level` meets its contract. The two lists keep their children between them, in order, whichever way one goes at a turn; none is refused.
use mathlib.Core.List.{◌++◌}
use Prim.Native.Nat.{◌≤◌, ◌+◌, ◌-◌}
use Rattle.node_children.specs.Kids.{kids}
use Rattle.node_children.proofs.Halves.{Joined}
use Rattle.child_split.proofs.level.Given as goal

abbrev pub invariant-loop-right : goal.invariant-loop-right
invariant-loop-right l = Joined l.left l.right (l.initial.left.len + l.initial.right.len) (kids l.initial.left ++ kids l.initial.right)

abbrev pub decreases-loop-right : goal.decreases-loop-right
decreases-loop-right l = l.r_target_len - l.right.len

abbrev pub invariant-loop-right-2 : goal.invariant-loop-right-2
invariant-loop-right-2 l = (l.r_target_len ≤ l.right.len) × Joined l.left l.right (l.initial.left.len + l.initial.right.len) (kids l.initial.left ++ kids l.initial.right)

abbrev pub decreases-loop-right-2 : goal.decreases-loop-right-2
decreases-loop-right-2 l = l.right.len - l.r_target_len
