-- `append` meets its contract. Each turn puts the next child behind the others, and none is refused.
use mathlib.Core.Path.{◌≡◌}
use mathlib.Core.List.{◌++◌}
use Prim.Native.Nat.{◌≤◌, ◌+◌, ◌-◌}
use lib.ListN.{length, take, drop}
use Rattle.node_children.specs.Kids.{kids, Holds}
use Rattle.merge.proofs.join.append.Given as goal

abbrev pub invariant-loop-i : goal.invariant-loop-i
invariant-loop-i l = (l.i ≤ l.n) × (length l.right.arr ≡ 16) × Holds l.list (l.initial.list.len + (l.i - 0)) (kids l.initial.list ++ drop 0 (take l.i (kids l.right)))

abbrev pub decreases-loop-i : goal.decreases-loop-i
decreases-loop-i l = l.n - l.i
