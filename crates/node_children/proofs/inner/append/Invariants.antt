-- `append` meets its contract. Each turn puts the next child behind the others.
use mathlib.Core.Path.{◌≡◌}
use mathlib.Core.List.{◌++◌}
use Prim.Native.Nat.{◌≤◌, ◌+◌, ◌-◌}
use lib.ListN.{length, take, drop}
use Rattle.node_children.specs.Kids.{kids, Holds}
use Rattle.node_children.proofs.inner.append.Given as goal

abbrev pub invariant-loop-i : goal.invariant-loop-i
invariant-loop-i l = (l.start ≤ l.i) × (l.i ≤ l.end) × (length l.from.arr ≡ 16) × Holds l.list (l.initial.list.len + (l.i - l.start)) (kids l.initial.list ++ drop l.start (take l.i (kids l.from)))

abbrev pub decreases-loop-i : goal.decreases-loop-i
decreases-loop-i l = l.end - l.i
