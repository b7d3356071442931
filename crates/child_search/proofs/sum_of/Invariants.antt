-- `sum_of` meets its contract.
use mathlib.Core.Path.{◌≡◌}
use Prim.Native.Nat.{◌≤◌, ◌-◌}
use lib.ListN.{length, drop}
use Rattle.text_info.specs.Info.{zeros}
use Rattle.node_children.specs.Kids.{kids}
use Rattle.child_search.specs.Sought.{sum_from, Within}
use Rattle.child_search.proofs.sum_of.Given as goal

abbrev pub invariant-loop-i : goal.invariant-loop-i
invariant-loop-i l = (l.i ≤ l.n) × (length l.list.arr ≡ 16) × Within l.acc l.i × (sum_from l.acc (drop l.i (kids l.list)) ≡ sum_from zeros (kids l.list))

abbrev pub decreases-loop-i : goal.decreases-loop-i
decreases-loop-i l = l.n - l.i
