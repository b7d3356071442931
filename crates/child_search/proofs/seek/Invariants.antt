-- `seek` meets its contract.
use mathlib.Core.Path.{◌≡◌}
use Prim.Native.Nat.{◌≤◌, ◌-◌}
use lib.ListN.{length, drop}
use Rattle.node_children.specs.Kids.{kids}
use Rattle.child_search.specs.Sought.{stops_at, search_from, Within}
use Rattle.child_search.proofs.Sums.{last}
use Rattle.child_search.proofs.seek.Given as goal

abbrev pub invariant-loop-i : goal.invariant-loop-i
invariant-loop-i l = (l.i ≤ l.last) × (length l.list.arr ≡ 16) × Within l.left l.i
    × (search_from (stops_at l.m l.at) l.i l.left (drop l.i (kids l.list)) ≡ search_from (stops_at l.m l.at) l.initial.i l.initial.left (drop l.initial.i (kids l.list)))

abbrev pub decreases-loop-i : goal.decreases-loop-i
decreases-loop-i l = l.last - l.i
