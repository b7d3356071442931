-- The level falls; and in `check_list` the children so far are fine.
use mathlib.Core.Path.{◌≡◌}
use Prim.Native.Nat.{◌+◌, ◌≤◌}
use lib.ListN.{length}
use Rattle.child_search.specs.Sought.{Within}
use Rattle.tree_check.specs.Met.{KidsFine, kids_to}
use Rattle.tree_check.proofs.+check_list_check_node.Given as goal

abbrev pub decreases-check_list : goal.decreases-check_list
decreases-check_list l = l.level + l.level + 1

abbrev pub decreases-check_node : goal.decreases-check_node
decreases-check_node l = l.level + l.level

abbrev pub invariant-check_list-loop-i : goal.invariant-check_list-loop-i
invariant-check_list-loop-i l =
    (l.i ≤ l.n) × (length l.seen ≡ length l.initial.seen) × Within l.sum l.i
    × KidsFine l.m l.initial.seen l.seen l.level (kids_to l.m l.slot l.i) l.sum l.lf l.cr
