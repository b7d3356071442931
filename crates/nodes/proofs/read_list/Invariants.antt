-- `read_list` meets its contract: each turn reads one entry and sets it behind the others.
use mathlib.Core.Path.{◌≡◌}
use Prim.Native.Nat.{◌-◌, ◌≤◌}
use lib.ListN.{take}
use Rattle.pool.specs.Slot.{region_of, entries}
use Rattle.node_children.specs.Kids.{list_of}
use Rattle.nodes.proofs.read_list.Given as goal

abbrev pub invariant-loop-i : goal.invariant-loop-i
invariant-loop-i l = (l.i ≤ l.n) × (l.list ≡ list_of (take l.i (entries (region_of l.m l.slot))))

abbrev pub decreases-loop-i : goal.decreases-loop-i
decreases-loop-i l = l.n - l.i
