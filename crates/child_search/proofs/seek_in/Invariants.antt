-- `seek_in` meets its contract: each turn adds one child up, and the search stops at it or goes on.
use Prim.Native.Nat.{◌≤◌, ◌-◌}
use lib.ListN.{take}
use Rattle.pool.specs.Slot.{region_of, entries}
use Rattle.child_search.proofs.Walk.{Walked}
use Rattle.child_search.proofs.seek_in.Given as goal

abbrev pub invariant-loop-idx : goal.invariant-loop-idx
invariant-loop-idx l = (l.idx ≤ l.last) × Walked l.by l.at (take l.n (entries (region_of l.m l.slot))) l.idx l.left

abbrev pub decreases-loop-idx : goal.decreases-loop-idx
decreases-loop-idx l = l.last - l.idx
