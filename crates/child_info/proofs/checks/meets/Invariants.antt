-- `meets` meets its contract.
use mathlib.Core.Path.{◌≡◌}
use Prim.Native.Nat.{◌≤◌, ◌-◌}
use lib.ListN.{length, drop}
use Rattle.node_children.specs.Kids.{kids}
use Rattle.child_info.specs.Kin.{slots_of, among}
use Rattle.child_info.proofs.checks.meets.Given as goal

abbrev pub invariant-loop-i : goal.invariant-loop-i
invariant-loop-i l = (l.i ≤ l.list.len) × (length l.list.arr ≡ 16) × (among l.slot (slots_of (drop l.i (kids l.list))) ≡ among l.slot (slots_of (drop l.from (kids l.list))))

abbrev pub decreases-loop-i : goal.decreases-loop-i
decreases-loop-i l = l.list.len - l.i
