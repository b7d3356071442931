-- `some` meets its contract.
use mathlib.Core.Path.{◌≡◌}
use Prim.Native.Nat.{◌≤◌, ◌-◌}
use lib.ListN.{length, drop}
use Rattle.node_children.specs.Kids.{kids}
use Rattle.child_info.specs.Kin.{some_of}
use Rattle.child_info.proofs.checks.some.Given as goal

abbrev pub invariant-loop-i : goal.invariant-loop-i
invariant-loop-i l = (l.i ≤ l.list.len) × (length l.list.arr ≡ 16) × (some_of l.q l.m (drop l.i (kids l.list)) ≡ some_of l.q l.m (kids l.list))

abbrev pub decreases-loop-i : goal.decreases-loop-i
decreases-loop-i l = l.list.len - l.i
