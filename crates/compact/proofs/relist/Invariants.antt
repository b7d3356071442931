-- `relist` meets its contract: each turn counts the next entry anew, and none is refused.
use Prim.Native.Nat.{◌-◌}
use Rattle.compact.proofs.Relisted.{Rows}
use Rattle.compact.proofs.relist.Given as goal

abbrev pub invariant-loop-i : goal.invariant-loop-i
invariant-loop-i l = Rows l.initial.m l.slot l.list l.m l.i

abbrev pub decreases-loop-i : goal.decreases-loop-i
decreases-loop-i l = l.list.len - l.i
