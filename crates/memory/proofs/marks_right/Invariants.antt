-- `marks_right` meets its contract: the marks of the runs passed are right.
use mathlib.Core.Path.{◌≡◌}
use mathlib.Core.Bool.{true}
use Prim.Native.Nat.{◌*◌}
use Rattle.memory.specs.Formed.{all_below}
use Rattle.memory.specs.Checks.{mark_right}
use Rattle.memory.proofs.marks_right.Given as goal

abbrev pub invariant-loop-i : goal.invariant-loop-i
invariant-loop-i l = all_below (8 * l.i) (mark_right l.m l.chars) ≡ true
