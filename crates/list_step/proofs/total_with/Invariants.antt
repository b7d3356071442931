-- `total_with` meets its contract: each turn adds the counts of one child, and at the end those of one are exchanged.
use Rattle.list_step.proofs.One.{Added}
use Rattle.list_step.proofs.total_with.Given as goal

abbrev pub invariant-loop-i : goal.invariant-loop-i
invariant-loop-i l = Added l.m l.slot l.i l.all
