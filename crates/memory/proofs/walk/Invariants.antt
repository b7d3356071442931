-- `walk` meets its contract: by what `Walking` keeps.
use Rattle.memory.proofs.Walking.{Walking}
use Rattle.memory.proofs.walk.Given as goal

abbrev pub invariant-loop-left : goal.invariant-loop-left
invariant-loop-left l = Walking l.m l.n l.first l.initial.seen l.seen l.left l.at

abbrev pub decreases-loop-left : goal.decreases-loop-left
decreases-loop-left l = l.left
