-- `all_met` meets its contract: whether the slots passed were met.
use mathlib.Core.Path.{◌≡◌}
use Rattle.memory.specs.Formed.{all_below}
use Rattle.memory.specs.Checks.{met}
use Rattle.memory.proofs.all_met.Given as goal

abbrev pub invariant-loop-x : goal.invariant-loop-x
invariant-loop-x l = l.all ≡ all_below l.x-index (met l.seen)
