-- `take_row` meets its contract. The loop's invariant: the slots passed lie in a row.
use mathlib.Core.Path.{◌≡◌}
use lib.ListN.{length}
use Rattle.memory.specs.Checks.{Row}
use Rattle.memory.proofs.take_row.Given as goal

abbrev pub invariant-loop-k : goal.invariant-loop-k
invariant-loop-k l = (length l.seen ≡ length l.initial.seen) × Row l.m l.initial.seen l.seen l.first l.k
