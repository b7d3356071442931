-- `replay::run` meets its contract. The loop's invariant: the counts of cases add up to the records so far, and those of differing cases to
-- `missed`.
use Prim.Native.Nat.{◌≤◌}
use Rattle.replay.specs.Turns.{Sums}
use Rattle.replay.proofs.run.Given as goal

abbrev pub invariant-loop-k : goal.invariant-loop-k
invariant-loop-k g l = Sums l.counts.cases l.k × Sums l.counts.differ l.missed × (l.missed ≤ l.k)
