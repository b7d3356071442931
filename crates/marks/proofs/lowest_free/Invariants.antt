-- `lowest_free` meets its contract: the marks that were passed are live.
use Rattle.std.proofs.Common.{◌≡◌, ◌+◌, ◌-◌, ◌≤◌}
use Rattle.plain_calls.specs.Marks.{lowest}
use Rattle.note_head.specs.Head.{marks_from}
use Rattle.marks.proofs.lowest_free.Given as goal

abbrev pub invariant-loop-k : goal.invariant-loop-k
invariant-loop-k l = (l.k ≤ 256) × (l.k + lowest (marks_from l.m l.k (256 - l.k)) ≡ lowest (marks_from l.m 0 256))

abbrev pub decreases-loop-k : goal.decreases-loop-k
decreases-loop-k l = 256 - l.k
