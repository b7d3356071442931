-- `replay_lists::run` is safe and ends. No more records differ than there were.
use Prim.Native.Nat.{◌≤◌}
use Rattle.replay_lists.proofs.run.Given as goal

abbrev pub invariant-loop-k : goal.invariant-loop-k
invariant-loop-k g l = l.missed ≤ l.k
