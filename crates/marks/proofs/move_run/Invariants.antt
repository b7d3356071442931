-- `move_run` meets its contract: free marks stay, and else the first j of the run have moved.
use Rattle.std.proofs.Common.{◌≡◌, length}
use Rattle.plain_calls.specs.Marks.{moved_to}
use Rattle.marks.specs.MarkBytes.{run_moved}
use Rattle.marks.proofs.move_run.Given as goal

abbrev pub invariant-loop-j : goal.invariant-loop-j
invariant-loop-j l = (length l.m ≡ length l.initial.m) × (l.m ≡ run_moved (moved_to l.s l.e l.new) l.initial.m l.k l.j)
