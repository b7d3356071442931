-- `move_marks` meets its contract: the marks of the first i runs have moved.
use Rattle.std.proofs.Common.{◌≡◌, ◌*◌, length}
use Rattle.plain_calls.specs.Marks.{moved_to}
use Rattle.marks.specs.MarkBytes.{marks_moved}
use Rattle.marks.proofs.move_marks.Given as goal

abbrev pub invariant-loop-i : goal.invariant-loop-i
invariant-loop-i l = (length l.m ≡ length l.initial.m) × (l.m ≡ marks_moved (moved_to l.s l.e l.new) l.initial.m (8 * l.i))
