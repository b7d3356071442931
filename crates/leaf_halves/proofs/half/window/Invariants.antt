-- `half::window` meets its contract: what has been read is the text from `start` on.
use mathlib.Core.Path.{◌≡◌}
use Prim.Native.Nat.{◌-◌, ◌≤◌}
use lib.ListN.{length, take, drop}
use Rattle.plain.specs.Edit.{put_in}
use Rattle.leaf_halves.proofs.half.window.Given as goal

abbrev pub invariant-loop-i : goal.invariant-loop-i
invariant-loop-i l = (l.start ≤ l.i) × (l.i ≤ l.end) × (length l.buf ≡ 8) × (take (l.i - l.start) l.buf ≡ take (l.i - l.start) (drop l.start (put_in l.a l.string l.leaf)))

abbrev pub decreases-loop-i : goal.decreases-loop-i
decreases-loop-i l = l.end - l.i
