-- `to_byte_idx` meets its contract. The loop's invariant: the bytes passed, and the start of what is left of the lines
-- among those still to come, make the start looked for.
use mathlib.Core.Path.{◌≡◌}
use Prim.Native.Nat.{◌+◌, ◌-◌, ◌≤◌}
use lib.ListN.{length, drop}
use Rattle.plain.specs.Count.{line_start}
use Rattle.lines_crlf.proofs.to_byte_idx.Given as goal

abbrev pub invariant-loop-left : goal.invariant-loop-left
invariant-loop-left l = (l.i ≤ length l.text) × (l.i + line_start (drop l.i l.text) l.left ≡ line_start l.text l.line_idx)

abbrev pub decreases-loop-left : goal.decreases-loop-left
decreases-loop-left l = length l.text - l.i
