-- `ended_by` meets its contract. The loop's invariant: the breaks counted, with those still to come, are all breaks.
use mathlib.Core.Path.{◌≡◌}
use Prim.Native.Nat.{◌+◌, ◌-◌, ◌≤◌}
use lib.ListN.{drop}
use Rattle.plain.specs.Count.{breaks}
use Rattle.lines_crlf.proofs.ended_by.Given as goal

abbrev pub invariant-loop-i : goal.invariant-loop-i
invariant-loop-i l = (l.i ≤ l.byte_idx) × (l.n ≤ l.i) × (l.n + breaks (drop l.i l.text) ≡ breaks l.text)

abbrev pub decreases-loop-i : goal.decreases-loop-i
decreases-loop-i l = l.byte_idx - l.i
