-- `survey::of_parts` meets its contract. The loop's invariant: the highest of the bytes passed, and the breaks counted, with those still to
-- come, are all breaks.
use mathlib.Core.Path.{◌≡◌}
use Prim.Native.Nat.{◌+◌, ◌-◌, ◌≤◌}
use lib.ListN.{drop}
use Rattle.plain.specs.Count.{breaks}
use Rattle.lines_crlf.specs.Surveyed.{Tops}
use Rattle.lines_crlf.proofs.survey.of_parts.Given as goal

abbrev pub invariant-loop-i : goal.invariant-loop-i
invariant-loop-i l = (l.i ≤ l.end) × (l.n ≤ l.i) × (l.n + breaks (drop l.i l.text) ≡ breaks l.text) × Tops l.text 0 l.i l.high

abbrev pub decreases-loop-i : goal.decreases-loop-i
decreases-loop-i l = l.end - l.i
