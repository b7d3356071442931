-- `survey::of_part` meets its contract. The loop's invariant: the highest of the bytes passed, and what has been counted, with what is still to come, is
-- the count from a on.
use mathlib.Core.Path.{◌≡◌}
use Prim.Native.Nat.{◌+◌, ◌-◌, ◌≤◌}
use lib.ListN.{drop}
use Rattle.plain.specs.Count.{breaks}
use Rattle.lines_crlf.specs.Surveyed.{Tops}
use Rattle.lines_crlf.proofs.survey.of_part.Given as goal

abbrev pub invariant-loop-i : goal.invariant-loop-i
invariant-loop-i l = (l.a ≤ l.i) × (l.i ≤ l.e) × (l.n ≤ l.i - l.a) × (l.n + breaks (drop l.i l.text) ≡ breaks (drop l.a l.text)) × Tops l.text l.a l.i l.high
