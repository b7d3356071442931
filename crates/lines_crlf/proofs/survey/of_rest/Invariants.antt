-- `survey::of_rest` meets its contract. The loop's invariant: the highest of the bytes passed; and from the first byte that counts on, what
-- has been counted, with what is still to come, is the count from there on.
use mathlib.Core.Path.{◌≡◌}
use Prim.Native.Nat.{◌+◌, ◌-◌, ◌≤◌}
use lib.ListN.{drop}
use Rattle.plain.specs.Count.{breaks}
use Rattle.lines_crlf.specs.Surveyed.{Tops}
use Rattle.lines_crlf.proofs.survey.of_rest.Given as goal

abbrev pub invariant-loop-i : goal.invariant-loop-i
invariant-loop-i l = (l.i ≡ l.base + l.k) × (l.k ≤ 32) × (l.n ≤ l.k - l.s) × (l.s ≤ l.k → l.n + breaks (drop l.i l.text) ≡ breaks (drop (l.base + l.s) l.text)) × Tops l.text l.base l.i l.high
