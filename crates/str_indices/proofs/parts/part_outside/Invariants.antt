-- `parts::part_outside` meets its contract. The loop's invariant: what has been counted, with what is still to come, is the count from a on.
use mathlib.Core.Path.{◌≡◌}
use Prim.Native.Nat.{◌+◌, ◌-◌, ◌≤◌}
use lib.ListN.{drop}
use Rattle.plain.specs.Count.{count_if}
use Rattle.str_indices.specs.Out.{is_out}
use Rattle.str_indices.proofs.parts.part_outside.Given as goal

abbrev pub invariant-loop-i : goal.invariant-loop-i
invariant-loop-i l = (l.a ≤ l.i) × (l.i ≤ l.e) × (l.n ≤ l.i - l.a) × (l.n + count_if (is_out l.lo l.hi) (drop l.i l.text) ≡ count_if (is_out l.lo l.hi) (drop l.a l.text))
