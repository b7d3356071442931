-- `chars::floor` meets its contract. The loop's invariant: the last boundary at or below the candidate is the one looked for.
use mathlib.Core.Path.{◌≡◌}
use Prim.Native.Nat.{◌≤◌}
use Rattle.plain.specs.Search.{last_by}
use Rattle.plain.specs.Place.{is_boundary}
use Rattle.str_indices.proofs.chars.floor.Given as goal

abbrev pub invariant-loop-i : goal.invariant-loop-i
invariant-loop-i l = (l.i ≤ l.byte_idx) × (last_by (is_boundary l.text) l.i ≡ last_by (is_boundary l.text) l.byte_idx)

abbrev pub decreases-loop-i : goal.decreases-loop-i
decreases-loop-i l = l.i
