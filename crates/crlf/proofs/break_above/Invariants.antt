-- `crlf::break_above` meets its contract. The loop's invariant: the first break at or above the candidate is the one looked for.
use mathlib.Core.Path.{◌≡◌}
use Prim.Native.Nat.{◌+◌, ◌-◌, ◌≤◌, ◌<◌}
use lib.ListN.{length}
use Rattle.plain.specs.Search.{first_by}
use Rattle.crlf.specs.Break.{is_break}
use Rattle.crlf.proofs.break_above.Given as goal

abbrev pub invariant-loop-boundary_idx : goal.invariant-loop-boundary_idx
invariant-loop-boundary_idx l = (l.byte_idx < l.boundary_idx) × (l.boundary_idx ≤ length l.text) × (first_by (is_break l.text) l.boundary_idx (length l.text - l.boundary_idx) ≡ first_by (is_break l.text) (l.byte_idx + 1) (length l.text - (l.byte_idx + 1)))

abbrev pub decreases-loop-boundary_idx : goal.decreases-loop-boundary_idx
decreases-loop-boundary_idx l = length l.text - l.boundary_idx
