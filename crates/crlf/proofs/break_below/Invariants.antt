-- `crlf::break_below` meets its contract. The loop's invariant: the last break at or below the candidate is the one looked for.
use mathlib.Core.Path.{◌≡◌}
use Prim.Native.Nat.{◌-◌, ◌<◌}
use Rattle.plain.specs.Search.{last_by}
use Rattle.crlf.specs.Break.{is_break}
use Rattle.crlf.proofs.break_below.Given as goal

abbrev pub invariant-loop-boundary_idx : goal.invariant-loop-boundary_idx
invariant-loop-boundary_idx l = (l.boundary_idx < l.byte_idx) × (last_by (is_break l.text) l.boundary_idx ≡ last_by (is_break l.text) (l.byte_idx - 1))

abbrev pub decreases-loop-boundary_idx : goal.decreases-loop-boundary_idx
decreases-loop-boundary_idx l = l.boundary_idx
