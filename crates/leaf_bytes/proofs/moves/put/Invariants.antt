-- `moves::put` meets its contract: a copy, byte by byte.
use mathlib.Core.Path.{◌≡◌}
use Prim.Native.Nat.{◌≤◌}
use lib.ListN.{length}
use lib.Seq.{paste}
use Rattle.leaf_bytes.proofs.moves.put.Given as goal

abbrev pub invariant-loop-i : goal.invariant-loop-i
invariant-loop-i l = (l.i ≤ length l.piece) × (l.region ≡ paste l.initial.region l.at l.piece l.i) × (length l.region ≡ length l.initial.region)
