-- `put` meets its contract: a copy, byte by byte.
use mathlib.Core.Path.{◌≡◌}
use Prim.Native.Nat.{◌≤◌}
use lib.ListN.{length}
use lib.Seq.{paste}
use Rattle.copy_out.proofs.put.Given as goal

abbrev pub invariant-loop-i : goal.invariant-loop-i
invariant-loop-i l = (l.i ≤ length l.piece) × (l.out ≡ paste l.initial.out l.at l.piece l.i) × (length l.out ≡ length l.initial.out)
