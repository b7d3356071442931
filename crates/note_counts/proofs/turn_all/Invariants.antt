-- `turn_all` meets its contract.
use Prim.Native.Nat.{◌≤◌}
use lib.ListN.{length}
use Rattle.memory.specs.Formed.{note_in}
use Rattle.note_counts.specs.Counts.{turned_in}
use Rattle.note_counts.proofs.Several.{Turning}
use Rattle.note_counts.proofs.turn_all.Given as goal

abbrev pub invariant-loop-k : goal.invariant-loop-k
invariant-loop-k l = (l.k ≤ length l.indices) × Turning (turned_in l.from l.to (note_in l.m).text) l.initial.indices l.k l.indices
