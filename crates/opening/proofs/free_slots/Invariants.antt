-- `free_slots` meets its contract: each turn makes the next slot free.
use mathlib.Core.Path.{◌≡◌}
use Prim.Native.Nat.{◌-◌}
use lib.ListN.{length}
use Rattle.opening.specs.Opened.{frees_put}
use Rattle.opening.proofs.free_slots.Given as goal

abbrev pub invariant-loop-i : goal.invariant-loop-i
invariant-loop-i l = (length l.m ≡ length l.initial.m) × (frees_put l.m l.i (l.n - l.i) ≡ frees_put l.initial.m 1 (l.n - 1))
