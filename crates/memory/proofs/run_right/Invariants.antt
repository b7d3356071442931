-- `run_right` meets its contract: all are free, or the marks passed are right.
use mathlib.Core.Path.{◌≡◌}
use mathlib.Core.Bool.{true}
use Prim.Native.Nat.{ℕ, ◌≤◌, ◌<◌}
use Rattle.memory.specs.Checks.{mark_right}
use Rattle.memory.proofs.run_right.Given as goal

abbrev pub invariant-loop-j : goal.invariant-loop-j
invariant-loop-j l = (i : ℕ) → l.k ≤ i → i < l.j → mark_right l.m l.chars i ≡ true
