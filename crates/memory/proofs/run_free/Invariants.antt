-- `run_free` meets its contract: where none was live yet, the marks passed are free.
use mathlib.Core.Path.{◌≡◌}
use mathlib.Core.Bool.{true}
use Prim.Native.Nat.{ℕ, ◌≤◌, ◌<◌}
use Rattle.note_head.specs.Head.{live_at}
use Rattle.memory.proofs.run_free.Given as goal

abbrev pub invariant-loop-j : goal.invariant-loop-j
invariant-loop-j l = l.free ≡ true → (i : ℕ) → l.k ≤ i → i < l.j → live_at l.m i ≡ 0
