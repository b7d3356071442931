-- `write_entries` meets its contract: each turn writes the next entry.
use mathlib.Core.Path.{◌≡◌}
use Prim.Native.Nat.{ℕ, ◌-◌, ◌≤◌, ◌<◌}
use lib.ListN.{length, drop, get_or}
use Rattle.pool.specs.Slot.{no_kid, Fits}
use Rattle.nodes.specs.Node.{kids_put}
use Rattle.nodes.proofs.write_entries.Given as goal

abbrev pub invariant-loop-i : goal.invariant-loop-i
invariant-loop-i l = (l.i ≤ 16) × (length l.list.arr ≡ 16) × (length l.m ≡ length l.initial.m) × (kids_put l.m l.slot l.i (drop l.i l.list.arr) ≡ kids_put l.initial.m l.slot 0 l.list.arr) × ((j : ℕ) → j < l.i → Fits (get_or l.list.arr j no_kid))

abbrev pub decreases-loop-i : goal.decreases-loop-i
decreases-loop-i l = 16 - l.i
