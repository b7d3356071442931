-- `window::part` meets its contract. The loop's invariant: what it promises, of the windows passed.
use Prim.Native.Nat.{◌≤◌}
use Rattle.utf8.specs.Window.{Parted}
use Rattle.utf8.proofs.window.part.Given as goal

abbrev pub invariant-loop-i : goal.invariant-loop-i
invariant-loop-i l = (l.a ≤ l.i) × (l.i ≤ l.e) × Parted l.far l.text l.a l.i l.w
