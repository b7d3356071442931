-- `utf8::part_below` meets its contract. The loop's invariant: what it promises, of the bytes passed.
use mathlib.Core.Path.{◌≡◌}
use mathlib.Core.Bool.{◌&&◌}
use Prim.Native.Nat.{◌≤◌}
use lib.Dec.{ltb}
use lib.ListN.{drop}
use Rattle.utf8.specs.Bmp.{highest}
use Rattle.utf8.proofs.part_below.Given as goal

abbrev pub invariant-loop-i : goal.invariant-loop-i
invariant-loop-i l = (l.a ≤ l.i) × (l.i ≤ l.e) × ((l.all && ltb (highest (drop l.i l.text)) l.k) ≡ ltb (highest (drop l.a l.text)) l.k)
