-- `utf8::ascii` meets its contract. The loop's invariant: what is still to be asked is asked of the bytes still to come.
use mathlib.Core.Path.{◌≡◌}
use Prim.Native.Nat.{◌-◌, ◌≤◌}
use lib.Dec.{ltb}
use lib.ListN.{length, drop}
use Rattle.utf8.specs.Bmp.{highest}
use Rattle.utf8.proofs.ascii.Given as goal

abbrev pub invariant-loop-i : goal.invariant-loop-i
invariant-loop-i l = (l.i ≤ length l.text) × (ltb (highest (drop l.i l.text)) 0x80 ≡ ltb (highest l.text) 0x80)

abbrev pub decreases-loop-i : goal.decreases-loop-i
decreases-loop-i l = length l.text - l.i
