-- `copy_bytes` meets its contract. The loop's invariant: the bytes [a, i) lie at the front of the output.
use mathlib.Core.Path.{◌≡◌}
use Prim.Native.Nat.{◌-◌, ◌≤◌}
use lib.ListN.{length, take, drop}
use Rattle.plain.specs.Chars.{encode}
use Rattle.leaf_bytes.specs.Leaf.{laid}
use Rattle.memory.specs.Formed.{note_of}
use Rattle.copy_out.proofs.copy_bytes.Given as goal

abbrev pub invariant-loop-i : goal.invariant-loop-i
invariant-loop-i l = (l.a ≤ l.i) × (l.i ≤ l.b) × (l.out ≡ laid l.initial.out (take (l.i - l.a) (drop l.a (encode (note_of l.m).text)))) × (length l.out ≡ length l.initial.out)

abbrev pub decreases-loop-i : goal.decreases-loop-i
decreases-loop-i l = l.b - l.i
