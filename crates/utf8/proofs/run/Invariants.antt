-- `utf8::run` meets its contract. The loop's invariant: what is due of the bytes still to come is what was due at a.
use mathlib.Core.Path.{◌≡◌}
use Prim.Native.Nat.{◌≤◌}
use lib.ListN.{drop}
use Rattle.plain.specs.Utf8.{due}
use Rattle.utf8.proofs.run.Given as goal

abbrev pub invariant-loop-i : goal.invariant-loop-i
invariant-loop-i l = (l.a ≤ l.i) × (l.i ≤ l.e) × (due l.now.more l.now.low l.now.high (drop l.i l.text) ≡ due l.initial.now.more l.initial.now.low l.initial.now.high (drop l.a l.text))
