use mathlib.Core.Path.{◌≡◌}
use mathlib.Core.Bool.{true, false}
use Prim.Native.Nat.{◌+◌, ◌-◌, ◌*◌, ◌≤◌}
use lib.ListN.{length}
use Rattle.memory.specs.Formed.{well_formed}
use Rattle.journal.proofs.Listed.{Taking}
use Rattle.journal.proofs.fields.whole_fields.Given as goal

abbrev pub invariant-loop-out : goal.invariant-loop-out
invariant-loop-out l = (l.at ≤ length l.buf) × (l.put + 20640 ≤ length l.out) × (l.j ≤ l.k + l.at) × (l.put ≤ 50 * l.at) × (length l.out ≡ length l.initial.out) × (well_formed l.m ≡ true) × (length l.m ≡ length l.initial.m) × Taking l.initial.m l.m l.buf l.out l.k l.at l.put l.j false

abbrev pub decreases-loop-out : goal.decreases-loop-out
decreases-loop-out l = length l.buf - l.at
