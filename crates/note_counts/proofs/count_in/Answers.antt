-- `count_in` meets its contract.
use native.Mathlib.Omega.{arith}
use Rattle.note_counts.proofs.count_in.Goals as goal

pub returns-in-Units : goal.returns-in-Units
returns-in-Units c = let w = c.requires in (rw c.in-Units.is, omega (arith, w.c, w.u))
