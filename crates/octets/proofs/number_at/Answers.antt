-- `number_at` meets its contract.
use mathlib.Core.Path.{sym}
use Prim.Native.Nat.{◌+◌}
use native.Mathlib.Omega.{arith}
use Rattle.octets.specs.Big.{four_at}
use Rattle.octets.proofs.Past.{two_past, four-past}
use Rattle.octets.proofs.number_at.Goals as goal

pub returns-then-m-at : goal.returns-then-m-at
returns-then-m-at c = (sym (four-past c.args.m.now c.args.at (omega arith)), omega arith)

pub returns-then-m-at-le2 : goal.returns-then-m-at-le2
unfolding four_at
returns-then-m-at-le2 c = let a = c.args in (omega (arith, c.two_at-upper.ensures, two_past a.m.now (a.at + 2) (omega arith)), omega (arith, c.two_at-upper.ensures))

pub returns : goal.returns
unfolding four_at
returns c = (omega (arith, c.two_at-upper.ensures, c.two_at.ensures), omega (arith, c.two_at-upper.ensures, c.two_at.ensures))
