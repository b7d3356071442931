-- `two_at` meets its contract.
use mathlib.Core.Path.{sym}
use native.Mathlib.Omega.{arith}
use Rattle.octets.specs.Big.{two_at}
use Rattle.octets.proofs.Past.{two_past}
use Rattle.octets.proofs.two_at.Goals as goal

pub returns-then-m-at : goal.returns-then-m-at
returns-then-m-at c = (sym (two_past c.args.m.now c.args.at (omega arith)), omega arith)

pub returns : goal.returns
unfolding two_at
returns c = (omega (arith, c.from-2.ensures, c.byte_at-2.ensures, c.from.ensures, c.byte_at.ensures), omega arith)
