-- `big::read_u16` meets its contract.
use native.Mathlib.Omega.{arith}
use Rattle.octets.specs.Big.{two_at}
use Rattle.pool.proofs.big.read_u16.Goals as goal

pub returns : goal.returns
unfolding two_at
returns c = let a = c.args in (omega (arith, c.wide-2.ensures, c.wide.ensures), omega (arith, c.wide-2.ensures, c.wide.ensures))
