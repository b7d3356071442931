-- `big::read_u32` meets its contract.
use native.Mathlib.Omega.{arith}
use Rattle.octets.specs.Big.{four_at}
use Rattle.pool.proofs.big.read_u32.Goals as goal

pub returns : goal.returns
unfolding four_at
returns c = omega (arith, c.read_u16-2.ensures, c.read_u16.ensures)
