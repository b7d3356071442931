-- `big::write_u16` meets its contract: two stores.
use native.Mathlib.Omega.{arith}
use lib.ListN.{length-set}
use Rattle.octets.specs.Big.{bytes_of2}
use Rattle.octets.proofs.Over.{sets_over}
use Rattle.pool.proofs.big.write_u16.Goals as goal

pub bounds-m-at-2 : goal.bounds-m-at-2
bounds-m-at-2 c = simp length-set (omega arith)

pub returns : goal.returns
unfolding bytes_of2
returns c = sets_over c.args.m.now c.args.at _ _ c.requires
