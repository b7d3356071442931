-- `put_number` meets its contract: four stores.
use native.Mathlib.Omega.{arith}
use lib.ListN.{length-set}
use Rattle.octets.specs.Big.{bytes_of2, bytes_of4}
use Rattle.note_head.proofs.Laid.{number-laid}
use Rattle.note_head.proofs.put_number.Goals as goal

pub bounds-m-at-2 : goal.bounds-m-at-2
bounds-m-at-2 c = simp length-set (omega arith)

pub bounds-m-at-3 : goal.bounds-m-at-3
bounds-m-at-3 c = simp length-set (omega arith)

pub bounds-m-at-4 : goal.bounds-m-at-4
bounds-m-at-4 c = simp length-set (omega arith)

pub returns : goal.returns
unfolding bytes_of4 bytes_of2
returns c = number-laid c.args.m.now c.args.at _ _ _ _ c.requires
