-- `live_byte` meets its contract.
use native.Mathlib.Omega.{arith}
use Rattle.note_head.specs.Head.{live_at}
use Rattle.marks.proofs.live_byte.Goals as goal

pub returns : goal.returns
unfolding live_at
returns c = (c.from.ensures, omega arith)
