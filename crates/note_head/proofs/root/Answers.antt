-- `root` meets its contract.
use Rattle.pool.specs.Slot.{kid_at}
use Rattle.note_head.specs.Head.{root_of}
use Rattle.note_head.proofs.root.Goals as goal

pub returns : goal.returns
unfolding root_of kid_at
returns c = rw (c.number_at-slot.ensures.0, c.number_at.ensures.0, c.number_at-2.ensures.0, c.number_at-3.ensures.0, c.number_at-4.ensures.0)
