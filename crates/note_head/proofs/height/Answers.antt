-- `height` meets its contract.
use Rattle.note_head.specs.Head.{height_of}
use Rattle.note_head.proofs.height.Goals as goal

pub returns : goal.returns
unfolding height_of
returns c = c.byte_at.ensures
