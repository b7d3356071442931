-- `slots` meets its contract.
use Rattle.note_head.specs.Head.{n_of}
use Rattle.note_head.proofs.slots.Goals as goal

pub returns : goal.returns
unfolding n_of
returns c = c.number_at.ensures
