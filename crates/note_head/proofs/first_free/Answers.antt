-- `first_free` meets its contract.
use Rattle.note_head.specs.Head.{free_of}
use Rattle.note_head.proofs.first_free.Goals as goal

pub returns : goal.returns
unfolding free_of
returns c = c.number_at.ensures
