-- `edit_number` meets its contract.
use Rattle.note_head.specs.Head.{edit_of}
use Rattle.note_head.proofs.edit_number.Goals as goal

pub returns : goal.returns
unfolding edit_of
returns c = c.number_at.ensures.0
