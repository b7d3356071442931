-- `set_first_free` meets its contract.
use Rattle.note_head.proofs.set_first_free.Goals as goal

pub returns : goal.returns
returns c = c.set_number.ensures
