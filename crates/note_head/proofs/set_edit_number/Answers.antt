-- `set_edit_number` meets its contract.
use Rattle.note_head.proofs.set_edit_number.Goals as goal

pub returns : goal.returns
returns c = c.set_number.ensures
