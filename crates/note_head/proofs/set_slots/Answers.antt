-- `set_slots` meets its contract.
use Rattle.note_head.proofs.set_slots.Goals as goal

pub returns : goal.returns
returns c = c.set_number.ensures
