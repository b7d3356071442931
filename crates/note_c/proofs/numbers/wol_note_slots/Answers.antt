-- `note_c::numbers::wol_note_slots` meets its contract: what `slots` ensures, told.
use Rattle.told.proofs.Laws.{told}
use Rattle.note_c.proofs.numbers.wol_note_slots.Goals as goal

pub returns : goal.returns
returns c = told _ _ _ _ _ c.slots.ensures c.tell.ensures
