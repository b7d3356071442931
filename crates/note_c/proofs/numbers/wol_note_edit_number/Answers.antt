-- `note_c::numbers::wol_note_edit_number` meets its contract: what `edit_number` ensures, told.
use Rattle.told.proofs.Laws.{told}
use Rattle.note_c.proofs.numbers.wol_note_edit_number.Goals as goal

pub returns : goal.returns
returns c = told _ _ _ _ _ c.edit_number.ensures c.tell.ensures
