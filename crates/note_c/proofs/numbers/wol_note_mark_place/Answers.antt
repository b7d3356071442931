-- `note_c::numbers::wol_note_mark_place` meets its contract: what `mark_place` ensures, told.
use Rattle.told.proofs.Laws.{told}
use Rattle.note_c.proofs.numbers.wol_note_mark_place.Goals as goal

pub returns : goal.returns
returns c = told _ _ _ _ _ c.mark_place.ensures c.tell.ensures
