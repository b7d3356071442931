-- `note_c::wol_note_copy` meets its contract: what `copy_out` ensures, told.
use Rattle.note_c.proofs.Laws.{copied-told}
use Rattle.note_c.proofs.wol_note_copy.Goals as goal

pub returns : goal.returns
returns c = copied-told _ _ _ _ _ _ _ c.copy_out.ensures c.tell.ensures
