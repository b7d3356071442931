-- `edits_c::wol_note_set_mark` meets its contract: what `set_mark` ensures, told.
use Rattle.edits_c.proofs.Tells.{told, mark-told}
use Rattle.edits_c.proofs.wol_note_set_mark.Goals as goal

pub returns : goal.returns
returns c =
    let w = c.set_mark.ensures in
    (mark-told _ _ _ _ _ w, told _ _ _ w.called.answered _ _ _ c.tell.ensures.coded c.tell.ensures.written)
