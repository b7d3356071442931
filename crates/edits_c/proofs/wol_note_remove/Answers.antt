-- `edits_c::wol_note_remove` meets its contract: what `remove` ensures, told.
use Rattle.edits_c.proofs.Tells.{told, edit-told}
use Rattle.edits_c.proofs.wol_note_remove.Goals as goal

pub returns : goal.returns
returns c =
    let w = c.remove.ensures in
    (edit-told _ _ _ _ _ _ _ w, told _ _ _ w.called.answered _ _ _ c.tell_change.ensures.0 c.tell_change.ensures.1)
