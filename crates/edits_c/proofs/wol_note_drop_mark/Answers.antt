-- `edits_c::wol_note_drop_mark` meets its contract: what `drop_mark` ensures, told.
use Rattle.edits_c.proofs.Tells.{code_is, mark-told}
use Rattle.edits_c.proofs.wol_note_drop_mark.Goals as goal

pub returns : goal.returns
returns c =
    let w = c.drop_mark.ensures in
    (mark-told _ _ _ _ _ w, code_is _ _ _ w.called.answered _ c.code_of.ensures)
