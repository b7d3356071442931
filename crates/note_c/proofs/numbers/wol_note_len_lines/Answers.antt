-- `note_c::numbers::wol_note_len_lines` meets its contract: what `len_lines` ensures, told.
use Rattle.told.proofs.Laws.{told}
use Rattle.note_c.proofs.numbers.wol_note_len_lines.Goals as goal

pub returns : goal.returns
returns c = told _ _ _ _ _ c.len_lines.ensures c.tell.ensures
