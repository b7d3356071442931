-- `note_c::numbers::wol_note_char_to_line` meets its contract: what `char_to_line` ensures, told.
use Rattle.told.proofs.Laws.{told}
use Rattle.note_c.proofs.numbers.wol_note_char_to_line.Goals as goal

pub returns : goal.returns
returns c = told _ _ _ _ _ c.char_to_line.ensures c.tell.ensures
