-- `note_c::numbers::wol_note_line_to_byte` meets its contract: what `line_to_byte` ensures, told.
use Rattle.told.proofs.Laws.{told}
use Rattle.note_c.proofs.numbers.wol_note_line_to_byte.Goals as goal

pub returns : goal.returns
returns c = told _ _ _ _ _ c.line_to_byte.ensures c.tell.ensures
