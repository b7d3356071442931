-- `note_c::numbers::wol_note_char_to_utf16_cu` meets its contract: what `char_to_utf16_cu` ensures, told.
use Rattle.told.proofs.Laws.{told}
use Rattle.note_c.proofs.numbers.wol_note_char_to_utf16_cu.Goals as goal

pub returns : goal.returns
returns c = told _ _ _ _ _ c.char_to_utf16_cu.ensures c.tell.ensures
