-- `note_c::numbers::wol_note_len_chars` meets its contract: what `len_chars` ensures, told.
use Rattle.told.proofs.Laws.{told}
use Rattle.note_c.proofs.numbers.wol_note_len_chars.Goals as goal

pub returns : goal.returns
returns c = told _ _ _ _ _ c.len_chars.ensures c.tell.ensures
