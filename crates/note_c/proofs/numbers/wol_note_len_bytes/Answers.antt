-- `note_c::numbers::wol_note_len_bytes` meets its contract: what `len_bytes` ensures, told.
use Rattle.told.proofs.Laws.{told}
use Rattle.note_c.proofs.numbers.wol_note_len_bytes.Goals as goal

pub returns : goal.returns
returns c = told _ _ _ _ _ c.len_bytes.ensures c.tell.ensures
