-- `len_chars` meets its contract.
use Rattle.plain_note.specs.Note.{most_by}
use Rattle.readings.proofs.len_chars.Goals as goal

pub returns : goal.returns
unfolding most_by
returns c = c.length_by.ensures
