-- `note_c::wol_note_open` meets its contract: what `open` ensures, told.
use mathlib.Core.Path.{ap, ◌∙◌}
use Rattle.told.specs.Told.{code}
use Rattle.told.proofs.Laws.{mapped-code}
use Rattle.note_c.proofs.wol_note_open.Goals as goal

pub returns : goal.returns
returns c = (c.code_of.ensures ∙ (ap code c.open.ensures.answered ∙ mapped-code _ _), c.open.ensures.memory)
