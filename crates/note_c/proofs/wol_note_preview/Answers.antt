-- `note_c::wol_note_preview` meets its contract: what `preview` ensures, told, and of an empty preview what its companion ensures.
use mathlib.Core.Path.{ap, ◌∙◌}
use Rattle.told.specs.Told.{code}
use Rattle.told.proofs.Laws.{mapped-code}
use Rattle.note_c.proofs.Laws.{preview-shows}
use Rattle.note_c.proofs.wol_note_preview.Goals as goal

pub returns-then-shown-ne0 : goal.returns-then-shown-ne0
returns-then-shown-ne0 c = (preview-shows _ _ _ _ _ c.preview-shown.ensures.0 c.if-shown-ne0.true, c.preview-shown.ensures.0)

pub returns : goal.returns
returns c = (c.code_of.ensures ∙ (ap code c.preview_refusal.ensures ∙ mapped-code _ _), c.preview-shown.ensures.0)
