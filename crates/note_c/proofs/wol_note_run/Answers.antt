-- `note_c::wol_note_run` meets its contract: what `run` ensures, told, and of an empty run what its companion ensures.
use mathlib.Core.Path.{ap, ◌∙◌}
use Rattle.told.specs.Told.{code}
use Rattle.told.proofs.Laws.{mapped-code}
use Rattle.note_c.proofs.Laws.{run-shows}
use Rattle.note_c.proofs.wol_note_run.Goals as goal

pub returns-then-run-ne0 : goal.returns-then-run-ne0
returns-then-run-ne0 c = (run-shows _ _ _ c.run-run.ensures.0 c.if-run-ne0.true, c.run-run.ensures.0)

pub returns : goal.returns
returns c = (c.code_of.ensures ∙ (ap code c.run_refusal.ensures ∙ mapped-code _ _), c.run-run.ensures.0)
