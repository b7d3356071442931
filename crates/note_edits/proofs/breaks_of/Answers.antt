-- `breaks_of` meets its contract: what the head says.
use mathlib.Core.Path.{ap}
use Rattle.pool.specs.declared.Kid.{Kid}
use Rattle.note_edits.proofs.breaks_of.Goals as goal

pub returns : goal.returns
returns c = ap (λ (k : Kid). k.info.line_breaks) c.root.ensures
