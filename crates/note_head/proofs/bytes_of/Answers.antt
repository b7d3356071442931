-- `bytes_of` meets its contract: what the head says.
use mathlib.Core.Path.{ap, ◌∙◌}
use Rattle.pool.specs.declared.Kid.{Kid}
use Rattle.note_head.proofs.bytes_of.Goals as goal

pub returns : goal.returns
returns c = (c.wide.ensures.0 ∙ ap (λ (k : Kid). k.info.bytes) c.root-kid.ensures, c.wide.ensures.1)
