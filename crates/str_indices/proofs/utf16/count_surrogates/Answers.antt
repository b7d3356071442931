-- `utf16::count_surrogates` meets its contract: the bytes outside the range are those that are counted.
use mathlib.Core.Path.{◌∙◌}
use Rattle.str_indices.proofs.Laws.{wides-out}
use Rattle.str_indices.proofs.utf16.count_surrogates.Goals as goal

pub returns : goal.returns
returns c = c.count_outside.ensures ∙ wides-out _
