-- `chars::count` meets its contract: the bytes outside the range are those that are counted.
use mathlib.Core.Path.{◌∙◌}
use Rattle.str_indices.proofs.Laws.{starts-out}
use Rattle.str_indices.proofs.chars.count.Goals as goal

pub returns : goal.returns
returns c = c.count_outside.ensures ∙ starts-out _
