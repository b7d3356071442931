-- `remove_range` meets its contract.
use Rattle.leaf_edits.proofs.remove_range.Goals as goal

pub returns : goal.returns
returns c = c.edit.ensures
