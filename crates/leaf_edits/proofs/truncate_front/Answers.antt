-- `truncate_front` meets its contract.
use Rattle.leaf_edits.proofs.truncate_front.Goals as goal

pub returns : goal.returns
returns c = c.edit.ensures
