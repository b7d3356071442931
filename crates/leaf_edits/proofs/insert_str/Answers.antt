-- `insert_str` meets its contract.
use Rattle.leaf_edits.proofs.insert_str.Goals as goal

pub returns : goal.returns
returns c = c.edit.ensures
