-- The height falls.
use Rattle.tree_search.proofs.+leaf_at.Given as goal

abbrev pub decreases-leaf_at : goal.decreases-leaf_at
decreases-leaf_at l = l.level
