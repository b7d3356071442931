-- The level falls.
use Rattle.descent.proofs.+edit_at.Given as goal

abbrev pub decreases-edit_at : goal.decreases-edit_at
decreases-edit_at l = l.level
