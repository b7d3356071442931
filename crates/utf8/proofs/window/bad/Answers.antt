-- `window::bad` meets its contract: the code is the definition, of what its parts are.
use mathlib.Core.Bool.{not, ◌||◌, beq}
use Rattle.utf8.specs.Window.{bad_at}
use Rattle.utf8.proofs.window.bad.Goals as goal

pub returns : goal.returns
unfolding bad_at
returns c = λ i. not (beq (c.owes.ensures i) (c.later.ensures i)) || c.outside.ensures i
