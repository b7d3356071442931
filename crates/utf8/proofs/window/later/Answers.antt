-- `window::later` meets its contract: the code is the definition.
use mathlib.Core.Path.{refl}
use Rattle.utf8.specs.Window.{is_later}
use Rattle.utf8.proofs.window.later.Goals as goal

pub returns : goal.returns
unfolding is_later
returns c = refl
