-- `utf8::starts` meets its contract: the code is the definition.
use mathlib.Core.Path.{refl}
use Rattle.plain.specs.Place.{is_start}
use Rattle.utf8.proofs.starts.Goals as goal

pub returns : goal.returns
unfolding is_start
returns c = refl
