-- `call_of` meets its contract: its table is that of `Asked`.
use mathlib.Core.Path.{refl}
use Rattle.list_calls.specs.Asked.{calls}
use Rattle.list_calls.proofs.call_of.Goals as goal

pub returns : goal.returns
unfolding calls
returns c = refl
