-- `crlf::parts` meets its contract: the code is the definition, with what `starts` ensures in it.
use mathlib.Core.Path.{ap}
use mathlib.Core.Bool.{Bool, not, ◌&&◌}
use lib.Dec.{eqb}
use Rattle.crlf.specs.Break.{parts}
use Rattle.crlf.proofs.parts.Goals as goal

pub returns : goal.returns
unfolding parts
returns c = ap (λ (t : Bool). t && not (eqb c.args.x 0x0D && eqb c.args.y 0x0A)) c.starts.ensures
