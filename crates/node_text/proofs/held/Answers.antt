-- `held` meets its contract.
use native.Mathlib.Omega.{arith}
use lib.ListN.{length-take}
use Rattle.node_text.proofs.held.Goals as goal

pub returns-then-len-region : goal.returns-then-len-region
returns-then-len-region c = omega (arith, length-take c.args.len c.args.region.now)

pub returns : goal.returns
returns c = omega (arith, length-take c.args.len c.args.region.now)
