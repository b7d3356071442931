-- `spot_of` meets its contract: the search from the root that the head says.
use native.Mathlib.Omega.{arith}
use Rattle.leaf_parts.proofs.Found.{spot_is, bounded-most}
use Rattle.leaf_parts.proofs.spot_of.Goals as goal

pub returns : goal.returns
returns c =
    let a = c.args in (
      spot_is a.m.now a.by a.at _ _ c.root-kid.result c.leaf_at.result c.root-kid.ensures c.height.ensures c.wide.ensures.0 c.leaf_at.ensures.0,
      bounded-most _ c.leaf_at.result (omega arith) c.leaf_at.ensures.1,
    )
