-- `from_byte` meets its contract: the search, and what is left of the leaf.
use Rattle.leaf_parts.proofs.Found.{bytes-none, bytes-found}
use Rattle.leaf_parts.proofs.from_byte.Goals as goal

pub returns-in_default : goal.returns-in_default
returns-in_default c =
    let a = c.args in
    bytes-none a.m.now a.at c.spot_of.result _ c.spot_of.ensures.0 c.in_default.is

pub returns : goal.returns
returns c =
    let a = c.args in
    bytes-found a.m.now a.at c.spot_of.result _ _ c.text_at.result.now _ c.spot_of.ensures.0 c.in-Ok.is c.text_at.ensures.0 c.above.ensures _ c.behind.ensures.0
