-- `pair` meets its contract: both children are taken in.
use Rattle.root_step.proofs.Rules.{first-never, pair-done}
use Rattle.root_step.proofs.pair.Goals as goal

pub returns-in_default : goal.returns-in_default
returns-in_default c =
    let a = c.args in
    let n = c.new in
    let p = c.push-one in
    first-never a.left a.right n.result p.result n.ensures p.ensures _ c.in_default.is

pub returns : goal.returns
returns c =
    let a = c.args in
    let n = c.new in
    let p = c.push-one in
    pair-done a.left a.right n.result p.result n.ensures p.ensures c.push.result c.push.ensures
