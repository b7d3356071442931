-- `insert_at` meets its contract.
use mathlib.Core.Path.{refl}
use native.Mathlib.Omega.{arith}
use Rattle.node_children.proofs.Lists.{holds_same, insert-holds}
use Rattle.node_children.proofs.inner.insert_at.Goals as goal

pub put-before-requires : goal.put-before-requires
put-before-requires c = (omega (arith, c.front.ensures.len), c.front.ensures.clean)

pub append-requires : goal.append-requires
append-requires c = (omega arith, omega arith, omega arith, omega (arith, c.put-before.ensures.len, c.front.ensures.len), c.put-before.ensures.clean)

pub returns : goal.returns
returns c =
    let a = c.args in
    let f = c.front in
    let p = c.put-before in
    holds_same c.append.result _ _ _ _ (omega (arith, p.ensures.len, f.ensures.len)) refl (insert-holds a.list f.result p.result c.append.result a.at _ _ _ a.item f.ensures p.ensures c.append.ensures)
