-- `rest` meets its contract.
use mathlib.Core.Path.{refl}
use mathlib.Core.List.{[]}
use native.Mathlib.Omega.{arith}
use Rattle.node_children.proofs.Lists.{holds_same, append-rest}
use Rattle.node_children.proofs.inner.rest.Goals as goal

pub append-requires : goal.append-requires
append-requires c = (omega arith, omega arith, omega arith, omega (arith, c.empty.ensures.len), c.empty.ensures.clean)

pub returns : goal.returns
returns c =
    let a = c.args in
    holds_same c.append.result _ _ _ _ (omega (arith, c.empty.ensures.len)) refl (append-rest [] c.empty.result c.append.result a.list _ _ a.start c.empty.ensures c.append.ensures)
