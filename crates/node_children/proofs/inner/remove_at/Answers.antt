-- `remove_at` meets its contract.
use mathlib.Core.Path.{refl}
use Prim.Native.Nat.{◌+◌}
use native.Mathlib.Omega.{arith}
use lib.ListN.{take}
use Rattle.node_children.specs.Kids.{kids}
use Rattle.node_children.proofs.Lists.{holds_same, append-rest}
use Rattle.node_children.proofs.inner.remove_at.Goals as goal

pub append-requires : goal.append-requires
append-requires c = (omega arith, omega arith, omega arith, omega (arith, c.front.ensures.len), c.front.ensures.clean)

pub returns : goal.returns
returns c =
    let a = c.args in
    let f = c.front in
    holds_same c.append.result _ _ _ _ (omega (arith, f.ensures.len)) refl (append-rest (take a.at (kids a.list)) f.result c.append.result a.list _ _ (a.at + 1) f.ensures c.append.ensures)
