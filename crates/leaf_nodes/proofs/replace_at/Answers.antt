-- `replace_at` meets its contract: the region is edited where it lies, and then the head is set.
use Rattle.answer.proofs.Opened.{passed}
use mathlib.Core.Path.{refl}
use native.Mathlib.Omega.{arith}
use Rattle.pool.proofs.Opened.{region-opened}
use Rattle.nodes.proofs.Heads.{inside}
use Rattle.nodes.proofs.Laid.{region-there, replace-not, replace-set}
use Rattle.leaf_nodes.proofs.Opened.{edited-never}
use Rattle.leaf_nodes.proofs.replace_at.Goals as goal

pub returns-in_err-at : goal.returns-in_err-at
returns-in_err-at c =
    let a = c.args in
    absurd (region-there c.region_start.result a.m.now a.slot _ c.region_start.ensures c.in_err-at.was (inside a.m.now a.slot c.requires))

pub overflow_add-at : goal.overflow_add-at
overflow_add-at c =
    let a = c.args in
    omega (arith, region-opened c.region_start.result a.m.now a.slot _ c.region_start.ensures c.in_ok-at.was)

pub returns-in_err-len : goal.returns-in_err-len
returns-in_err-len c = rw (passed c.in_err-len.was c.from_residual-in_err-len.ensures.1) (
    let a = c.args in
    let o = region-opened c.region_start.result a.m.now a.slot _ c.region_start.ensures c.in_ok-at.was in
    replace-not a.m.now a.slot o.0 _ _ o.1 refl a.n a.start a.end a.piece.now _ _ c.replace.ensures _ c.in_err-len.was)

pub returns-in_err-set_leaf : goal.returns-in_err-set_leaf
returns-in_err-set_leaf c =
    let a = c.args in
    let o = region-opened c.region_start.result a.m.now a.slot _ c.region_start.ensures c.in_ok-at.was in
    edited-never a.m.now a.slot o.0 _ _ o.1 refl a.n a.start a.end a.piece.now _ _ c.replace.ensures _ c.in_ok-len.was c.set_leaf.result _ c.set_leaf.ensures _ c.in_err-set_leaf.was

pub returns : goal.returns
returns c =
    let a = c.args in
    let o = region-opened c.region_start.result a.m.now a.slot _ c.region_start.ensures c.in_ok-at.was in
    replace-set a.m.now a.slot o.0 _ _ o.1 refl a.n a.start a.end a.piece.now _ _ c.replace.ensures _ c.set_leaf.result _ c.in_ok-len.was c.set_leaf.ensures

pub slice_bounds-replace-end : goal.slice_bounds-replace-end
slice_bounds-replace-end c =
    let a = c.args in
    omega (arith, region-opened c.region_start.result a.m.now a.slot _ c.region_start.ensures c.in_ok-at.was)
