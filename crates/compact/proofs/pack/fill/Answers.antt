-- `fill` meets its contract: neither edit is refused, and both come to `packed`.
use Rattle.leaf_bytes.proofs.Opened.{at-never}
use Rattle.compact.proofs.Edits.{cut_in, cut-length, first-never, some-edit}
use Rattle.compact.proofs.pack.fill.Goals as goal

pub returns-in_err-k : goal.returns-in_err-k
returns-in_err-k c =
    let a = c.args in
    let p = c.requires in
    absurd (at-never a.text.now _ _ c.prev_break.result _ (cut_in a.m.now a.l a.r p.0 a.a a.text.now p.1 p.2 p.3 p.4) c.prev_break.ensures c.in_err-k.was)

pub slice_bounds-edit_leaf-end : goal.slice_bounds-edit_leaf-end
slice_bounds-edit_leaf-end c =
    let a = c.args in
    let p = c.requires in
    cut-length a.m.now a.l a.r p.0 a.a a.text.now p.1 p.2 p.3 p.4 c.prev_break.result _ c.prev_break.ensures c.in_ok-k.was

pub returns-in_err-edit_leaf : goal.returns-in_err-edit_leaf
returns-in_err-edit_leaf c =
    let a = c.args in
    let p = c.requires in
    first-never a.m.now a.l a.r p.0 a.a a.text.now p.1 p.2 p.3 p.4 c.prev_break.result _ c.prev_break.ensures c.in_ok-k.was c.edit_leaf.result _ c.edit_leaf.ensures _ c.in_err-edit_leaf.was

pub returns : goal.returns
returns c =
    let a = c.args in
    let p = c.requires in
    some-edit a.m.now a.l a.r p.0 a.a a.text.now p.1 p.2 p.3 p.4 c.prev_break.result _ c.prev_break.ensures c.in_ok-k.was _ _ _ _ c.edit_leaf.ensures c.edit_leaf-2.ensures
