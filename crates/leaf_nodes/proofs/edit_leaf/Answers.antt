-- `edit_leaf` meets its contract: the slot holds a leaf and the call is checked, or it is refused.
use Rattle.answer.proofs.Opened.{passed}
use Rattle.nodes.proofs.Heads.{not-outside, leaf-says}
use Rattle.nodes.proofs.Copied.{edit-none}
use Rattle.leaf_nodes.proofs.Edited.{edit-not, edit-done}
use Rattle.leaf_nodes.proofs.Opened.{leaf-found, wrote-missed}
use Rattle.leaf_nodes.proofs.edit_leaf.Goals as goal

pub returns-in_err-n : goal.returns-in_err-n
returns-in_err-n c = rw (passed c.in_err-n.was c.from_residual.ensures.1) (
    let a = c.args in
    wrote-missed a.m.now a.slot c.leaf_of.result c.leaf_of.ensures _ (edit-none a.m.now a.slot a.start a.end a.piece.now) _ c.in_err-n.was)

pub checked_at-requires : goal.checked_at-requires
checked_at-requires c =
    let a = c.args in
    let h = leaf-found a.m.now a.slot c.leaf_of.result c.leaf_of.ensures _ c.in_ok-n.was in
    (not-outside a.m.now a.slot (leaf-says a.m.now a.slot h.0).0, h.2)

pub returns-in_err-checked_at : goal.returns-in_err-checked_at
returns-in_err-checked_at c = rw (passed c.in_err-checked_at.was c.from_residual-in_err-checked_at.ensures.1) (
    let a = c.args in
    let h = leaf-found a.m.now a.slot c.leaf_of.result c.leaf_of.ensures _ c.in_ok-n.was in
    edit-not a.m.now a.slot _ a.start a.end a.piece.now h.0 h.1 _ c.checked_at.ensures _ c.in_err-checked_at.was)

pub replace_at-requires : goal.replace_at-requires
replace_at-requires c =
    let a = c.args in
    let h = leaf-found a.m.now a.slot c.leaf_of.result c.leaf_of.ensures _ c.in_ok-n.was in
    not-outside a.m.now a.slot (leaf-says a.m.now a.slot h.0).0

pub returns : goal.returns
returns c =
    let a = c.args in
    let h = leaf-found a.m.now a.slot c.leaf_of.result c.leaf_of.ensures _ c.in_ok-n.was in
    edit-done a.m.now a.slot _ a.start a.end a.piece.now h.0 h.1 _ c.checked_at.ensures _ c.in_ok-checked_at.was _ _ c.replace_at.ensures
