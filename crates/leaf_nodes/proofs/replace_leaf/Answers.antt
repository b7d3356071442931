-- `replace_leaf` meets its contract: the slot holds a leaf, or the call is refused.
use Rattle.answer.proofs.Opened.{passed}
use Rattle.nodes.proofs.Heads.{not-outside, leaf-says}
use Rattle.nodes.proofs.Copied.{wrote_as, replace-is, replace-none}
use Rattle.leaf_nodes.proofs.Opened.{leaf-found, wrote-missed}
use Rattle.leaf_nodes.proofs.replace_leaf.Goals as goal

pub returns-in_err-n : goal.returns-in_err-n
returns-in_err-n c = rw (passed c.in_err-n.was c.from_residual.ensures.1) (
    let a = c.args in
    wrote-missed a.m.now a.slot c.leaf_of.result c.leaf_of.ensures _ (replace-none a.m.now a.slot a.start a.end a.piece.now) _ c.in_err-n.was)

pub replace_at-requires : goal.replace_at-requires
replace_at-requires c =
    let a = c.args in
    let h = leaf-found a.m.now a.slot c.leaf_of.result c.leaf_of.ensures _ c.in_ok-n.was in
    not-outside a.m.now a.slot (leaf-says a.m.now a.slot h.0).0

pub returns : goal.returns
returns c =
    let a = c.args in
    let h = leaf-found a.m.now a.slot c.leaf_of.result c.leaf_of.ensures _ c.in_ok-n.was in
    wrote_as _ a.m.now a.slot _ _ _ (replace-is a.m.now a.slot a.start a.end a.piece.now _ h.0 h.1) c.replace_at.ensures
