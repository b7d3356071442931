-- `text_of` meets its contract: the slot holds a leaf, or the call is refused.
use Rattle.answer.proofs.Opened.{passed}
use Rattle.nodes.proofs.Heads.{not-outside, leaf-says}
use Rattle.nodes.proofs.Copied.{read_done}
use Rattle.leaf_nodes.proofs.Opened.{leaf-found, read-missed}
use Rattle.leaf_nodes.proofs.text_of.Goals as goal

pub returns-in_err-n : goal.returns-in_err-n
returns-in_err-n c = rw (passed c.in_err-n.was c.from_residual.ensures.1) (
    let a = c.args in
    read-missed a.m.now a.slot c.leaf_of.result c.leaf_of.ensures a.out.now _ c.in_err-n.was)

pub copy_text-requires : goal.copy_text-requires
copy_text-requires c =
    let a = c.args in
    let h = leaf-found a.m.now a.slot c.leaf_of.result c.leaf_of.ensures _ c.in_ok-n.was in
    (not-outside a.m.now a.slot (leaf-says a.m.now a.slot h.0).0, h.2)

pub returns : goal.returns
returns c =
    let a = c.args in
    let h = leaf-found a.m.now a.slot c.leaf_of.result c.leaf_of.ensures _ c.in_ok-n.was in
    read_done a.m.now a.slot _ a.out.now _ _ h.0 h.1 c.copy_text.ensures
