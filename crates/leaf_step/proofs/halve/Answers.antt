-- `halve` meets its contract.
use Rattle.answer.proofs.Opened.{raised}
use Rattle.leaf_step.proofs.Rules.{left-ready, right-ready, halve-refused, halve-done}
use Rattle.leaf_step.proofs.halve.Goals as goal

pub two_leaves-requires : goal.two_leaves-requires
two_leaves-requires c =
    (left-ready c.args.m.now c.args.slot c.args.at c.args.piece.now c.args.right c.args.next c.halve_leaf.result _ c.halve_leaf.ensures _ _ c.in_ok-halve_leaf.was, right-ready c.args.m.now c.args.slot c.args.at c.args.piece.now c.args.right c.args.next c.halve_leaf.result _ c.halve_leaf.ensures _ _ c.in_ok-halve_leaf.was, c.requires)

pub returns-in_err-halve_leaf : goal.returns-in_err-halve_leaf
returns-in_err-halve_leaf c = rw (raised c.from_residual.ensures.1) (
    halve-refused c.args.m.now c.args.slot c.args.at c.args.piece.now c.args.right c.args.next c.halve_leaf.result _ c.halve_leaf.ensures _ c.in_err-halve_leaf.was)

pub returns : goal.returns
returns c =
    let t = c.two_leaves.ensures in
    halve-done c.args.m.now c.args.slot c.args.at c.args.piece.now c.args.right c.args.next c.halve_leaf.result _ c.halve_leaf.ensures _ _ c.in_ok-halve_leaf.was _ _ t.0 t.1
