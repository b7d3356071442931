-- `fit` meets its contract.
use Rattle.answer.proofs.Opened.{raised}
use Rattle.leaf_step.proofs.Rules.{fit-ready, fit_refused, fit-done}
use Rattle.leaf_step.proofs.fit.Goals as goal

pub one_leaf-requires : goal.one_leaf-requires
one_leaf-requires c =
    fit-ready c.args.m.now c.args.slot c.args.start c.args.end c.args.piece.now c.replace_leaf.result _ c.replace_leaf.ensures _ c.in_ok-len.was

pub returns-in_err-len : goal.returns-in_err-len
returns-in_err-len c = rw (raised c.from_residual.ensures.1) (
    fit_refused c.args.m.now c.args.slot c.args.start c.args.end c.args.piece.now c.replace_leaf.result _ c.replace_leaf.ensures _ c.in_err-len.was)

pub returns : goal.returns
returns c =
    fit-done c.args.m.now c.args.slot c.args.start c.args.end c.args.piece.now c.replace_leaf.result _ c.replace_leaf.ensures _ c.in_ok-len.was _ c.one_leaf.ensures
