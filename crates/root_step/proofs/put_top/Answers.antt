-- `put_top` meets its contract: the root refused, or the height set too.
use Rattle.answer.proofs.Opened.{passed}
use Rattle.root_step.proofs.Rules.{top-refused, top-done}
use Rattle.root_step.proofs.put_top.Goals as goal

pub returns-in_err-set_root : goal.returns-in_err-set_root
returns-in_err-set_root c = rw (passed c.in_err-set_root.was c.from_residual.ensures.1) (
    let a = c.args in
    top-refused a.m.now a.k a.h _ _ c.set_root.ensures.0 _ c.in_err-set_root.was)

pub returns : goal.returns
returns c =
    let a = c.args in
    top-done a.m.now a.k a.h _ _ c.set_root.ensures.0 c.in_ok-set_root.was _ _ c.set_height.ensures
