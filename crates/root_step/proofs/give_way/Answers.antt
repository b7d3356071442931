-- `give_way` meets its contract: the slot refused, or the child put on top.
use Rattle.answer.proofs.Opened.{passed}
use Rattle.root_step.proofs.Rules.{way-refused, way-done}
use Rattle.root_step.proofs.give_way.Goals as goal

pub returns-in_err-give_slot : goal.returns-in_err-give_slot
returns-in_err-give_slot c = rw (passed c.in_err-give_slot.was c.from_residual.ensures.1) (
    let a = c.args in
    way-refused a.m.now a.slot a.child a.h _ _ c.give_slot.ensures _ c.in_err-give_slot.was)

pub returns : goal.returns
returns c =
    let a = c.args in
    way-done a.m.now a.slot a.child a.h _ _ c.give_slot.ensures c.in_ok-give_slot.was _ _ c.put_top.ensures
