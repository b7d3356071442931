-- `lay_two` meets its contract: no slot is free, or both lists are stored.
use Rattle.answer.proofs.Opened.{raised}
use Rattle.list_step.proofs.Stored.{lay-refused, left-never, right-never, lay_done}
use Rattle.list_step.proofs.lay_two.Goals as goal

pub returns-in_err-new : goal.returns-in_err-new
returns-in_err-new c = rw (raised c.from_residual.ensures.1) (
    let a = c.args in
    let t = c.take_slot in
    lay-refused a.m.now a.slot a.left a.info a.right a.other t.result _ t.ensures _ c.in_err-new.was)

pub returns-in_err-store : goal.returns-in_err-store
returns-in_err-store c =
    let a = c.args in
    let t = c.take_slot in
    left-never a.m.now a.slot a.left a.info a.right a.other t.result _ t.ensures c.requires.0 c.requires.1 c.requires.2 _ c.in_ok-new.was _ _ c.store.ensures _ c.in_err-store.was

pub returns-in_err-store-2 : goal.returns-in_err-store-2
returns-in_err-store-2 c =
    let a = c.args in
    let t = c.take_slot in
    right-never a.m.now a.slot a.left a.info a.right a.other t.result _ t.ensures c.requires.0 c.requires.1 c.requires.2 _ c.in_ok-new.was _ _ c.store.ensures _ _ c.store-2.ensures _ c.in_err-store-2.was

pub returns : goal.returns
returns c =
    let a = c.args in
    let t = c.take_slot in
    lay_done a.m.now a.slot a.left a.info a.right a.other t.result _ t.ensures c.requires.0 c.requires.1 c.requires.2 _ c.in_ok-new.was _ _ c.store.ensures _ _ c.store-2.ensures
