-- `recounted` meets its contract: the list loaded, and the child there.
use Rattle.list_step.proofs.Rules.{load-refused, recount-past, recount-ready, recount-done}
use Rattle.list_step.proofs.recounted.Goals as goal

pub returns-in_default : goal.returns-in_default
returns-in_default c =
    let a = c.args in
    load-refused a.m.now a.slot a.idx a.info _ _ c.load-found.ensures c.in_default.is

pub returns-then-list-idx : goal.returns-then-list-idx
returns-then-list-idx c =
    let a = c.args in
    recount-past a.m.now a.slot a.idx a.info c.load-found.result c.load-found.ensures c.in-Ok.is _ c.if-list-idx.true c.new.ensures

pub recount-requires : goal.recount-requires
recount-requires c =
    let a = c.args in
    let r = recount-ready a.m.now a.slot a.idx a.info c.load-found.result c.load-found.ensures c.in-Ok.is in
    (c.if-list-idx.false, r.0, r.1)

pub returns : goal.returns
returns c =
    let a = c.args in
    recount-done a.m.now a.slot a.idx a.info c.load-found.result c.load-found.ensures c.in-Ok.is _ c.if-list-idx.false c.recount.ensures
