-- `settle` meets its contract: no call is refused.
use Rattle.node_children.specs.Kids.{kids}
use Rattle.merge.proofs.Settled.{settled-as, updated-never, settle-shared}
use Rattle.merge.proofs.settle.Goals as goal

pub returns-then-merged : goal.returns-then-merged
returns-then-merged c =
    let a = c.args in
    settled-as a.m.now a.slot (kids a.list) a.idx1 a.idx2 _ _ c.take_out.result _ c.if-merged.true c.take_out.ensures

pub returns-in_err-update_child_info : goal.returns-in_err-update_child_info
returns-in_err-update_child_info c =
    updated-never c.args.m.now c.args.slot c.args.idx1 c.args.idx2 c.args.list c.requires.0 c.requires.1 c.requires.2 c.requires.3 c.requires.4 c.update_child_info.result _ c.update_child_info.ensures _ c.in_err-update_child_info.was

pub returns : goal.returns
returns c =
    settled-as c.args.m.now c.args.slot (kids c.args.list) c.args.idx1 c.args.idx2 _ _ c.update_child_info-2.result _ c.if-merged.false
    (settle-shared c.args.m.now c.args.slot c.args.idx1 c.args.idx2 c.args.list c.requires.0 c.requires.1 c.requires.2 c.requires.3 c.requires.4 c.update_child_info.result _ c.update_child_info.ensures c.update_child_info-2.result _ c.update_child_info-2.ensures)
