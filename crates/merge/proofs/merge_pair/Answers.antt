-- `merge_pair` meets its contract.
use Rattle.answer.proofs.Opened.{raised}
use native.Mathlib.Omega.{arith}
use Rattle.merge.proofs.Merged.{list-small, alike_at, join-at, may-settle, merged-done, merged-not}
use Rattle.merge.proofs.merge_pair.Goals as goal

pub slot_of-a-requires : goal.slot_of-a-requires
slot_of-a-requires c = (omega arith, list-small c.args.m.now c.args.slot c.args.list c.requires.0 c.requires.1)

pub slot_of-b-requires : goal.slot_of-b-requires
slot_of-b-requires c = (omega arith, list-small c.args.m.now c.args.slot c.args.list c.requires.0 c.requires.1)

pub join-requires : goal.join-requires
join-requires c = alike_at c.args.m.now _ _ _ _ c.slot_of-a.ensures c.slot_of-b.ensures c.requires.4.alike

pub settle-requires : goal.settle-requires
settle-requires c =
    may-settle c.args.m.now c.args.slot c.args.idx1 c.args.idx2 c.args.list c.requires.0 c.requires.1 c.requires.4 c.requires.5 c.join.result _
    (join-at c.args.m.now _ _ _ _ c.slot_of-a.ensures c.slot_of-b.ensures c.join.result _ c.join.ensures) _ c.in_ok-merged.was c.requires.2 c.requires.3

pub returns-in_err-merged : goal.returns-in_err-merged
returns-in_err-merged c = rw (raised c.from_residual.ensures.1) (
    merged-not c.args.m.now c.args.slot c.args.idx1 c.args.idx2 c.args.list c.requires.0 c.requires.1 c.requires.4 c.requires.5 c.join.result _
    (join-at c.args.m.now _ _ _ _ c.slot_of-a.ensures c.slot_of-b.ensures c.join.result _ c.join.ensures) _ c.in_err-merged.was)

pub returns : goal.returns
returns c =
    merged-done c.args.m.now c.args.slot c.args.idx1 c.args.idx2 c.args.list c.requires.0 c.requires.1 c.requires.4 c.requires.5 c.join.result _
    (join-at c.args.m.now _ _ _ _ c.slot_of-a.ensures c.slot_of-b.ensures c.join.result _ c.join.ensures) _ c.in_ok-merged.was c.settle.result c.told_if.result _ c.settle.ensures c.told_if.ensures
