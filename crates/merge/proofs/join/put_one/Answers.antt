-- `put_one` meets its contract.
use Rattle.answer.proofs.Opened.{raised}
use mathlib.Core.Bool.{true}
use Rattle.nodes.specs.Node.{list_put}
use Rattle.merge.proofs.JoinedLists.{counted-wide, counted-fits, list-stored, not-put, is-put}
use Rattle.merge.proofs.join.put_one.Goals as goal

pub returns-in_err-list_info : goal.returns-in_err-list_info
returns-in_err-list_info c = rw (raised c.from_residual.ensures.1) (
    let a = c.args in
    let w = counted-wide a.list c.requires.1 c.list_info.result c.list_info.ensures _ c.in_err-list_info.was in
    not-put _ _ _ _ w.0 w.1)

pub returns : goal.returns
returns c =
    let a = c.args in
    let p = c.requires in
    let w = list-stored a.m.now a.a a.list c.store.result _ p.0 p.1 c.store.ensures in
    is-put _ (true, list_put a.m.now a.a a.list) _ c.told_if.result c.store.result _ c.told_if.ensures w.0 (counted-fits a.list p.1 c.list_info.result c.list_info.ensures _ c.in_ok-list_info.was) w.1 w.2
