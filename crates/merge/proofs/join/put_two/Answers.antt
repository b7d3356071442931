-- `put_two` meets its contract.
use Rattle.answer.proofs.Opened.{raised}
use mathlib.Core.Bool.{false}
use Rattle.plain.proofs.Logic.{or_left, or_right, or-none}
use Rattle.node_children.specs.Kids.{kids}
use Rattle.nodes.specs.Node.{too_wide, total_of, list_put}
use Rattle.merge.proofs.JoinedLists.{counted-wide, counted-fits, not-put, is-put}
use Rattle.merge.proofs.join.put_two.Goals as goal

pub returns-in_err-list_info : goal.returns-in_err-list_info
returns-in_err-list_info c = rw (raised c.from_residual.ensures.1) (
    let a = c.args in
    let w = counted-wide a.left c.requires.2 c.list_info.result c.list_info.ensures _ c.in_err-list_info.was in
    not-put _ _ _ _ (or_left _ _ w.0) w.1)

pub returns-in_err-list_info-2 : goal.returns-in_err-list_info-2
returns-in_err-list_info-2 c = rw (raised c.from_residual-in_err-list_info-2.ensures.1) (
    let a = c.args in
    let w = counted-wide a.right c.requires.3 c.list_info-2.result c.list_info-2.ensures _ c.in_err-list_info-2.was in
    not-put _ _ _ _ (or_right (too_wide (total_of (kids a.left))) _ w.0) w.1)

pub returns : goal.returns
returns c =
    let a = c.args in
    let p = c.requires in
    let w = c.store_two.ensures in
    let e = counted-fits a.left p.2 c.list_info.result c.list_info.ensures _ c.in_ok-list_info.was in
    let f = counted-fits a.right p.3 c.list_info-2.result c.list_info-2.ensures _ c.in_ok-list_info-2.was in
    is-put _ (false, list_put (list_put a.m.now a.a a.left) a.b a.right) _ c.told_if.result c.store_two.result _ c.told_if.ensures w.0.answered (or-none _ _ e f) w.0.memory w.1
