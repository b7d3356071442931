-- `join_lists` meets its contract: both lists are read, and joined.
use Rattle.merge.proofs.JoinedLists.{load-list, load-never}
use Rattle.merge.proofs.join.join_lists.Goals as goal

pub join_read-requires : goal.join_read-requires
join_read-requires c =
    let a = c.args in
    let p = c.requires in
    let l = load-list a.m.now a.a p.0 c.load-left.result c.load-left.ensures in
    let r = load-list a.m.now a.b p.1 c.load-right.result c.load-right.ensures in
    (p.0, p.1, l.0, r.0, l.1, r.1)

pub returns-in_err-may : goal.returns-in_err-may
returns-in_err-may c = load-never c.args.m.now c.args.a c.requires.0 c.load-left.result c.load-left.ensures _ c.in_err-may.was

pub returns-in_err-too : goal.returns-in_err-too
returns-in_err-too c = load-never c.args.m.now c.args.b c.requires.1 c.load-right.result c.load-right.ensures _ c.in_err-too.was

pub returns : goal.returns
returns c = c.join_read.ensures
