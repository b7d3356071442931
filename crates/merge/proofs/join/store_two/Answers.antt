-- `store_two` meets its contract: neither list is refused.
use Rattle.pool.proofs.Opened.{wrote-never}
use Rattle.nodes.proofs.Heads.{inside}
use Rattle.nodes.proofs.Rules.{stored_is}
use Rattle.merge.proofs.JoinedLists.{lists-stored}
use Rattle.merge.proofs.join.store_two.Goals as goal

pub returns-in_err-store : goal.returns-in_err-store
returns-in_err-store c =
    let a = c.args in
    let p = c.requires in
    wrote-never _ _ c.store.result _ c.store.ensures.0 _ (stored_is a.m.now a.a a.left (inside a.m.now a.a p.0) p.2) _ c.in_err-store.was

pub returns : goal.returns
returns c =
    let a = c.args in
    let p = c.requires in
    lists-stored a.m.now a.a a.b a.left a.right c.store.result c.store-2.result _ _ p.0 p.1 p.2 p.3 c.store.ensures c.store-2.ensures
