-- `compact_in` meets its contract: the leaves that are left may be listed.
use Rattle.answer.proofs.Opened.{never-refused}
use Rattle.compact.proofs.Packing.{list-clean, list-few, may-relist, relisted-is}
use Rattle.compact.proofs.compact_in.Goals as goal

pub compact-rest-requires : goal.compact-rest-requires
compact-rest-requires c =
    let a = c.args in
    let p = c.requires in
    (p.3, p.2, list-few a.m.now a.slot a.list p.0 p.1, list-clean a.m.now a.slot a.list p.0 p.1)

pub returns-in_err-rest : goal.returns-in_err-rest
returns-in_err-rest c = never-refused _ c.compact-rest.result.verdict tt c.compact-rest.ensures.1.answered c.in_err-rest.was

pub relist-requires : goal.relist-requires
relist-requires c =
    let a = c.args in
    let p = c.requires in
    may-relist a.m.now a.slot a.list p.0 p.1 p.3 p.4 _ _ (c.compact-rest.ensures.0, c.compact-rest.ensures.1.list)

pub returns : goal.returns
returns c =
    let a = c.args in
    let p = c.requires in
    record { answered = c.relist.ensures.answered; memory = relisted-is a.m.now a.slot a.list p.0 p.1 p.3 p.4 _ _ (c.compact-rest.ensures.0, c.compact-rest.ensures.1.list) _ c.relist.ensures.memory }
