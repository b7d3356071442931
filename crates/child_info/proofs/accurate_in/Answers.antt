-- `accurate_in` meets its contract.
use mathlib.Core.Path.{sym}
use Rattle.child_info.proofs.Rules.{few-read, accurate-lost, accurate-ill, accurate-done}
use Rattle.child_info.proofs.accurate_in.Goals as goal

pub some-requires : goal.some-requires
some-requires c = let a = c.args in let p = c.requires in few-read a.m.now a.slot a.list p.0 p.1

pub returns-then-some : goal.returns-then-some
returns-then-some c =
    let a = c.args in
    let p = c.requires in
    sym (accurate-lost a.m.now a.slot a.list p.0 p.1 _ c.some.ensures c.if-some.true)

pub some-requires-2 : goal.some-requires-2
some-requires-2 c = let a = c.args in let p = c.requires in few-read a.m.now a.slot a.list p.0 p.1

pub returns-then-some-2 : goal.returns-then-some-2
returns-then-some-2 c =
    let a = c.args in
    let p = c.requires in
    sym (accurate-ill a.m.now a.slot a.list p.0 p.1 _ c.some.ensures c.if-some.false _ c.some-2.ensures c.if-some-2.true)

pub some-requires-3 : goal.some-requires-3
some-requires-3 c = let a = c.args in let p = c.requires in few-read a.m.now a.slot a.list p.0 p.1

pub returns : goal.returns
returns c =
    let a = c.args in
    let p = c.requires in
    sym (accurate-done a.m.now a.slot a.list p.0 p.1 _ c.some.ensures c.if-some.false _ _ c.some-2.ensures c.if-some-2.false c.some-3.ensures)
