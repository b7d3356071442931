-- `pack_at` meets its contract: the two children are leaves in slots of their own.
use Prim.Native.Nat.{◌-◌}
use Rattle.answer.proofs.Opened.{never-refused}
use Rattle.compact.proofs.Loops.{pair-leaves, packed-at}
use Rattle.compact.proofs.pack.pack_at.Goals as goal

pub pack-requires : goal.pack-requires
pack-requires c =
    let a = c.args in
    let p = c.requires in
    pair-leaves a.m.now a.list a.i p.0 p.1 p.2 p.3 p.4

pub rest-requires : goal.rest-requires
rest-requires c = (c.requires.2, c.requires.3)

pub returns-in-Err : goal.returns-in-Err
returns-in-Err c = never-refused _ c.pack.result _ c.pack.ensures.0 c.in-Err.is

pub returns-in-Ok : goal.returns-in-Ok
returns-in-Ok c =
    let a = c.args in
    let p = c.requires in
    packed-at a.m.now a.list a.i p.0 p.1 p.2 p.3 p.4 c.pack.result _ c.pack.ensures _ c.in-Ok.is c.rest.result c.rest.ensures
