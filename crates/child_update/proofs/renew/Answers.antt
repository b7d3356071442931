-- `renew` meets its contract.
use mathlib.Core.Path.{ap}
use Rattle.pool.specs.declared.Kid.{Kid}
use Rattle.pool.proofs.Opened.{entry-opened, entry-there}
use Rattle.nodes.proofs.Heads.{inside}
use Rattle.child_update.proofs.renew.Goals as goal

pub recount-requires : goal.recount-requires
recount-requires c =
    let a = c.args in
    let p = c.requires in
    let k = c.kid_of in
    (p.0, p.1, ap (λ (x : Kid). x.slot) (entry-opened k.result a.m.now a.slot a.idx _ k.ensures c.in_ok-kid.was).2)

pub returns-in_err-kid : goal.returns-in_err-kid
returns-in_err-kid c =
    let a = c.args in
    let p = c.requires in
    let k = c.kid_of in
    absurd (entry-there k.result a.m.now a.slot a.idx _ k.ensures c.in_err-kid.was (inside a.m.now a.slot p.0) p.1)
