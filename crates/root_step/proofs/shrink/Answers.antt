-- `shrink` meets its contract: a leaf or a list of several children stays, and a list of one gives way.
use mathlib.Core.Path.{refl}
use Rattle.root_step.proofs.Rules.{did-as, shrink-leaf, shrink-many, shrink-one}
use Rattle.root_step.proofs.shrink.Goals as goal

pub returns-then-h-eq0 : goal.returns-then-h-eq0
returns-then-h-eq0 c =
    let a = c.args in
    did-as _ _ _ _ (shrink-leaf a.m.now a.slot a.info _ c.height-h.ensures c.if-h-eq0.true) c.put_top.ensures

pub returns-then-list-ne1 : goal.returns-then-list-ne1
returns-then-list-ne1 c =
    let a = c.args in
    let l = c.load in
    did-as _ _ _ _ (shrink-many a.m.now a.slot a.info _ c.height-h.ensures _ refl l.result l.ensures c.if-list-ne1.true) c.put_top-then-list-ne1.ensures

pub returns : goal.returns
returns c =
    let a = c.args in
    let l = c.load in
    did-as _ _ _ _ (shrink-one a.m.now a.slot a.info _ c.height-h.ensures _ refl l.result l.ensures c.if-h-eq0.false c.if-list-ne1.false _ refl) c.give_way.ensures
