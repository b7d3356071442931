-- `put_root` meets its contract, by what the edit made.
use mathlib.Core.Path.{refl}
use Rattle.answer.proofs.Opened.{raised}
use Rattle.root_step.proofs.Rules.{did-is, did-as, root-same, root-small, root-split, root-apart}
use Rattle.root_step.proofs.put_root.Goals as goal

pub returns-in-Same : goal.returns-in-Same
returns-in-Same c =
    let a = c.args in
    rw c.in_ok-info.was (did-as _ _ _ _ (root-same a.m.now _ c.root-kid.result c.root-kid.ensures _ c.in-Same.is _ c.height.ensures) c.put_top.ensures)

pub returns-in-Small : goal.returns-in-Small
returns-in-Small c =
    let a = c.args in
    rw c.in_ok-info.was (did-as _ _ _ _ (root-small a.m.now _ c.root-kid.result c.root-kid.ensures _ c.in-Small.is) c.shrink.ensures)

pub returns-in-Split : goal.returns-in-Split
returns-in-Split c =
    let a = c.args in
    rw c.in_ok-info.was (did-as _ _ _ _ (root-split a.m.now _ c.root-kid.result c.root-kid.ensures _ _ _ c.in-Split.is) c.grow.ensures)

pub returns-in-Apart : goal.returns-in-Apart
returns-in-Apart c =
    let a = c.args in
    rw c.in_ok-info.was (did-is _ _ _ _ _ (root-apart a.m.now _ c.root-kid.result c.root-kid.ensures c.in-Apart.is) refl refl)

pub returns-in_err-info : goal.returns-in_err-info
returns-in_err-info c = rw (raised c.from_residual.ensures.1, c.in_err-info.was) (record { answered = refl; memory = refl })
