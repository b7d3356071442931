-- `rise` meets its contract, by what the edit made of the child.
use mathlib.Core.Path.{refl}
use Rattle.answer.proofs.Opened.{raised}
use Rattle.rise.proofs.Rules.{rise-same, rise-split, rise-small, rise-apart}
use Rattle.rise.proofs.rise.Goals as goal

pub returns-in_err-info : goal.returns-in_err-info
returns-in_err-info c = rw (raised c.from_residual.ensures.1, c.in_err-info.was) (record { answered = refl; memory = refl })

pub returns-in-Same : goal.returns-in-Same
returns-in-Same c =
    let a = c.args in
    rw c.in_ok-info.was (rise-same a.m.now a.slot a.idx _ _ _ _ c.in-Same.is c.put_one.ensures)

pub returns-in-Split : goal.returns-in-Split
returns-in-Split c =
    let a = c.args in
    rw c.in_ok-info.was (rise-split a.m.now a.slot a.idx _ _ _ _ _ _ c.in-Split.is c.put_two.ensures)

pub returns-in-Small : goal.returns-in-Small
returns-in-Small c =
    let a = c.args in
    rw c.in_ok-info.was (rise-small a.m.now a.slot a.idx _ _ _ _ c.in-Small.is c.join_small.ensures)

pub returns-in-Apart : goal.returns-in-Apart
returns-in-Apart c =
    let a = c.args in
    rw c.in_ok-info.was (rise-apart a.m.now a.slot a.idx _ c.in-Apart.is)
