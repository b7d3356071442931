-- `part` meets its contract: one of the counts refused, or both lists laid.
use Rattle.answer.proofs.Opened.{raised}
use mathlib.Core.Path.{refl}
use Rattle.list_step.proofs.Stored.{part_left, part_right, part-done}
use Rattle.list_step.proofs.part.Goals as goal

pub returns-in_err-info : goal.returns-in_err-info
returns-in_err-info c = rw (raised c.from_residual.ensures.1) (
    let a = c.args in
    part_left a.m.now a.slot a.left a.right c.requires.1 c.list_info.result c.list_info.ensures _ _ c.in_err-info.was refl)

pub returns-in_err-other : goal.returns-in_err-other
returns-in_err-other c = rw (raised c.from_residual-in_err-other.ensures.1) (
    let a = c.args in
    part_right a.m.now a.slot a.left a.right c.requires.1 c.list_info.result c.list_info.ensures _ c.in_ok-info.was c.requires.2 c.list_info-2.result c.list_info-2.ensures _ _ c.in_err-other.was refl)

pub returns : goal.returns
returns c =
    let a = c.args in
    part-done a.m.now a.slot a.left a.right c.requires.1 c.list_info.result c.list_info.ensures _ c.in_ok-info.was c.requires.2 c.list_info-2.result c.list_info-2.ensures _ _ _ c.in_ok-other.was c.lay_two.ensures
