-- `join` meets its contract: refused, or the list closed over the two.
use Rattle.answer.proofs.Opened.{raised}
use native.Mathlib.Omega.{arith}
use Rattle.mend_step.proofs.Rules.{join-refused, join-there, join-done}
use Rattle.list_step.proofs.Rules.{step-refused}
use borrow.Author.Rules.{rules}
use Rattle.mend_step.proofs.join.Goals as goal

pub close-requires : goal.close-requires
close-requires c =
    let a = c.args in
    (omega arith, c.slot_of-second.ensures.1, join-there a.m.now a.slot a.list a.idx a.info c.merge_distribute.result _ c.merge_distribute.ensures _ c.in_ok-merged.was c.requires.2 _ c.slot_of-second.ensures.0 (search rules))

pub returns-in_err-merged : goal.returns-in_err-merged
returns-in_err-merged c = rw (raised c.from_residual.ensures.1) (
    let a = c.args in
    let j = join-refused a.m.now a.slot a.list a.idx a.info c.merge_distribute.result _ c.merge_distribute.ensures _ c.in_err-merged.was in
    step-refused _ a.m.now _ _ j.0 j.1)

pub returns : goal.returns
returns c =
    let a = c.args in
    join-done a.m.now a.slot a.list a.idx a.info c.merge_distribute.result _ c.merge_distribute.ensures _ c.in_ok-merged.was _ c.slot_of-second.ensures.0 _ _ c.close.ensures
