-- `close` meets its contract: the slot of the second child given back, which is not refused, or none.
use mathlib.Core.Path.{refl}
use Rattle.std.specs.Prelude.{Ok}
use Rattle.mend_step.proofs.Rules.{given-never, closed-merged, closed-shared}
use Rattle.mend_step.proofs.close.Goals as goal

pub returns-in_err-give_slot : goal.returns-in_err-give_slot
returns-in_err-give_slot c =
    given-never c.args.m.now c.args.second c.requires.1 c.requires.2 c.give_slot.result _ c.give_slot.ensures _ c.in_err-give_slot.was

pub returns-in_ok-give_slot : goal.returns-in_ok-give_slot
returns-in_ok-give_slot c =
    let a = c.args in
    closed-merged a.m.now a.merged a.second a.n a.info (Ok c.became.result) _ c.if-merged.true c.give_slot.result c.give_slot.ensures c.became.ensures

pub returns-else-merged : goal.returns-else-merged
returns-else-merged c =
    let a = c.args in
    closed-shared a.m.now a.merged a.second a.n a.info (Ok c.became-else-merged.result) _ c.if-merged.false refl c.became-else-merged.ensures
