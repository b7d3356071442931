-- `mend` meets its contract: no such children, or the two joined.
use Rattle.answer.proofs.Opened.{raised}
use mathlib.Core.Path.{refl}
use Rattle.mend_step.proofs.Rules.{pair-refused, pair-value, pair-ready, mended-by}
use Rattle.list_step.proofs.Rules.{step-refused, step-as}
use Rattle.mend_step.proofs.mend.Goals as goal

pub join-requires : goal.join-requires
join-requires c =
    let a = c.args in
    pair-ready a.m.now a.slot a.idx c.paired-found.result c.paired-found.ensures c.in_ok-found.was

pub returns-in_err-found : goal.returns-in_err-found
returns-in_err-found c = rw (raised c.from_residual.ensures.1) (
    let a = c.args in
    step-refused _ a.m.now _ _ (mended-by a.m.now a.slot a.idx a.info _ (pair-refused a.m.now a.slot a.idx c.paired-found.result c.paired-found.ensures _ c.in_err-found.was)) refl)

pub returns : goal.returns
returns c =
    let a = c.args in
    step-as _ a.m.now _ _ _ (mended-by a.m.now a.slot a.idx a.info _ (pair-value a.m.now a.slot a.idx c.paired-found.result c.paired-found.ensures c.in_ok-found.was)) c.join.ensures
