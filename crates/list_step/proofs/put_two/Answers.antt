-- `put_two` meets its contract: no such slot, no such child, or the child added.
use Rattle.answer.proofs.Opened.{raised}
use mathlib.Core.Path.{refl}
use native.Mathlib.Omega.{arith}
use Rattle.answer.specs.declared.Refusal.TheVariants as Refusal·case
use Rattle.list_step.proofs.Rules.{step-refused, step-as, family-refused, family-value, family-ready}
use Rattle.list_step.proofs.Stored.{two_past, two-by}
use Rattle.list_step.proofs.put_two.Goals as goal

pub returns-then-right-gt-LAST_SLOT : goal.returns-then-right-gt-LAST_SLOT
returns-then-right-gt-LAST_SLOT c =
    let a = c.args in
    step-refused _ a.m.now Refusal·case.Memory _ (two_past a.m.now a.slot a.idx a.info a.right a.other c.if-right-gt-LAST_SLOT.true) refl

pub overflow_add-idx : goal.overflow_add-idx
overflow_add-idx c =
    let a = c.args in
    let f = family-ready a.m.now a.slot a.idx a.info c.recounted-family.result c.recounted-family.ensures c.in_ok-family.was in
    omega (arith, f.1, f.2)

pub add-requires : goal.add-requires
add-requires c =
    let a = c.args in
    family-ready a.m.now a.slot a.idx a.info c.recounted-family.result c.recounted-family.ensures c.in_ok-family.was

pub returns-in_err-family : goal.returns-in_err-family
returns-in_err-family c = rw (raised c.from_residual.ensures.1) (
    let a = c.args in
    step-refused _ a.m.now _ _ (two-by a.m.now a.slot a.idx a.info a.right a.other _ c.if-right-gt-LAST_SLOT.false (family-refused a.m.now a.slot a.idx a.info c.recounted-family.result c.recounted-family.ensures _ c.in_err-family.was)) refl)

pub returns : goal.returns
returns c =
    let a = c.args in
    step-as _ a.m.now _ _ _ (two-by a.m.now a.slot a.idx a.info a.right a.other _ c.if-right-gt-LAST_SLOT.false (family-value a.m.now a.slot a.idx a.info c.recounted-family.result c.recounted-family.ensures c.in_ok-family.was)) c.add.ensures
