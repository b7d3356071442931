-- `take_slot` meets its contract.
use Rattle.std.specs.Prelude.{Ok}
use Rattle.answer.proofs.Opened.{raised}
use mathlib.Core.Path.{refl, ap, ◌∙◌}
use native.Mathlib.Omega.{arith}
use Rattle.free_slots.proofs.Rules.{next_small, head-free, head-other, refused-not, take-not, first-never, take_done}
use Rattle.free_slots.proofs.take_slot.Goals as goal

-- the next slot is a number of four bytes
pub overflow_cast-next : goal.overflow_cast-next
overflow_cast-next c =
    let a = c.args in
    let s = c.first_free-slot.result in
    omega (arith, (head-free a.m.now s c.head_of.result c.head_of.ensures _ (c.in_ok-next.was ∙ ap Ok c.in-Free.is)).2, next_small a.m.now (λ i. omega (arith, c.slice_known-1.given i)) s)

pub returns-in_err-next : goal.returns-in_err-next
returns-in_err-next c = rw (raised c.from_residual.ensures.1) (
    let a = c.args in
    let f = refused-not a.m.now c.first_free-slot.result c.head_of.result c.head_of.ensures _ c.in_err-next.was in
    take-not a.m.now c.first_free-slot.result c.first_free-slot.ensures.0 c.head_of.result c.head_of.ensures f.0 _ f.1)

pub returns-in_err-set_first_free : goal.returns-in_err-set_first_free
returns-in_err-set_first_free c =
    let a = c.args in
    first-never a.m.now c.first_free-slot.result c.first_free-slot.ensures.0 c.head_of.result c.head_of.ensures _ (c.in_ok-next.was ∙ ap Ok c.in-Free.is) _ _ c.set_first_free.ensures _ c.in_err-set_first_free.was

pub returns : goal.returns
returns c =
    let a = c.args in
    take_done a.m.now c.first_free-slot.result c.first_free-slot.ensures.0 c.head_of.result c.head_of.ensures _ (c.in_ok-next.was ∙ ap Ok c.in-Free.is) _ _ c.set_first_free.ensures

pub returns-in_default : goal.returns-in_default
returns-in_default c =
    let s = c.first_free-slot in
    take-not c.args.m.now s.result s.ensures.0 c.head_of.result c.head_of.ensures (head-other c.args.m.now s.result _ c.head_of.ensures _ c.in_ok-next.was c.in_default.not-Free) _ refl
