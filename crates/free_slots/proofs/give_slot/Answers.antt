-- `give_slot` meets its contract.
use Rattle.answer.proofs.Opened.{passed}
use mathlib.Core.Path.{refl}
use native.Mathlib.Omega.{arith}
use Rattle.pool.proofs.Rules.{wrote-refused}
use Rattle.free_slots.proofs.Rules.{given-far, give-not, give-done}
use Rattle.free_slots.proofs.give_slot.Goals as goal

pub returns-then-slot-gt-LAST_SLOT : goal.returns-then-slot-gt-LAST_SLOT
returns-then-slot-gt-LAST_SLOT c = let a = c.args in wrote-refused _ _ _ 2 (given-far a.m.now a.slot (omega arith)) refl

pub returns-in_err-set_free : goal.returns-in_err-set_free
returns-in_err-set_free c = rw (passed c.in_err-set_free.was c.from_residual.ensures.1) (
    let a = c.args in
    give-not a.m.now a.slot (omega arith) _ _ _ c.set_free.ensures _ c.in_err-set_free.was)

pub returns : goal.returns
returns c =
    let a = c.args in
    give-done a.m.now a.slot (omega arith) _ _ _ c.set_free.ensures c.in_ok-set_free.was c.first_free-next.ensures.0 _ _ c.set_first_free.ensures
