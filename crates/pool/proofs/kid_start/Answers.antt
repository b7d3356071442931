-- `kid_start` meets its contract.
use Rattle.answer.proofs.Opened.{passed}
use native.Mathlib.Omega.{arith}
use Rattle.pool.proofs.Rules.{start_is, place-refused, place_none, place_found}
use Rattle.pool.proofs.kid_start.Goals as goal

pub returns-in_err-at : goal.returns-in_err-at
returns-in_err-at c = rw (passed c.in_err-at.was c.from_residual.ensures.1) (let a = c.args in place-refused c.slot_start.result a.m.now a.slot c.slot_start.ensures _ a.i c.in_err-at.was)

pub returns-then-i-ge-MAX_CHILDREN : goal.returns-then-i-ge-MAX_CHILDREN
returns-then-i-ge-MAX_CHILDREN c = let a = c.args in place_none c.slot_start.result a.m.now a.slot c.slot_start.ensures _ a.i c.in_ok-at.was c.if-i-ge-MAX_CHILDREN.true

pub overflow_add-result : goal.overflow_add-result
overflow_add-result c = let a = c.args in omega (arith, start_is c.slot_start.result a.m.now a.slot c.slot_start.ensures _ c.in_ok-at.was)

pub returns : goal.returns
returns c = let a = c.args in place_found c.slot_start.result a.m.now a.slot c.slot_start.ensures _ a.i c.in_ok-at.was c.if-i-ge-MAX_CHILDREN.false
