-- `region_start` meets its contract.
use Rattle.answer.proofs.Opened.{passed}
use native.Mathlib.Omega.{arith}
use Rattle.pool.proofs.Rules.{start_is, region-refused, region-found}
use Rattle.pool.proofs.region_start.Goals as goal

pub returns-in_err-at : goal.returns-in_err-at
returns-in_err-at c = rw (passed c.in_err-at.was c.from_residual.ensures.1) (let a = c.args in region-refused c.slot_start.result a.m.now a.slot c.slot_start.ensures _ c.in_err-at.was)

pub overflow_add-result : goal.overflow_add-result
overflow_add-result c = let a = c.args in omega (arith, start_is c.slot_start.result a.m.now a.slot c.slot_start.ensures _ c.in_ok-at.was)

pub returns : goal.returns
returns c = let a = c.args in region-found c.slot_start.result a.m.now a.slot c.slot_start.ensures _ c.in_ok-at.was
