-- `head_of` meets its contract.
use Rattle.answer.proofs.Opened.{raised}
use native.Mathlib.Omega.{arith}
use Rattle.pool.proofs.Rules.{start_is, head-refused, head-found}
use Rattle.pool.proofs.head_of.Goals as goal

pub head_at-requires : goal.head_at-requires
head_at-requires c = let a = c.args in omega (arith, start_is c.slot_start.result a.m.now a.slot c.slot_start.ensures _ c.in_ok-at.was)

pub returns-in_err-at : goal.returns-in_err-at
returns-in_err-at c = rw (raised c.from_residual.ensures.1) (let a = c.args in head-refused c.slot_start.result a.m.now a.slot c.slot_start.ensures _ c.in_err-at.was)

pub returns : goal.returns
returns c = let a = c.args in head-found c.slot_start.result a.m.now a.slot c.slot_start.ensures c.in_ok-at.at c.head_at.result c.in_ok-at.was c.head_at.ensures
