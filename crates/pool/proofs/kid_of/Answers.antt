-- `kid_of` meets its contract.
use Rattle.answer.proofs.Opened.{raised}
use native.Mathlib.Omega.{arith}
use Rattle.pool.proofs.Rules.{place_is, kid-refused, kid-found}
use Rattle.pool.proofs.kid_of.Goals as goal

pub kid_at-requires : goal.kid_at-requires
kid_at-requires c = let a = c.args in omega (arith, place_is c.kid_start.result a.m.now a.slot a.i c.kid_start.ensures _ c.in_ok-at.was)

pub returns-in_err-at : goal.returns-in_err-at
returns-in_err-at c = rw (raised c.from_residual.ensures.1) (let a = c.args in kid-refused c.kid_start.result a.m.now a.slot a.i c.kid_start.ensures _ c.in_err-at.was)

pub returns : goal.returns
returns c = let a = c.args in kid-found c.kid_start.result a.m.now a.slot a.i c.kid_start.ensures _ _ c.in_ok-at.was c.kid_at.ensures
