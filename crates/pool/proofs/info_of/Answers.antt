-- `info_of` meets its contract.
use Rattle.answer.proofs.Opened.{raised}
use native.Mathlib.Omega.{arith}
use Rattle.pool.proofs.Rules.{place_is, info-refused, info-found}
use Rattle.pool.proofs.info_of.Goals as goal

pub info_at-requires : goal.info_at-requires
info_at-requires c =
    let a = c.args in
    let k = c.kid_start in
    omega (arith, place_is k.result a.m.now a.slot a.i k.ensures _ c.in_ok-at.was)

pub returns-in_err-at : goal.returns-in_err-at
returns-in_err-at c = rw (raised c.from_residual.ensures.1) (
    let a = c.args in
    let k = c.kid_start in
    info-refused k.result a.m.now a.slot a.i k.ensures _ c.in_err-at.was)

pub returns : goal.returns
returns c =
    let a = c.args in
    let k = c.kid_start in
    info-found k.result a.m.now a.slot a.i k.ensures _ _ c.in_ok-at.was c.info_at.ensures
