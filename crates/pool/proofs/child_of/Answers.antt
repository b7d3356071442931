-- `child_of` meets its contract.
use Rattle.answer.proofs.Opened.{passed}
use native.Mathlib.Omega.{arith}
use Rattle.pool.proofs.Rules.{place_is, child-refused, child-found}
use Rattle.pool.proofs.child_of.Goals as goal

pub returns-in_err-at : goal.returns-in_err-at
returns-in_err-at c = rw (passed c.in_err-at.was c.from_residual.ensures.1) (
    let a = c.args in
    let k = c.kid_start in
    child-refused k.result a.m.now a.slot a.i k.ensures _ c.in_err-at.was)

pub read_u32-requires : goal.read_u32-requires
read_u32-requires c =
    let a = c.args in
    let k = c.kid_start in
    omega (arith, place_is k.result a.m.now a.slot a.i k.ensures _ c.in_ok-at.was)

pub returns : goal.returns
returns c =
    let a = c.args in
    let k = c.kid_start in
    child-found k.result a.m.now a.slot a.i k.ensures _ _ c.in_ok-at.was c.read_u32.ensures
