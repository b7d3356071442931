-- `join_small` meets its contract: the child put into its list, and joined there.
use native.Mathlib.Omega.{arith}
use Rattle.answer.proofs.Opened.{raised}
use Rattle.rise.proofs.Rules.{mend-done, small-other, small-refused}
use Rattle.rise.proofs.join_small.Goals as goal

pub returns-in-Same : goal.returns-in-Same
returns-in-Same c =
    let a = c.args in
    let w = c.put_one in
    mend-done a.m.now a.slot a.idx a.info w.result _ w.ensures _ _ (omega (arith, c.saturating_sub.ensures)) _ _ c.mend.ensures _ c.in_ok-made.was c.in-Same.is

pub returns-in_default : goal.returns-in_default
returns-in_default c =
    let a = c.args in
    let w = c.put_one in
    small-other a.m.now a.slot a.idx a.info w.result _ w.ensures _ c.in_ok-made.was c.in_default.not-Same c.in_default.not-Small

pub returns-in_err-made : goal.returns-in_err-made
returns-in_err-made c = rw (raised c.from_residual.ensures.1) (
    let a = c.args in
    let w = c.put_one in
    small-refused a.m.now a.slot a.idx a.info w.result _ w.ensures _ c.in_err-made.was)
