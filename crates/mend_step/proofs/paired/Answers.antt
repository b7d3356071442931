-- `paired` meets its contract: the list loaded, and a child behind the one at the index.
use native.Mathlib.Omega.{arith}
use Rattle.mend_step.proofs.Rules.{load-refused, none-behind, one-behind}
use Rattle.mend_step.proofs.paired.Goals as goal

pub returns-in_default : goal.returns-in_default
returns-in_default c =
    let a = c.args in
    load-refused a.m.now a.slot a.idx _ _ c.load-found.ensures c.in_default.is

pub returns-then-n-idx : goal.returns-then-n-idx
returns-then-n-idx c =
    let a = c.args in
    none-behind a.m.now a.slot a.idx c.load-found.result c.load-found.ensures c.in-Ok.is _ (omega (arith, c.if-n-idx.true)) c.new.ensures

pub returns-then-n-idx-2 : goal.returns-then-n-idx-2
returns-then-n-idx-2 c =
    let a = c.args in
    none-behind a.m.now a.slot a.idx c.load-found.result c.load-found.ensures c.in-Ok.is _ c.if-n-idx-2.true c.new-then-n-idx-2.ensures

pub returns : goal.returns
returns c =
    let a = c.args in
    one-behind a.m.now a.slot a.idx c.load-found.result c.load-found.ensures c.in-Ok.is c.if-n-idx-2.false
