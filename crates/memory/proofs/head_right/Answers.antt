-- `head_right` meets its contract: part by part.
use mathlib.Core.Path.{sym, ◌∙◌}
use native.Mathlib.Omega.{arith}
use borrow.Author.Tests.{not-true, not-false}
use Rattle.memory.proofs.Tests.{head-untold, head-large, head-marks}
use Rattle.memory.proofs.head_right.Goals as goal

pub returns-then-not-tells : goal.returns-then-not-tells
returns-then-not-tells c =
    let a = c.args in
    let r = c.root-root in
    head-untold a.m.now a.n a.sum r.result r.ensures (sym c.tells.ensures ∙ not-true _ c.if-not-tells.true-raw)

pub returns-then-most-sum : goal.returns-then-most-sum
returns-then-most-sum c =
    let a = c.args in
    let r = c.root-root in
    head-large a.m.now a.n a.sum r.result r.ensures (sym c.tells.ensures ∙ not-false _ c.if-not-tells.false-raw) (omega arith)

pub returns : goal.returns
returns c =
    let a = c.args in
    let r = c.root-root in
    head-marks a.m.now a.n a.sum r.result r.ensures (sym c.tells.ensures ∙ not-false _ c.if-not-tells.false-raw) (omega arith) c.marks_right.result c.marks_right.ensures
