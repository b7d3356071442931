-- `str_ends::last_line` meets its contract. The loop's invariant: no break, and no LF, stands behind the index.
use mathlib.Core.Path.{◌∙◌}
use Prim.Native.Nat.{◌+◌, ◌-◌}
use mathlib.Core.Path.{◌≡◌}
use native.Mathlib.Omega.{arith}
use Rattle.str_utils.proofs.Laws.{no-break-end, no-break-down, last-lf, last-cr, last_none}
use Rattle.str_ends.proofs.last_line.Goals as goal

pub loop-i-init : goal.loop-i-init
loop-i-init c = no-break-end c.args.text.now

pub returns-then-b-eq10 : goal.returns-then-b-eq10
returns-then-b-eq10 c =
    let n = c.loop-i.i in
    let e : n - 1 + 1 ≡ n = omega arith in
    e ∙ last-lf c.args.text.now n (n - 1) (omega arith) (omega arith) c.loop-i.invariant c.if-b-eq10.true

pub returns-then-b-eq13 : goal.returns-then-b-eq13
returns-then-b-eq13 c =
    let n = c.loop-i.i in
    let e : n - 1 + 1 ≡ n = omega arith in
    e ∙ last-cr c.args.text.now n (n - 1) (omega arith) (omega arith) c.loop-i.invariant c.if-b-eq13.true

pub loop-i-preserved : goal.loop-i-preserved
loop-i-preserved c =
    let n = c.loop-i.i in
    no-break-down c.args.text.now n (n - 1) (omega arith) (omega arith) c.loop-i.invariant c.if-b-eq10.false c.if-b-eq13.false

pub returns : goal.returns
returns c = last_none c.args.text.now c.loop-i.i (omega arith) c.loop-i.invariant
