-- `run_right` meets its contract: all are free, or the marks passed are right.
use mathlib.Core.Path.{◌≡◌, sym, ◌∙◌}
use mathlib.Core.Bool.{true}
use Prim.Native.Nat.{◌+◌, ◌≤◌}
use native.Mathlib.Omega.{arith}
use borrow.Author.Count.{below_more}
use borrow.Author.Tests.{not-true, not-false}
use Rattle.memory.specs.Checks.{mark_right}
use Rattle.memory.proofs.Below.{below-run, below-not}
use Rattle.memory.proofs.Tests.{mark-free}
use Rattle.memory.proofs.run_right.Goals as goal

pub returns-then-run_free : goal.returns-then-run_free
returns-then-run_free c =
    let a = c.args in
    below-run (mark_right a.m.now a.chars) a.k 8 (λ i h g. sym (mark-free a.m.now a.chars i (c.run_free.ensures c.if-run_free.true i h g)))

pub loop-j-init : goal.loop-j-init
loop-j-init c = λ i h g. absurd (omega arith)

pub returns-then-not-mark_right : goal.returns-then-not-mark_right
returns-then-not-mark_right c =
    let a = c.args in
    sym (below-not (mark_right a.m.now a.chars) (a.k + 8) c.loop-j.j (omega arith) (sym c.mark_right.ensures ∙ not-true _ c.if-not-mark_right.true-raw))

pub loop-j-preserved : goal.loop-j-preserved
loop-j-preserved c =
    let a = c.args in
    let l = c.loop-j in
    λ i h g. below_more (λ i. a.k ≤ i → mark_right a.m.now a.chars i ≡ true) l.j (λ i g h. l.invariant i h g) (λ h. sym c.mark_right.ensures ∙ not-false _ c.if-not-mark_right.false-raw) i g h

pub returns : goal.returns
returns c =
    let a = c.args in
    below-run (mark_right a.m.now a.chars) a.k 8 (λ i h g. c.loop-j.invariant i h (omega arith))
