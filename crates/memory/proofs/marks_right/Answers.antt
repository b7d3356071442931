-- `marks_right` meets its contract: the marks of the runs passed are right.
use borrow.Author.Tests.{not-true, not-false}
use mathlib.Core.Path.{◌≡◌, sym, ap, subst, ◌∙◌}
use mathlib.Core.Bool.{Bool, true, ◌&&◌}
use Prim.Native.Nat.{ℕ, ◌+◌, ◌*◌}
use native.Mathlib.Omega.{arith}
use Rattle.memory.specs.Formed.{all_below}
use Rattle.memory.specs.Checks.{mark_right}
use Rattle.memory.proofs.Below.{below_none, below_less}
use Rattle.memory.proofs.marks_right.Goals as goal

pub loop-i-init : goal.loop-i-init
loop-i-init c = below_none (mark_right c.args.m.now c.args.chars)

pub returns-then-not-run_right : goal.returns-then-not-run_right
returns-then-not-run_right c =
    let a = c.args in
    let f = mark_right a.m.now a.chars in
    let i = c.loop-i.i in
    sym (below_less f (8 * i + 8) 256 (omega arith) (sym c.run_right.ensures ∙ ap (λ (t : Bool). t && all_below (8 * i) f) (not-true c.run_right.result c.if-not-run_right.true-raw)))

pub loop-i-preserved : goal.loop-i-preserved
loop-i-preserved c =
    let a = c.args in
    let f = mark_right a.m.now a.chars in
    let l = c.loop-i in
    let i = l.i in
    let e : 8 * i + 8 ≡ 8 * (i + 1) = omega arith in
    ap (λ (j : ℕ). all_below j f) (sym e) ∙ sym c.run_right.ensures ∙ ap (λ (t : Bool). t && all_below (8 * i) f) (not-false c.run_right.result c.if-not-run_right.false-raw) ∙ l.invariant

pub returns : goal.returns
returns c =
    let a = c.args in
    let e : 8 * c.loop-i.i ≡ 256 = omega arith in
    sym (subst (λ (k : ℕ). all_below k (mark_right a.m.now a.chars) ≡ true) e c.loop-i.invariant)
