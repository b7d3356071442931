-- `cut` meets its contract. The loop's invariant: [end, e) is out.
use mathlib.Core.Path.{◌≡◌, refl, subst}
use Prim.Native.Nat.{ℕ}
use native.Mathlib.Omega.{arith}
use Rattle.plain.specs.Edit.{cut_out}
use Rattle.edit_promise.specs.Turned.{text_in, Turned}
use Rattle.edit_promise.proofs.Removal.{turned-long, cut-starts}
use Rattle.note_edits.proofs.Steps.{turn-refused, turn-some, turn-left}
use Rattle.note_edits.proofs.cut.Goals as goal

pub loop-end-init : goal.loop-end-init
loop-end-init c = (c.requires.low, omega arith, cut-starts c.args.m.now c.args.s c.args.e c.requires)

pub overflow_sub-end : goal.overflow_sub-end
overflow_sub-end c = c.loop-end.invariant.0

pub returns-in_err-end : goal.returns-in_err-end
returns-in_err-end c = turn-refused c.args.m.now c.args.s c.args.e c.requires c.loop-end.end c.loop-end.invariant.0 c.loop-end.invariant.1 c.loop-end.m c.loop-end.invariant.2 c.loop-end-test.true _ _ c.take_out.ensures _ c.in_err-end.was

pub overflow_sub-end-in-loop-end : goal.overflow_sub-end-in-loop-end
overflow_sub-end-in-loop-end c =
    let x = turn-some c.args.m.now c.args.s c.args.e c.requires c.loop-end.end c.loop-end.invariant.0 c.loop-end.invariant.1 c.loop-end.m c.loop-end.invariant.2 c.loop-end-test.true _ _ c.take_out.ensures _ c.in_ok-end.was in
    omega (arith, x.1)

pub loop-end-smaller : goal.loop-end-smaller
loop-end-smaller c =
    let x = turn-some c.args.m.now c.args.s c.args.e c.requires c.loop-end.end c.loop-end.invariant.0 c.loop-end.invariant.1 c.loop-end.m c.loop-end.invariant.2 c.loop-end-test.true _ _ c.take_out.ensures _ c.in_ok-end.was in
    omega (arith, x.0, x.1)

pub loop-end-preserved : goal.loop-end-preserved
loop-end-preserved c =
    let x = turn-some c.args.m.now c.args.s c.args.e c.requires c.loop-end.end c.loop-end.invariant.0 c.loop-end.invariant.1 c.loop-end.m c.loop-end.invariant.2 c.loop-end-test.true _ _ c.take_out.ensures _ c.in_ok-end.was in (
      omega (arith, x.1, c.loop-end.invariant.0),
      omega (arith, c.loop-end.invariant.1),
      turn-left c.args.m.now c.args.s c.args.e c.requires c.loop-end.end c.loop-end.invariant.0 c.loop-end.invariant.1 c.loop-end.m c.loop-end.invariant.2 c.loop-end-test.true _ _ c.take_out.ensures _ c.in_ok-end.was,
    )

pub shape_of-m : goal.shape_of-m
shape_of-m c = turned-long c.args.m.now _ c.loop-end.m c.requires.holds c.loop-end.invariant.2

pub returns : goal.returns
returns c =
    let z : c.loop-end.end ≡ c.args.s = omega (arith, c.loop-end.invariant.0) in
    (refl, subst (λ (q : ℕ). Turned c.args.m.now (cut_out q c.args.e (text_in c.args.m.now)) c.loop-end.m) z c.loop-end.invariant.2)
