-- `free_slots` meets its contract: each turn makes the next slot free.
use mathlib.Core.Path.{refl, ap, ◌∙◌}
use Prim.Native.Nat.{◌+◌}
use native.Mathlib.Omega.{arith}
use lib.ListN.{length}
use Rattle.pool.proofs.Slots.{head-size}
use Rattle.opening.proofs.Laid.{head-set, head_never, free-turn, free-end}
use Rattle.opening.proofs.free_slots.Goals as goal

pub loop-i-init : goal.loop-i-init
loop-i-init c = (refl, refl)

pub overflow_cast-i : goal.overflow_cast-i
overflow_cast-i c = omega arith

pub returns-in_err-set_free : goal.returns-in_err-set_free
returns-in_err-set_free c =
    let l = c.loop-i in
    head_never l.m l.i 0 0 0 (l.i + 1) c.set_free.result _ c.set_free.ensures (omega arith) (omega arith) _ c.in_err-set_free.was

pub loop-i-preserved : goal.loop-i-preserved
loop-i-preserved c =
    let l = c.loop-i in
    let a = c.args in
    let e = head-set l.m l.i 0 0 0 (l.i + 1) c.set_free.result _ c.set_free.ensures (omega arith) (omega arith) in
    (ap length e ∙ head-size l.m l.i 0 0 (l.i + 1) (omega arith) ∙ l.invariant.0, free-turn l.m _ l.i a.n (omega arith) e ∙ l.invariant.1)

pub shape_of-m : goal.shape_of-m
shape_of-m c = c.loop-i.invariant.0

pub returns : goal.returns
returns c = let l = c.loop-i in (refl, free-end l.m l.i c.args.n (omega arith) ∙ l.invariant.1)
