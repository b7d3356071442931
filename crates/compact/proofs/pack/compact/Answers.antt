-- `compact` meets its contract: what is still to do stays what was to do, and no turn is refused.
use mathlib.Core.Path.{refl}
use Prim.Native.Nat.{◌-◌}
use native.Mathlib.Omega.{arith}
use Rattle.answer.proofs.Opened.{never-refused}
use Rattle.node_children.specs.Kids.{kids}
use Rattle.compact.proofs.Loops.{loop-start, loop-end, turn-same, turn-less}
use Rattle.compact.proofs.pack.compact.Goals as goal

pub loop-i-init : goal.loop-i-init
loop-i-init c =
    let a = c.args in
    let p = c.requires in
    loop-start a.m.now a.given p.0 p.1 p.2 p.3

pub pack_at-next-requires : goal.pack_at-next-requires
pack_at-next-requires c = let v = c.loop-i.invariant in (v.leaves, v.low, omega arith, v.few, v.clean)

pub shape_of-m-in_default : goal.shape_of-m-in_default
shape_of-m-in_default c = never-refused _ c.pack_at-next.result.verdict tt c.pack_at-next.ensures.1.answered c.in_default.is

pub returns-in_default : goal.returns-in_default
returns-in_default c = never-refused _ c.pack_at-next.result.verdict tt c.pack_at-next.ensures.1.answered c.in_default.is

pub overflow_add-i : goal.overflow_add-i
overflow_add-i c = let v = c.loop-i.invariant in omega (arith, v.high, v.few)

pub loop-i-smaller-then-n-list : goal.loop-i-smaller-then-n-list
loop-i-smaller-then-n-list c =
    let a = c.args in
    let l = c.loop-i in
    let d = c.pack_at-next in
    let t = turn-same a.m.now (kids a.given) l.m l.list l.i l.invariant (omega arith) _ d.result.list d.ensures.0 d.ensures.1.list (omega arith) in
    omega (arith, t.1, l.invariant.high)

pub loop-i-preserved-then-n-list : goal.loop-i-preserved-then-n-list
loop-i-preserved-then-n-list c =
    let a = c.args in
    let l = c.loop-i in
    let d = c.pack_at-next in
    let t = turn-same a.m.now (kids a.given) l.m l.list l.i l.invariant (omega arith) _ d.result.list d.ensures.0 d.ensures.1.list (omega arith) in
    t.0

pub loop-i-smaller : goal.loop-i-smaller
loop-i-smaller c =
    let a = c.args in
    let l = c.loop-i in
    let d = c.pack_at-next in
    let t = turn-less a.m.now (kids a.given) l.m l.list l.i l.invariant (omega arith) _ d.result.list d.ensures.0 d.ensures.1.list (λ e. omega arith) in
    omega (arith, t.1, t.0.high)

pub loop-i-preserved : goal.loop-i-preserved
loop-i-preserved c =
    let a = c.args in
    let l = c.loop-i in
    let d = c.pack_at-next in
    let t = turn-less a.m.now (kids a.given) l.m l.list l.i l.invariant (omega arith) _ d.result.list d.ensures.0 d.ensures.1.list (λ e. omega arith) in
    t.0

pub shape_of-m : goal.shape_of-m
shape_of-m c = c.loop-i.invariant.size

pub returns : goal.returns
returns c =
    let a = c.args in
    let l = c.loop-i in
    let e = loop-end a.m.now (kids a.given) l.m l.list l.i l.invariant (omega arith) in
    (e.0, record { answered = refl; list = e.1 })
