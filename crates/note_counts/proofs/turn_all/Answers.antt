-- `turn_all` meets its contract.
use mathlib.Core.Path.{refl}
use native.Mathlib.Omega.{arith}
use Rattle.answer.proofs.Opened.{never-refused}
use Rattle.note_counts.proofs.Several.{turning-start, turning-next, turning-end, still, each_within}
use Rattle.note_counts.proofs.turn_all.Goals as goal

pub loop-k-init : goal.loop-k-init
loop-k-init c = (omega arith, turning-start _ _)

pub turn_at-requires : goal.turn_at-requires
turn_at-requires c =
    let L = c.loop-k in
    let t = L.invariant.1 in
    (c.requires.0, omega arith, omega (arith, still _ _ L.k _ t (omega arith), each_within _ _ c.requires.1 L.k (omega (arith, t.long))))

pub returns-in_err-turn_at : goal.returns-in_err-turn_at
returns-in_err-turn_at c = never-refused _ _ tt c.turn_at.ensures.0 c.in_err-turn_at.was

pub loop-k-preserved : goal.loop-k-preserved
loop-k-preserved c =
    let L = c.loop-k in
    let t = L.invariant.1 in
    let n = turning-next _ _ L.k _ t (omega arith) _ c.turn_at.ensures.1 in
    (omega (arith, n.long, t.long), n)

pub shape_of-indices : goal.shape_of-indices
shape_of-indices c = c.loop-k.invariant.1.long

pub returns : goal.returns
returns c = (refl, turning-end _ _ _ _ c.loop-k.invariant.1 (omega arith))
