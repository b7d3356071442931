-- `level` meets its contract. The two lists keep their children between them, in order, whichever way one goes at a turn; none is refused.
use mathlib.Core.Path.{refl, ◌∙◌}
use mathlib.Core.List.{◌++◌}
use Prim.Native.Nat.{◌+◌, ◌-◌}
use native.Mathlib.Omega.{arith}
use Rattle.answer.proofs.Opened.{never-refused}
use Rattle.node_children.specs.Kids.{kids}
use Rattle.node_children.proofs.Halves.{Joined, shared}
use Rattle.child_split.proofs.Moves.{moved-right, moved-left}
use Rattle.child_split.proofs.level.Goals as goal

pub loop-right-init : goal.loop-right-init
loop-right-init c =
    let p = c.requires in
    record { left-len = p.2; right-len = p.3; left-clean = p.0; right-clean = p.1; both = refl; same = refl }

pub to_right-two-requires : goal.to_right-two-requires
to_right-two-requires c =
    let j = c.loop-right.invariant in
    (j.left-clean, j.right-clean, omega (arith, j.both, j.right-len), j.left-len, omega (arith, j.both, j.left-len))

pub returns-in_default : goal.returns-in_default
returns-in_default c = never-refused _ c.to_right-two.result.verdict tt c.to_right-two.ensures.answered c.in_default.is

pub loop-right-smaller : goal.loop-right-smaller
loop-right-smaller c =
    let l = c.loop-right in
    let j = l.invariant in
    let i = moved-right l.left l.right _ _ j c.to_right-two.result (omega (arith, j.both, j.right-len)) (omega (arith, j.both, j.left-len)) c.to_right-two.ensures in
    omega (arith, i.1)

pub loop-right-preserved : goal.loop-right-preserved
loop-right-preserved c =
    let l = c.loop-right in
    let j = l.invariant in
    (moved-right l.left l.right _ _ j c.to_right-two.result (omega (arith, j.both, j.right-len)) (omega (arith, j.both, j.left-len)) c.to_right-two.ensures).0

pub loop-right-2-init : goal.loop-right-2-init
loop-right-2-init c =
    let j = c.loop-right.invariant in
    (omega arith, record { left-len = j.left-len; right-len = j.right-len; left-clean = j.left-clean; right-clean = j.right-clean; both = refl; same = refl })

pub to_left-two-requires : goal.to_left-two-requires
to_left-two-requires c =
    let j = c.loop-right-2.invariant.1 in
    (j.left-clean, j.right-clean, omega arith, j.right-len, omega (arith, j.both, j.right-len))

pub returns-in_default-may : goal.returns-in_default-may
returns-in_default-may c = never-refused _ c.to_left-two.result.verdict tt c.to_left-two.ensures.answered c.in_default-may.is

pub loop-right-2-smaller : goal.loop-right-2-smaller
loop-right-2-smaller c =
    let l = c.loop-right-2 in
    let j = l.invariant.1 in
    let i = moved-left l.left l.right _ _ j c.to_left-two.result (omega arith) (omega (arith, j.both, j.right-len)) c.to_left-two.ensures in
    omega (arith, i.1)

pub loop-right-2-preserved : goal.loop-right-2-preserved
loop-right-2-preserved c =
    let l = c.loop-right-2 in
    let j = l.invariant.1 in
    let i = moved-left l.left l.right _ _ j c.to_left-two.result (omega arith) (omega (arith, j.both, j.right-len)) c.to_left-two.ensures in
    (omega (arith, i.1), i.0)

pub returns : goal.returns
returns c =
    let m = c.loop-right-2 in
    let l = c.loop-right in
    let a = c.args in
    let j : Joined m.left m.right (a.list.len + a.other.len) (kids a.list ++ kids a.other) =
    record {
      left-len = m.invariant.1.left-len;
      right-len = m.invariant.1.right-len;
      left-clean = m.invariant.1.left-clean;
      right-clean = m.invariant.1.right-clean;
      both = m.invariant.1.both ∙ l.invariant.both;
      same = m.invariant.1.same ∙ l.invariant.same;
    } in
    let h = shared m.left m.right _ _ j (omega arith) in
    record { answered = refl; left-list = h.0; right-list = h.1 }
