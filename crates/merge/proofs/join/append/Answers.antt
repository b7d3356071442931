-- `append` meets its contract. Each turn puts the next child behind the others, and none is refused.
use mathlib.Core.Path.{◌≡◌, refl, sym, ap, ◌∙◌}
use mathlib.Core.List.{List, ◌++◌}
use Prim.Native.Nat.{ℕ, ◌+◌, ◌-◌}
use native.Mathlib.Omega.{arith}
use lib.ListN.{take, length-map}
use lib.Seq.{get_or-take}
use Rattle.answer.proofs.Opened.{never-refused}
use Rattle.plain.specs.Outcome.{mapped}
use Rattle.pool.specs.declared.Kid.{Kid}
use Rattle.pool.specs.Slot.{no_kid}
use Rattle.node_children.specs.Kids.{kids, list_of}
use Rattle.node_children.proofs.Lists.{kids-length, append-start, append-turn, whole}
use Rattle.node_children.proofs.Rules.{pushed-done}
use Rattle.merge.proofs.JoinedLists.{push-holds}
use Rattle.merge.proofs.join.append.Goals as goal

pub loop-i-init : goal.loop-i-init
loop-i-init c = (omega arith, c.well_formed.1.0.1.1.1.0.1.0.1, append-start c.args.left c.args.right 0 c.requires.1)

pub offset_bounds-right-i : goal.offset_bounds-right-i
offset_bounds-right-i c = omega arith

pub bounds-right-i : goal.bounds-right-i
bounds-right-i c = omega arith

pub returns-in_default : goal.returns-in_default
returns-in_default c =
    let l = c.loop-i in
    never-refused _ c.push-longer.result.verdict tt (c.push-longer.ensures.answered ∙ ap (mapped (λ x. tt)) (pushed-done l.list _ (omega (arith, l.invariant.2.len)))) c.in_default.is

pub overflow_add-i : goal.overflow_add-i
overflow_add-i c = omega arith

pub loop-i-smaller : goal.loop-i-smaller
loop-i-smaller c = omega arith

pub loop-i-preserved : goal.loop-i-preserved
loop-i-preserved c =
    let l = c.loop-i in
    let a = c.args in
    let w = kids-length a.right (omega arith) l.invariant.1 in
    let g = sym (get_or-take a.right.len a.right.arr l.i no_kid (omega arith)) in
    let p = push-holds l.list _ c.push-longer.result (omega (arith, l.invariant.2.len)) l.invariant.2.clean c.push-longer.ensures in
    (omega arith, l.invariant.1, append-turn (kids a.left) (kids a.right) 0 l.i a.left.len l.list c.push-longer.result.list _ (omega arith) (omega arith) g l.invariant.2 p)

pub returns : goal.returns
returns c =
    let l = c.loop-i in
    let a = c.args in
    let e : l.i ≡ a.right.len = omega arith in
    record { answered = refl; list = l.invariant.2.is ∙ ap (λ (n : ℕ). list_of (kids a.left ++ take n (kids a.right))) e ∙ ap (λ (ks : List Kid). list_of (kids a.left ++ ks)) (whole a.right) }
