-- `check_list` and `check_node` meet their contracts together: a list calls the check of its children at its own level, and a node that of
-- its list one level down.
use Rattle.std.specs.Prelude.{Some}
use mathlib.Core.Path.{◌≡◌, refl, sym, ap, subst, ◌∙◌}
use Prim.Native.Nat.{ℕ, ◌<◌}
use native.Mathlib.Omega.{arith}
use lib.ListN.{length-set}
use Rattle.pool.proofs.Opened.{child-opened, child-there, info-opened, info-there}
use Rattle.nodes.proofs.Heads.{inside, not-outside, leaf-says, list-says}
use Rattle.child_search.proofs.Sums.{within_none, within_more, within-plus}
use Rattle.tree_check.specs.Met.{KidsFine, kids_to}
use Rattle.tree_check.proofs.Marks.{past-bad, met-bad}
use Rattle.tree_check.proofs.Nodes.{leaf-met, list-met, shape_is}
use Rattle.tree_check.proofs.Children.{kids-none, parts-opened, child-met, turn_more, turn-bad, turn-off}
use Rattle.tree_check.proofs.+check_list_check_node.Goals as goal

pub check_list-loop-i-init : goal.check_list-loop-i-init
check_list-loop-i-init t c = (omega arith, refl, within_none _ c.new-sum.ensures, kids-none _ _ _ _ c.new-sum.ensures)

pub check_list-returns-in_default : goal.check_list-returns-in_default
check_list-returns-in_default t c =
    let a = c.args in
    let p = c.requires in
    let w = c.loop-i in
    let h = inside a.m.now a.slot p.0 in
    let l : w.i < 16 = omega (arith, c.loop-i-test.true, p.1) in
    absurd (child-there a.m.now a.slot w.i h l c.child_of.result c.child_of.ensures _ c.in_default.is)

pub check_list-returns-in_default-info_of : goal.check_list-returns-in_default-info_of
check_list-returns-in_default-info_of t c =
    let a = c.args in
    let p = c.requires in
    let w = c.loop-i in
    let h = inside a.m.now a.slot p.0 in
    let l : w.i < 16 = omega (arith, c.loop-i-test.true, p.1) in
    absurd (info-there a.m.now a.slot w.i h l c.info_of.result c.info_of.ensures _ c.in_default-info_of.is)

pub check_list-returns-in_err-met : goal.check_list-returns-in_err-met
check_list-returns-in_err-met t c =
    let a = c.args in
    let p = c.requires in
    let w = c.loop-i in
    let h = inside a.m.now a.slot p.0 in
    let l : w.i < 16 = omega (arith, c.loop-i-test.true, p.1) in
    let o = parts-opened _ _ _ (child-opened a.m.now a.slot w.i h l c.child_of.result c.child_of.ensures _ c.in-Ok.is) (info-opened a.m.now a.slot w.i h l c.info_of.result c.info_of.ensures _ c.in-Ok-info_of.is) in
    let d = child-met a.m.now w.seen _ c.least_of-least.result a.level _ c.check_node.result _ c.least_of-least.ensures c.in_err-met.was c.check_node.ensures in
    rw c.from_residual.ensures (λ e s f. turn-bad a.m.now _ a.level a.slot w.i l _ o w.seen _ _ _ w.invariant.3 a.n c.loop-i-test.true p.1 e s f d)

pub check_list-returns-then-not-follows : goal.check_list-returns-then-not-follows
check_list-returns-then-not-follows t c =
    let a = c.args in
    let p = c.requires in
    let w = c.loop-i in
    let h = inside a.m.now a.slot p.0 in
    let l : w.i < 16 = omega (arith, c.loop-i-test.true, p.1) in
    let o = parts-opened _ _ _ (child-opened a.m.now a.slot w.i h l c.child_of.result c.child_of.ensures _ c.in-Ok.is) (info-opened a.m.now a.slot w.i h l c.info_of.result c.info_of.ensures _ c.in-Ok-info_of.is) in
    let d = child-met a.m.now w.seen _ c.least_of-least.result a.level _ c.check_node.result _ c.least_of-least.ensures c.in_ok-met.was c.check_node.ensures in
    λ e s f. turn-off a.m.now _ a.level a.slot w.i l _ o w.seen _ _ _ w.invariant.3 a.n c.loop-i-test.true p.1 e s f _ _ _ _ d (sym c.follows.ensures ∙ c.if-not-follows.true)

pub check_list-plus-sum-requires : goal.check_list-plus-sum-requires
check_list-plus-sum-requires t c =
    let w = c.loop-i in
    within_more w.sum w.i 16 (omega (arith, c.loop-i-test.true, c.requires.1)) w.invariant.2

pub check_list-loop-i-preserved : goal.check_list-loop-i-preserved
check_list-loop-i-preserved t c =
    let a = c.args in
    let p = c.requires in
    let w = c.loop-i in
    let h = inside a.m.now a.slot p.0 in
    let l : w.i < 16 = omega (arith, c.loop-i-test.true, p.1) in
    let o = parts-opened _ _ _ (child-opened a.m.now a.slot w.i h l c.child_of.result c.child_of.ensures _ c.in-Ok.is) (info-opened a.m.now a.slot w.i h l c.info_of.result c.info_of.ensures _ c.in-Ok-info_of.is) in
    let d = child-met a.m.now w.seen _ c.least_of-least.result a.level _ c.check_node.result _ c.least_of-least.ensures c.in_ok-met.was c.check_node.ensures in (
      omega (arith, c.loop-i-test.true),
      c.check_node.auto.seen ∙ w.invariant.1,
      within-plus w.sum _ c.plus-sum.result w.i w.invariant.2 c.plus-sum.ensures,
      turn_more a.m.now _ a.level a.slot w.i l _ o w.seen _ _ _ w.invariant.3 _ _ _ _ _ d (sym c.follows.ensures ∙ c.if-not-follows.false) c.plus-sum.ensures _ c.begun-lf.ensures,
    )

pub check_list-returns : goal.check_list-returns
check_list-returns t c =
    let w = c.loop-i in
    let a = c.args in
    let z : w.i ≡ a.n = omega arith in
    subst (λ (j : ℕ). KidsFine a.m.now a.seen.now w.seen a.level (kids_to a.m.now a.slot j) w.sum w.lf w.cr) z w.invariant.3

-- ── `check_node` ──

pub check_node-returns-then-seen-slot : goal.check_node-returns-then-seen-slot
check_node-returns-then-seen-slot t c = λ g f. past-bad _ _ _ _ c.if-seen-slot.true f

pub check_node-returns-then-seen-slot-ne0 : goal.check_node-returns-then-seen-slot-ne0
check_node-returns-then-seen-slot-ne0 t c = λ g f. met-bad _ _ _ _ c.if-seen-slot.false c.if-seen-slot-ne0.true f

pub check_node-check_leaf-requires : goal.check_node-check_leaf-requires
check_node-check_leaf-requires t c =
    let a = c.args in
    let w = shape_is a.m.now a.least a.level a.slot c.shape_of.result _ (c.in_ok-n.was ∙ ap Some c.in-Leaf.is) c.shape_of.ensures in
    (not-outside a.m.now a.slot (leaf-says a.m.now a.slot w.leaf).0, w.few)

pub check_node-overflow_sub-level : goal.check_node-overflow_sub-level
check_node-overflow_sub-level t c =
    let a = c.args in
    let w = shape_is a.m.now a.least a.level a.slot c.shape_of.result _ (c.in_ok-n.was ∙ ap Some c.in-List.is) c.shape_of.ensures in
    omega (arith, w.height)

pub check_node-check_list-requires : goal.check_node-check_list-requires
check_node-check_list-requires t c =
    let a = c.args in
    let w = shape_is a.m.now a.least a.level a.slot c.shape_of.result _ (c.in_ok-n.was ∙ ap Some c.in-List.is) c.shape_of.ensures in
    (omega (arith, w.height), (not-outside a.m.now a.slot (list-says a.m.now a.slot w.list).0, w.few))

pub check_node-returns-in-Leaf : goal.check_node-returns-in-Leaf
check_node-returns-in-Leaf t c =
    let a = c.args in
    let w = shape_is a.m.now a.least a.level a.slot c.shape_of.result _ (c.in_ok-n.was ∙ ap Some c.in-Leaf.is) c.shape_of.ensures in
    leaf-met a.m.now a.seen.now a.least a.level a.slot _ c.if-seen-slot.false c.if-seen-slot-ne0.false w c.check_leaf.result c.check_leaf.ensures

pub check_node-shape_of-seen-in-List : goal.check_node-shape_of-seen-in-List
check_node-shape_of-seen-in-List t c =
    let a = c.args in
    c.check_list.auto.seen ∙ length-set a.seen.now a.slot 1

pub check_node-returns-in-List : goal.check_node-returns-in-List
check_node-returns-in-List t c =
    let a = c.args in
    let w = shape_is a.m.now a.least a.level a.slot c.shape_of.result _ (c.in_ok-n.was ∙ ap Some c.in-List.is) c.shape_of.ensures in
    list-met a.m.now a.seen.now a.least a.level a.slot _ c.if-seen-slot.false c.if-seen-slot-ne0.false c.check_list.new.seen w c.check_list.result c.check_list.ensures
