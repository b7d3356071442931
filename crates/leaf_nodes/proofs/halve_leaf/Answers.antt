-- `halve_leaf` meets its contract: two slots, a leaf in the first, or the call is refused.
use Rattle.answer.proofs.Opened.{raised}
use mathlib.Core.Path.{refl}
use Rattle.nodes.proofs.Heads.{not-outside, leaf-says}
use Rattle.nodes.proofs.Copied.{halve-same, halve-outside, halve-none, halve-refused, halve-leaf}
use Rattle.nodes.proofs.Laid.{region-outside, region-inside}
use Rattle.leaf_nodes.proofs.Opened.{leaf-found, leaf-missed}
use Rattle.leaf_nodes.proofs.halve_leaf.Goals as goal

pub returns-then-slot-right : goal.returns-then-slot-right
returns-then-slot-right c =
    let a = c.args in
    halve-refused a.m.now a.slot a.at a.piece.now a.right _ (halve-same a.m.now a.slot a.at a.piece.now a.right c.if-slot-right.true) refl

pub halve_at-requires : goal.halve_at-requires
halve_at-requires c =
    let a = c.args in
    let h = leaf-found a.m.now a.slot c.leaf_of.result c.leaf_of.ensures _ c.in_ok-n.was in
    (not-outside a.m.now a.slot (leaf-says a.m.now a.slot h.0).0, region-inside c.region_start.result a.m.now a.right _ c.region_start.ensures c.in_ok-region_start.was)

pub returns-in_err-region_start : goal.returns-in_err-region_start
returns-in_err-region_start c = rw (raised c.from_residual.ensures.1) (
    let a = c.args in
    let o = region-outside c.region_start.result a.m.now a.right _ c.region_start.ensures c.in_err-region_start.was in
    halve-refused a.m.now a.slot a.at a.piece.now a.right _ (halve-outside a.m.now a.slot a.at a.piece.now a.right o.0) o.1)

pub returns-in_err-n : goal.returns-in_err-n
returns-in_err-n c = rw (raised c.from_residual-in_err-n.ensures.1) (
    let a = c.args in
    let o = leaf-missed a.m.now a.slot c.leaf_of.result c.leaf_of.ensures _ c.in_err-n.was in
    halve-refused a.m.now a.slot a.at a.piece.now a.right _ (halve-none a.m.now a.slot a.at a.piece.now a.right o.0) o.1)

pub returns : goal.returns
returns c =
    let a = c.args in
    let h = leaf-found a.m.now a.slot c.leaf_of.result c.leaf_of.ensures _ c.in_ok-n.was in
    halve-leaf a.m.now a.slot a.at a.piece.now a.right _ _ _ h.0 h.1 (region-inside c.region_start.result a.m.now a.right _ c.region_start.ensures c.in_ok-region_start.was) c.if-slot-right.false c.halve_at.ensures
