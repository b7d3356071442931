-- `text_at` meets its contract: the part of the memory that the head says, or none.
use Rattle.std.specs.Prelude.{Ok}
use mathlib.Core.Path.{refl, ap, ◌∙◌}
use Prim.Native.Nat.{◌+◌}
use native.Mathlib.Omega.{arith}
use lib.ListN.{length-take, length-drop}
use Rattle.pool.specs.Slot.{slot_start}
use Rattle.pool.proofs.Opened.{region-opened}
use Rattle.nodes.proofs.Laid.{region-there}
use Rattle.nodes.proofs.Heads.{head-leaf, head-none, head-no-leaf, leaf-says}
use Rattle.leaf_parts.proofs.Found.{no_text, text-there}
use Rattle.leaf_parts.proofs.text_at.Goals as goal

pub returns-in_default : goal.returns-in_default
returns-in_default c =
    let a = c.args in
    let e = no_text a.m.now a.slot (head-none a.m.now a.slot _ c.head_of.ensures _ c.in_default.is).0 in
    (e.0, e.1, record { from = 0; block = refl; offset = omega arith; inside = omega arith })

pub returns-in_default-head : goal.returns-in_default-head
returns-in_default-head c =
    let a = c.args in
    let e = no_text a.m.now a.slot (head-no-leaf a.m.now a.slot _ c.head_of.ensures _ c.in-Ok.is c.in_default-head.not-Leaf) in
    (e.0, e.1, record { from = 0; block = refl; offset = omega arith; inside = omega arith })

pub returns-in_default-region_start : goal.returns-in_default-region_start
returns-in_default-region_start c =
    let a = c.args in
    let h = head-leaf a.m.now a.slot c.head_of.result c.head_of.ensures _ (c.in-Ok.is ∙ ap Ok c.in-Leaf.is) in
    absurd (region-there c.region_start.result a.m.now a.slot _ c.region_start.ensures c.in_default-region_start.is (leaf-says a.m.now a.slot h.0).0)

pub overflow_add-result : goal.overflow_add-result
overflow_add-result c =
    let a = c.args in
    let h = head-leaf a.m.now a.slot c.head_of.result c.head_of.ensures _ (c.in-Ok.is ∙ ap Ok c.in-Leaf.is) in
    omega (arith, h.2, region-opened c.region_start.result a.m.now a.slot _ c.region_start.ensures c.in-Ok-region_start.is)

pub returns : goal.returns
returns c =
    let a = c.args in
    let h = head-leaf a.m.now a.slot c.head_of.result c.head_of.ensures _ (c.in-Ok.is ∙ ap Ok c.in-Leaf.is) in
    let o = region-opened c.region_start.result a.m.now a.slot _ c.region_start.ensures c.in-Ok-region_start.is in
    let e = text-there a.m.now a.slot _ _ h.0 h.1 h.2 o.1 o.0 in
    (e.0, e.1, record { from = slot_start a.slot + 128; block = refl; offset = omega (arith, o.1); inside = simp (length-take, length-drop) (omega (arith, h.2, o.0, o.1)) })

pub slice_bounds-result-end-2 : goal.slice_bounds-result-end-2
slice_bounds-result-end-2 c =
    let a = c.args in
    let h = head-leaf a.m.now a.slot c.head_of.result c.head_of.ensures _ (c.in-Ok.is ∙ ap Ok c.in-Leaf.is) in
    omega (arith, h.2, region-opened c.region_start.result a.m.now a.slot _ c.region_start.ensures c.in-Ok-region_start.is)
