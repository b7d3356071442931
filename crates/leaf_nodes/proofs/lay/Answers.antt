-- `lay` meets its contract: the text is put where nothing was, and then the head is set.
use mathlib.Core.Path.{refl}
use native.Mathlib.Omega.{arith}
use Rattle.answer.proofs.Opened.{never-refused}
use Rattle.pool.proofs.Opened.{region-opened}
use Rattle.nodes.proofs.Heads.{inside}
use Rattle.nodes.proofs.Laid.{region-there}
use Rattle.leaf_nodes.proofs.Opened.{edited-told, whole-told, whole-laid}
use Rattle.leaf_nodes.proofs.lay.Goals as goal

pub overflow_add-end : goal.overflow_add-end
overflow_add-end c =
    let a = c.args in
    omega (arith, region-opened c.region_start.result a.m.now a.slot _ c.region_start.ensures c.in_ok-at.was)

pub returns-in_err-at : goal.returns-in_err-at
returns-in_err-at c =
    let a = c.args in
    absurd (region-there c.region_start.result a.m.now a.slot _ c.region_start.ensures c.in_err-at.was (inside a.m.now a.slot c.requires.0))

pub returns-in_err-n : goal.returns-in_err-n
returns-in_err-n c =
    let a = c.args in
    let o = region-opened c.region_start.result a.m.now a.slot _ c.region_start.ensures c.in_ok-at.was in
    never-refused _ _ _ (whole-told a.m.now a.slot o.0 _ _ o.1 refl a.text.now c.requires.1 _ _ c.replace.ensures) c.in_err-n.was

pub returns : goal.returns
returns c =
    let a = c.args in
    let o = region-opened c.region_start.result a.m.now a.slot _ c.region_start.ensures c.in_ok-at.was in (
      edited-told a.m.now a.slot o.0 _ _ o.1 refl 0 0 0 a.text.now _ _ c.replace.ensures _ c.in_ok-n.was c.set_leaf.result _ c.set_leaf.ensures,
      whole-laid a.m.now a.slot o.0 _ _ o.1 refl a.text.now c.requires.1 _ _ c.replace.ensures _ c.in_ok-n.was c.set_leaf.result _ c.set_leaf.ensures,
    )

pub slice_bounds-replace-end : goal.slice_bounds-replace-end
slice_bounds-replace-end c =
    let a = c.args in
    omega (arith, region-opened c.region_start.result a.m.now a.slot _ c.region_start.ensures c.in_ok-at.was)
