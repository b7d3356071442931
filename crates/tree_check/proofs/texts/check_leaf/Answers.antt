-- `check_leaf` meets its contract: the text is the part of the memory that is lent.
use native.Mathlib.Omega.{arith}
use Rattle.leaf_bytes.specs.Leaf.{leaf_of}
use Rattle.pool.specs.Slot.{region_of}
use Rattle.pool.proofs.Opened.{region-opened}
use Rattle.nodes.proofs.Heads.{inside}
use Rattle.nodes.proofs.Laid.{region-there, text-lent}
use Rattle.tree_check.proofs.Ends.{text_same}
use Rattle.tree_check.proofs.texts.check_leaf.Goals as goal

pub overflow_add-at : goal.overflow_add-at
overflow_add-at c = let a = c.args in omega (arith, region-opened c.region_start.result a.m.now a.slot _ c.region_start.ensures c.in-Ok.is)

pub slice_bounds-check_text-end : goal.slice_bounds-check_text-end
slice_bounds-check_text-end c = let a = c.args in omega (arith, region-opened c.region_start.result a.m.now a.slot _ c.region_start.ensures c.in-Ok.is)

pub returns-in_default : goal.returns-in_default
returns-in_default c = let a = c.args in absurd (region-there c.region_start.result a.m.now a.slot _ c.region_start.ensures c.in_default.is (inside a.m.now a.slot c.requires.0))

pub returns : goal.returns
returns c =
    let a = c.args in
    let o = region-opened c.region_start.result a.m.now a.slot _ c.region_start.ensures c.in-Ok.is in
    text_same _ (leaf_of (region_of a.m.now a.slot) a.n) (text-lent a.m.now a.slot _ a.n o.1 c.requires.1) c.check_text.result c.check_text.ensures
