-- `copy_text` meets its contract: the text is the part of the memory that is lent, put where nothing was.
use native.Mathlib.Omega.{arith}
use Rattle.pool.proofs.Opened.{region-opened}
use Rattle.nodes.proofs.Heads.{inside}
use Rattle.nodes.proofs.Laid.{region-there, text-lent}
use Rattle.nodes.proofs.Copied.{copy-short, copy_done}
use Rattle.leaf_nodes.proofs.copy_text.Goals as goal

pub returns-in_err-at : goal.returns-in_err-at
returns-in_err-at c = let a = c.args in absurd (region-there c.region_start.result a.m.now a.slot _ c.region_start.ensures c.in_err-at.was (inside a.m.now a.slot c.requires.0))

pub returns-then-out-n : goal.returns-then-out-n
returns-then-out-n c = let a = c.args in copy-short a.m.now a.slot a.n a.out.now c.if-out-n.true

pub overflow_add-at : goal.overflow_add-at
overflow_add-at c = let a = c.args in omega (arith, region-opened c.region_start.result a.m.now a.slot _ c.region_start.ensures c.in_ok-at.was)

pub returns : goal.returns
returns c =
    let a = c.args in
    let o = region-opened c.region_start.result a.m.now a.slot _ c.region_start.ensures c.in_ok-at.was in
    copy_done a.m.now a.slot a.n a.out.now c.if-out-n.false c.requires.1 o.0 _ (text-lent a.m.now a.slot _ a.n o.1 c.requires.1) _ _ c.replace.ensures

pub slice_bounds-replace-end : goal.slice_bounds-replace-end
slice_bounds-replace-end c = let a = c.args in omega (arith, region-opened c.region_start.result a.m.now a.slot _ c.region_start.ensures c.in_ok-at.was)
