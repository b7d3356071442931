-- `leaf_info` meets its contract: the text is the part of the memory that is lent.
use mathlib.Core.Path.{ap, ◌∙◌}
use native.Mathlib.Omega.{arith}
use Rattle.text_info.specs.Info.{leaf_info}
use Rattle.pool.proofs.Opened.{region-opened}
use Rattle.nodes.proofs.Heads.{inside}
use Rattle.nodes.proofs.Laid.{region-there, text-lent}
use Rattle.nodes.proofs.leaf_info.Goals as goal

pub overflow_add-at : goal.overflow_add-at
overflow_add-at c = let a = c.args in omega (arith, region-opened c.region_start.result a.m.now a.slot _ c.region_start.ensures c.in_ok-at.was)

pub returns-in_err-at : goal.returns-in_err-at
returns-in_err-at c = let a = c.args in absurd (region-there c.region_start.result a.m.now a.slot _ c.region_start.ensures c.in_err-at.was (inside a.m.now a.slot c.requires.0))

pub returns : goal.returns
returns c =
    let a = c.args in
    let o = region-opened c.region_start.result a.m.now a.slot _ c.region_start.ensures c.in_ok-at.was in
    c.from_str.ensures ∙ ap leaf_info (text-lent a.m.now a.slot _ a.n o.1 c.requires.1)

pub slice_bounds-from_str-end : goal.slice_bounds-from_str-end
slice_bounds-from_str-end c = let a = c.args in omega (arith, region-opened c.region_start.result a.m.now a.slot _ c.region_start.ensures c.in_ok-at.was)
