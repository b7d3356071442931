-- `sum_of` meets its contract.
use mathlib.Core.Path.{sym, ap, ◌∙◌}
use Prim.Native.Nat.{◌-◌}
use native.Mathlib.Omega.{arith}
use lib.ListN.{length-map, length-take}
use lib.Seq.{get_or-take}
use Rattle.text_info.specs.declared.TextSum.{TextSum}
use Rattle.pool.specs.declared.Kid.{Kid}
use Rattle.pool.specs.Slot.{no_kid}
use Rattle.node_children.specs.Kids.{kids}
use Rattle.child_search.specs.Sought.{sum_from}
use Rattle.child_search.proofs.Sums.{within-plus, within_more, within_none, sum-turn, sum-end}
use Rattle.child_search.proofs.sum_of.Goals as goal

pub held-n-requires : goal.held-n-requires
held-n-requires c = tt

pub new-acc-requires : goal.new-acc-requires
new-acc-requires c = tt

pub loop-i-init : goal.loop-i-init
loop-i-init c = (omega arith, c.well_formed.0.1.1.1.0.1.0.1, within_none c.new-acc.result c.new-acc.ensures, ap (λ (s : TextSum). sum_from s (kids c.args.list)) c.new-acc.ensures)

pub offset_bounds-list-i : goal.offset_bounds-list-i
offset_bounds-list-i c = omega arith

pub bounds-list-i : goal.bounds-list-i
bounds-list-i c = omega arith

pub plus-acc-requires : goal.plus-acc-requires
plus-acc-requires c = let l = c.loop-i in within_more l.acc l.i 16 (omega arith) l.invariant.2

pub overflow_add-i : goal.overflow_add-i
overflow_add-i c = omega arith

pub loop-i-smaller : goal.loop-i-smaller
loop-i-smaller c = omega arith

pub loop-i-preserved : goal.loop-i-preserved
loop-i-preserved c =
    let l = c.loop-i in
    let t = c.args.list in
    let w = length-take t.len t.arr in
    let g = ap (λ (k : Kid). k.info) (sym (get_or-take t.len t.arr l.i no_kid (omega arith))) in (
      omega arith,
      l.invariant.1,
      within-plus l.acc _ c.plus-acc.result l.i l.invariant.2 c.plus-acc.ensures,
      sum-turn (kids t) l.i l.acc _ c.plus-acc.result (omega arith) g c.plus-acc.ensures ∙ l.invariant.3,
    )

pub returns : goal.returns
returns c =
    let l = c.loop-i in
    let t = c.args.list in
    let w = length-take t.len t.arr in
    (sum-end (kids t) l.i l.acc (omega arith) ∙ l.invariant.3, within_more l.acc l.i 16 (omega arith) l.invariant.2)
