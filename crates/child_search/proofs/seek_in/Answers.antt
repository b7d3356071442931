-- `seek_in` meets its contract: each turn adds one child up, and the search stops at it or goes on.
use mathlib.Core.Path.{sym, ◌∙◌}
use Prim.Native.Nat.{◌-◌}
use native.Mathlib.Omega.{arith}
use lib.ListN.{take}
use borrow.Author.Tests.{ltb-false}
use Rattle.pool.specs.Slot.{region_of, entries}
use Rattle.pool.proofs.Kids.{entries-length}
use Rattle.pool.proofs.Opened.{info-opened, info-there}
use Rattle.child_search.proofs.Sums.{within-plus, within_more}
use Rattle.child_search.proofs.Walk.{walk_start, walk-on, walk-stops, walk-past, walk-last}
use Rattle.child_search.proofs.seek_in.Goals as goal

pub overflow_sub-last : goal.overflow_sub-last
overflow_sub-last c = omega arith

pub new-left-requires : goal.new-left-requires
new-left-requires c = tt

pub loop-idx-init : goal.loop-idx-init
loop-idx-init c =
    let a = c.args in
    (omega arith, walk_start a.by a.at (take a.n (entries (region_of a.m.now a.slot))) c.new-left.result c.new-left.ensures)

pub returns-in_err-info : goal.returns-in_err-info
returns-in_err-info c =
    let a = c.args in
    let l = c.loop-idx in
    let k = c.info_of in
    absurd (info-there a.m.now a.slot l.idx (ltb-false _ _ c.requires.0) (omega arith) k.result k.ensures _ c.in_err-info.was)

pub plus-next-requires : goal.plus-next-requires
plus-next-requires c = let l = c.loop-idx in within_more l.left l.idx 16 (omega arith) l.invariant.1.small

pub stops-requires : goal.stops-requires
stops-requires c =
    let l = c.loop-idx in
    within_more c.plus-next.result _ 16 (omega arith) (within-plus l.left _ c.plus-next.result l.idx l.invariant.1.small c.plus-next.ensures)

pub returns-then-stops : goal.returns-then-stops
returns-then-stops c =
    let l = c.loop-idx in
    let a = c.args in
    let r = region_of a.m.now a.slot in
    let k = c.info_of in
    let o = info-opened a.m.now a.slot l.idx (ltb-false _ _ c.requires.0) (omega arith) k.result k.ensures _ c.in_ok-info.was in
    (walk-stops (entries r) (entries-length r) a.n (omega arith) a.by a.at l.idx l.left c.plus-next.result _ (omega arith) l.invariant.1 o c.plus-next.ensures (sym c.stops.ensures ∙ c.if-stops.true), (omega arith, within_more l.left l.idx 16 (omega arith) l.invariant.1.small))

pub overflow_add-idx : goal.overflow_add-idx
overflow_add-idx c = omega arith

pub loop-idx-smaller : goal.loop-idx-smaller
loop-idx-smaller c = omega arith

pub loop-idx-preserved : goal.loop-idx-preserved
loop-idx-preserved c =
    let l = c.loop-idx in
    let a = c.args in
    let r = region_of a.m.now a.slot in
    let k = c.info_of in
    let o = info-opened a.m.now a.slot l.idx (ltb-false _ _ c.requires.0) (omega arith) k.result k.ensures _ c.in_ok-info.was in
    (omega arith, walk-on (entries r) (entries-length r) a.n (omega arith) a.by a.at l.idx l.left c.plus-next.result _ (omega arith) l.invariant.1 o c.plus-next.ensures (omega arith) (sym c.stops.ensures ∙ c.if-stops.false))

pub plus-requires : goal.plus-requires
plus-requires c = let l = c.loop-idx in within_more l.left l.idx 16 (omega arith) l.invariant.1.small

pub most-requires : goal.most-requires
most-requires c =
    let l = c.loop-idx in
    within_more c.plus.result _ 16 (omega arith) (within-plus l.left _ c.plus.result l.idx l.invariant.1.small c.plus.ensures)

pub returns-then-most-at : goal.returns-then-most-at
returns-then-most-at c =
    let l = c.loop-idx in
    let a = c.args in
    let r = region_of a.m.now a.slot in
    let k = c.info_of-2 in
    let o = info-opened a.m.now a.slot l.idx (ltb-false _ _ c.requires.0) (omega arith) k.result k.ensures _ c.in_ok-end.was in
    (walk-past (entries r) (entries-length r) a.n (omega arith) a.by a.at l.idx l.left c.plus.result _ (omega arith) l.invariant.1 o c.plus.ensures (omega arith) _ c.most.ensures (omega arith), tt)

pub returns-in_err-end : goal.returns-in_err-end
returns-in_err-end c =
    let a = c.args in
    let l = c.loop-idx in
    let k = c.info_of-2 in
    absurd (info-there a.m.now a.slot l.idx (ltb-false _ _ c.requires.0) (omega arith) k.result k.ensures _ c.in_err-end.was)

pub returns : goal.returns
returns c =
    let l = c.loop-idx in
    let a = c.args in
    let r = region_of a.m.now a.slot in
    let k = c.info_of-2 in
    let o = info-opened a.m.now a.slot l.idx (ltb-false _ _ c.requires.0) (omega arith) k.result k.ensures _ c.in_ok-end.was in
    (walk-last (entries r) (entries-length r) a.n (omega arith) a.by a.at l.idx l.left c.plus.result _ (omega arith) l.invariant.1 o c.plus.ensures (omega arith) _ c.most.ensures (omega arith), (omega arith, within_more l.left l.idx 16 (omega arith) l.invariant.1.small))
