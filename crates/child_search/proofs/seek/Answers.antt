-- `seek` meets its contract.
use mathlib.Core.Path.{refl, sym, ap, ◌∙◌}
use Prim.Native.Nat.{◌-◌}
use native.Mathlib.Omega.{arith}
use lib.ListN.{length-map}
use lib.Seq.{get_or-take}
use Rattle.pool.specs.declared.Kid.{Kid}
use Rattle.pool.specs.Slot.{no_kid}
use Rattle.node_children.specs.Kids.{kids}
use Rattle.child_search.specs.Sought.{stops_at}
use Rattle.node_children.proofs.Lists.{kids-length}
use Rattle.child_search.proofs.Sums.{within-plus, within_more, hit, last, on}
use Rattle.child_search.proofs.seek.Goals as goal

pub overflow_sub-last : goal.overflow_sub-last
overflow_sub-last c = omega arith

pub loop-i-init : goal.loop-i-init
loop-i-init c = (omega arith, c.well_formed.0.1.1.1.0.1.0.1, c.requires.2, refl)

pub offset_bounds-list-i : goal.offset_bounds-list-i
offset_bounds-list-i c = omega arith

pub bounds-list-i : goal.bounds-list-i
bounds-list-i c = omega arith

pub plus-next-requires : goal.plus-next-requires
plus-next-requires c = let l = c.loop-i in within_more l.left l.i 16 (omega arith) l.invariant.2

pub stops-requires : goal.stops-requires
stops-requires c =
    let l = c.loop-i in
    within_more c.plus-next.result _ 16 (omega arith) (within-plus l.left _ c.plus-next.result l.i l.invariant.2 c.plus-next.ensures)

pub returns-then-stops : goal.returns-then-stops
returns-then-stops c =
    let l = c.loop-i in
    let a = c.args in
    let t = a.list in
    let w = kids-length t (omega arith) l.invariant.1 in
    let g = ap (λ (k : Kid). k.info) (sym (get_or-take t.len t.arr l.i no_kid (omega arith))) in
    record {
      is = hit (stops_at a.m a.at) (kids t) l.i l.left _ c.plus-next.result (omega arith) g c.plus-next.ensures (sym c.stops.ensures ∙ c.if-stops.true) ∙ l.invariant.3;
      child = omega arith;
      small = l.invariant.2;
    }

pub overflow_add-i : goal.overflow_add-i
overflow_add-i c = omega arith

pub loop-i-smaller : goal.loop-i-smaller
loop-i-smaller c = omega arith

pub loop-i-preserved : goal.loop-i-preserved
loop-i-preserved c =
    let l = c.loop-i in
    let a = c.args in
    let t = a.list in
    let w = kids-length t (omega arith) l.invariant.1 in
    let g = ap (λ (k : Kid). k.info) (sym (get_or-take t.len t.arr l.i no_kid (omega arith))) in (
      omega arith,
      l.invariant.1,
      within-plus l.left _ c.plus-next.result l.i l.invariant.2 c.plus-next.ensures,
      on (stops_at a.m a.at) (kids t) l.i l.left _ c.plus-next.result (omega arith) g c.plus-next.ensures (sym c.stops.ensures ∙ c.if-stops.false) ∙ l.invariant.3,
    )

pub returns : goal.returns
returns c =
    let l = c.loop-i in
    let a = c.args in
    let t = a.list in
    let w = kids-length t (omega arith) l.invariant.1 in
    record { is = last (stops_at a.m a.at) (kids t) l.i l.left (omega arith) ∙ l.invariant.3; child = omega arith; small = l.invariant.2 }
