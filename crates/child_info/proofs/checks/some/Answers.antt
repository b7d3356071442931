-- `some` meets its contract.
use mathlib.Core.Path.{refl, sym, ap, ◌∙◌}
use Prim.Native.Nat.{◌-◌}
use native.Mathlib.Omega.{arith}
use lib.ListN.{length-map}
use lib.Seq.{get_or-take}
use Rattle.pool.specs.Slot.{no_kid}
use Rattle.node_children.specs.Kids.{kids}
use Rattle.node_children.proofs.Lists.{kids-length}
use Rattle.child_info.specs.Kin.{asks_of, some_of}
use Rattle.child_info.proofs.Turns.{turn-hit, turn_on, turn_end, some-law}
use Rattle.child_info.proofs.checks.some.Goals as goal

pub loop-i-init : goal.loop-i-init
loop-i-init c = (omega arith, c.well_formed.1.0.1.1.1.0.1.0.1, refl)

pub offset_bounds-list-i : goal.offset_bounds-list-i
offset_bounds-list-i c = omega arith

pub bounds-list-i : goal.bounds-list-i
bounds-list-i c = omega arith

pub asks-requires : goal.asks-requires
asks-requires c = tt

pub returns-then-asks : goal.returns-then-asks
returns-then-asks c =
    let l = c.loop-i in
    let a = c.args in
    let w = kids-length a.list (omega arith) l.invariant.1 in
    let g = get_or-take a.list.len a.list.arr l.i no_kid (omega arith) in
    let e = ap (asks_of a.q a.m.now) g ∙ sym c.asks.ensures ∙ c.if-asks.true in
    turn-hit (some_of a.q a.m.now) _ (some-law a.q a.m.now) (kids a.list) l.i (omega arith) e ∙ l.invariant.2

pub overflow_add-i : goal.overflow_add-i
overflow_add-i c = omega arith

pub loop-i-smaller : goal.loop-i-smaller
loop-i-smaller c = omega arith

pub loop-i-preserved : goal.loop-i-preserved
loop-i-preserved c =
    let l = c.loop-i in
    let a = c.args in
    let w = kids-length a.list (omega arith) l.invariant.1 in
    let g = get_or-take a.list.len a.list.arr l.i no_kid (omega arith) in
    let e = ap (asks_of a.q a.m.now) g ∙ sym c.asks.ensures ∙ c.if-asks.false in
    (omega arith, l.invariant.1, turn_on (some_of a.q a.m.now) _ (some-law a.q a.m.now) (kids a.list) l.i (omega arith) e ∙ l.invariant.2)

pub returns : goal.returns
returns c =
    let l = c.loop-i in
    let a = c.args in
    let w = kids-length a.list (omega arith) l.invariant.1 in
    turn_end (some_of a.q a.m.now) _ (some-law a.q a.m.now) (kids a.list) l.i (omega arith) ∙ l.invariant.2
