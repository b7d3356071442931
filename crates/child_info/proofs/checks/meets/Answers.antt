-- `meets` meets its contract.
use mathlib.Core.Path.{refl, sym, ap, ◌∙◌}
use Prim.Native.Nat.{◌-◌}
use native.Mathlib.Omega.{arith}
use lib.ListN.{length-map}
use lib.Seq.{get_or-take}
use borrow.Author.Tests.{eq-eqb, ne_eqb}
use Rattle.pool.specs.declared.Kid.{Kid}
use Rattle.pool.specs.Slot.{no_kid}
use Rattle.node_children.specs.Kids.{kids}
use Rattle.node_children.proofs.Lists.{kids-length}
use Rattle.child_info.specs.Kin.{slots_of, among}
use Rattle.child_info.proofs.Turns.{turn-hit, turn_on, turn_end, among-law}
use Rattle.child_info.proofs.checks.meets.Goals as goal

pub loop-i-init : goal.loop-i-init
loop-i-init c = (omega arith, c.well_formed.0.1.1.1.0.1.0.1, refl)

pub offset_bounds-list-i : goal.offset_bounds-list-i
offset_bounds-list-i c = omega arith

pub bounds-list-i : goal.bounds-list-i
bounds-list-i c = omega arith

pub place-requires : goal.place-requires
place-requires c = tt

pub returns-then-place-slot : goal.returns-then-place-slot
returns-then-place-slot c =
    let l = c.loop-i in
    let a = c.args in
    let w = kids-length a.list (omega arith) l.invariant.1 in
    let g = ap (λ (k : Kid). k.slot) (get_or-take a.list.len a.list.arr l.i no_kid (omega arith)) in
    turn-hit (λ ks. among a.slot (slots_of ks)) _ (among-law a.slot) (kids a.list) l.i (omega arith) (eq-eqb _ _ (g ∙ sym c.place.ensures ∙ c.if-place-slot.true)) ∙ l.invariant.2

pub overflow_add-i : goal.overflow_add-i
overflow_add-i c = omega arith

pub loop-i-smaller : goal.loop-i-smaller
loop-i-smaller c = omega arith

pub loop-i-preserved : goal.loop-i-preserved
loop-i-preserved c =
    let l = c.loop-i in
    let a = c.args in
    let w = kids-length a.list (omega arith) l.invariant.1 in
    let g = ap (λ (k : Kid). k.slot) (get_or-take a.list.len a.list.arr l.i no_kid (omega arith)) in
    (omega arith, l.invariant.1, turn_on (λ ks. among a.slot (slots_of ks)) _ (among-law a.slot) (kids a.list) l.i (omega arith) (ne_eqb _ _ (λ e. c.if-place-slot.false (c.place.ensures ∙ sym g ∙ e))) ∙ l.invariant.2)

pub returns : goal.returns
returns c =
    let l = c.loop-i in
    let a = c.args in
    let w = kids-length a.list (omega arith) l.invariant.1 in
    turn_end (λ ks. among a.slot (slots_of ks)) _ (among-law a.slot) (kids a.list) l.i (omega arith) ∙ l.invariant.2
